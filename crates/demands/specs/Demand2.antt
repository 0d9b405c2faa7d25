-- Demand 2: "Every lawful packet written is read back the same, and every header read is written back to the same bytes." Over the layout
-- of document 01, for any room and any bytes that follow. Assumes nothing.
use Rattle.std.specs.Prelude.{ℕ, ◌≤◌, ◌≡◌, ◌↔◌, List, ◌++◌, length, take, drop}
use Rattle.endian.specs.Endian.{Bytes}
use Rattle.pairs.specs.declared.Row.{Row}
use Rattle.packet.specs.declared.Packet.{Packet}
use Rattle.packet.specs.declared.Verdict.TheVariants.{Lawful}
use Rattle.packet.specs.Verdict.{verdict_of}
use Rattle.tlp.specs.declared.Reading.TheVariants.{Accepted}
use Rattle.tlp.specs.declared.Writing.TheVariants.{Written}
use Rattle.tlp.specs.Reading.{read_of}
use Rattle.tlp_layout.specs.Layout.{size}
use Rattle.tlp.specs.Writing.{write_of, room_after}

pub record Demand2 : Type 0 where
  -- what was written is read back as the same packet, whatever follows it in the room
  pub written_is_read_back : (p : Packet) (room : List ℕ) (n : ℕ) → write_of p (length room) ≡ Written n → read_of (room_after p room)
      ≡ Accepted p
  -- what was read is written back to the header's first 12 or 16 bytes
  pub read_is_written_back : (s : List ℕ) (p : Packet) (room : List ℕ) → Bytes s → read_of s ≡ Accepted p → size p ≤ length room
      → (write_of p (length room) ≡ Written (size p)) × (room_after p room ≡ take (size p) s ++ drop (size p) room)
  -- lawful packets and accepted headers are the same things
  pub lawful_is_read : (p : Packet) → ((row : Row) × (verdict_of p ≡ Lawful row)) ↔ ((s : List ℕ) × Bytes s × (read_of s ≡ Accepted p))
