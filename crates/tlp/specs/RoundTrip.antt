-- The round trip of headers: every packet that is written is read back the same, and every header that is read is written back to the
-- same bytes, so lawful packets and accepted headers are the same things. Assumes nothing.
use Rattle.std.specs.Prelude.{ℕ, ◌≤◌, ◌≡◌, refl, ◌↔◌, List, [], ◌++◌, length, take, drop}
use Rattle.std.proofs.Common.{sym, append-nil, arith}
use Rattle.endian.specs.Endian.{Bytes}
use Rattle.pairs.specs.declared.Row.{Row}
use Rattle.packet.specs.declared.Packet.{Packet}
use Rattle.packet.specs.declared.Verdict.{Verdict}
use Rattle.packet.specs.declared.Verdict.TheVariants.{Lawful, Refused as Unlawful}
use Rattle.packet.specs.Verdict.{verdict_of}
use Rattle.tlp.specs.declared.Reading.TheVariants.{Accepted}
use Rattle.tlp.specs.declared.Writing.TheVariants.{Written}
use Rattle.tlp_layout.specs.Layout.{layout, size}
use Rattle.tlp_layout.specs.LayoutBytes.{bytes_layout}
use Rattle.tlp.specs.Reading.{read_of}
use Rattle.tlp.specs.ReadingLaws.{read_layout, layout_read}
use Rattle.tlp.specs.Writing.{write_as, write_of, room_after}
use Rattle.tlp.specs.WritingLaws.{outcome_written}

-- ## What is written is read, and what is read is written

-- only a lawful packet is written
written_elim : (p : Packet) (room n : ℕ) → write_of p room ≡ Written n → (row : Row) × (verdict_of p ≡ Lawful row)
unfolding write_of
written_elim p room n = go (verdict_of p) refl
  where
    go : (v : Verdict) → verdict_of p ≡ v → write_as v (size p) room ≡ Written n → (row : Row) × (verdict_of p ≡ Lawful row)
    go (Lawful row) v w = (row, v)
    go (Unlawful m) v w = let z : ◌≡◌ {A = ℕ} 0 1 = cc in absurd (omega arith)

-- every packet that is written is read back the same, whatever follows
pub read_write : (p : Packet) (room : List ℕ) (n : ℕ) → write_of p (length room) ≡ Written n → read_of (room_after p room) ≡ Accepted p
unfolding room_after
read_write p room n w = let l = written_elim p (length room) n w in rw w (read_layout p l.0 (drop n room) l.1)

-- every header that is accepted is written back to its first 12 or 16 bytes
pub write_read : (s : List ℕ) (p : Packet) (room : List ℕ) → Bytes s → read_of s ≡ Accepted p → size p ≤ length room
    → (write_of p (length room) ≡ Written (size p)) × (room_after p room ≡ take (size p) s ++ drop (size p) room)
unfolding room_after
write_read s p room bytes e fits =
    let w = layout_read s p bytes e in
    let written = sym (outcome_written w.row p room w.lawful fits).0 in
    (written, rw (written, w.bytes))

-- ## Lawful packets and accepted headers are the same things

pub read_lawful : (s : List ℕ) (p : Packet) → Bytes s → read_of s ≡ Accepted p → (row : Row) × (verdict_of p ≡ Lawful row)
read_lawful s p bytes e = let w = layout_read s p bytes e in (w.row, w.lawful)

pub lawful_read_iff : (p : Packet) → ((row : Row) × (verdict_of p ≡ Lawful row)) ↔ ((s : List ℕ) × Bytes s × (read_of s ≡ Accepted p))
lawful_read_iff p = (
  λ l. (layout p, bytes_layout l.0 p l.1, rw append-nil at (read_layout p l.0 [] l.1)),
  λ h. read_lawful h.0 p h.1 h.2,
)

-- two lawful packets with one layout are one packet
pub layout_unique : (p q : Packet) (row row' : Row) → verdict_of p ≡ Lawful row → verdict_of q ≡ Lawful row' → layout p ≡ layout q → p ≡ q
layout_unique p q row row' lawful lawful' same =
    let a = read_layout p row [] lawful in
    let b = read_layout q row' [] lawful' in
    cc

-- later bytes are not looked at
pub read_take : (s t : List ℕ) (p : Packet) → Bytes s → read_of s ≡ Accepted p → read_of (take (size p) s ++ t) ≡ Accepted p
read_take s t p bytes e = let w = layout_read s p bytes e in rw w.bytes at (read_layout p w.row t w.lawful)
