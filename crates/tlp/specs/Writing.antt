-- Document 01, "The writer refuses": what writing a packet answers, and what the room then holds. Assumes nothing.
use Rattle.std.specs.Prelude.{ℕ, cond, List, ◌++◌, length, drop, ltb}
use Rattle.packet.specs.declared.Packet.{Packet}
use Rattle.packet.specs.declared.Verdict.{Verdict}
use Rattle.packet.specs.declared.Verdict.TheVariants.{Lawful, Refused as Unlawful}
use Rattle.packet.specs.Verdict.{verdict_of}
use Rattle.tlp.specs.declared.Writing.{Writing}
use Rattle.tlp.specs.declared.Writing.TheVariants.{Written, Refused}
use Rattle.tlp_layout.specs.Layout.{layout, size}

-- document 01's number of a writing
abbrev pub number_of : Writing → ℕ
number_of (Written n) = 0
number_of (Refused n) = n

-- the packet's own number (2, 10, 4 to 9), then short room (11)
abbrev pub write_as : Verdict → ℕ → ℕ → Writing
write_as (Unlawful n) size room = Refused n
write_as (Lawful row) size room = cond (ltb room size) (Refused 11) (Written size)

unfoldable pub write_of : Packet → ℕ → Writing
write_of p room = write_as (verdict_of p) (size p) room

-- the layout's bytes followed by what was there; unchanged when refused
abbrev pub room_as : Writing → Packet → List ℕ → List ℕ
room_as (Written n) p room = layout p ++ drop n room
room_as (Refused n) p room = room

unfoldable pub room_after : Packet → List ℕ → List ℕ
room_after p room = room_as (write_of p (length room)) p room
