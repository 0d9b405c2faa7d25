-- Document 02, E8: the number that a build gives back, and what every byte of the lent slice holds then; and the same of a build that asks
-- the second verdict in place of the audit. Assumes nothing.
use Rattle.std.specs.Prelude.{cond, List, ℕ, length, eqb, ltb}
use Rattle.board_record.specs.Host.{host_of_part}
use Rattle.sheet.specs.Sheet.{entries_of}
use Rattle.audit_rule.specs.Audit.{audit_number, sound_number}
use Rattle.index_layout.specs.Places.{index_size}
use Rattle.index_slots.specs.Slots.{Slot}
use Rattle.index_table.specs.Table.{built}
use Rattle.index_pass.specs.Pass.{slots_below}

-- ## The number

-- 11: the slice is shorter than the index, "1,024 bytes and 256 a function"
unfoldable pub from11 : List ℕ → ℕ → ℕ
from11 s room = cond (ltb room (index_size (length (entries_of s)))) 11 0

-- a verdict's number first
abbrev pub number_after : ℕ → List ℕ → ℕ → ℕ
number_after verdict s room = cond (eqb verdict 0) (from11 s room) verdict

-- the audit's
unfoldable pub build_number : List ℕ → List ℕ → ℕ → ℕ
build_number host s room = number_after (audit_number host s) s room

-- the second verdict's
unfoldable pub sound_build_number : List ℕ → List ℕ → ℕ → ℕ
sound_build_number host s room = number_after (sound_number host s) s room

-- ## The bytes

abbrev pub root_of : List ℕ → ℕ
root_of host = (host_of_part host).first_bus

-- the owners as slots, in the order in which they are inserted
abbrev pub owner_slots : List ℕ → List ℕ → List Slot
owner_slots host s = slots_below (root_of host) s

abbrev pub index_of : List ℕ → List ℕ → List ℕ → List ℕ
index_of host s o = built (length (entries_of s)) (root_of host) (owner_slots host s) o

-- refused, the slice stays as it was
abbrev pub left_by : ℕ → List ℕ → List ℕ → List ℕ → List ℕ
left_by number host s o = cond (eqb number 0) (index_of host s o) o

unfoldable pub index_after : List ℕ → List ℕ → List ℕ → List ℕ
index_after host s o = left_by (build_number host s (length o)) host s o

unfoldable pub sound_index_after : List ℕ → List ℕ → List ℕ → List ℕ
sound_index_after host s o = left_by (sound_build_number host s (length o)) host s o
