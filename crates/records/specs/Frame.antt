-- Document 01: "Byte 0 is version 1. Then records; each has a two-byte length first". Bytes in this frame taken one at a time: where the
-- next one falls, what it is there, and what all of them are where they end. FrameLaws joins this with the parts of Records.
-- Assumes nothing.
use Rattle.std.specs.Prelude.{ℕ, ◌+◌, ◌-◌, ◌*◌, cond, List, [], ◌∷◌, length, eqb}
use Rattle.records.specs.declared.frame.Stage.{Stage}
use Rattle.records.specs.declared.frame.Stage.TheVariants.{Start, Other, Between, Length, Inside}
use Rattle.records.specs.declared.frame.Event.{Event}
use Rattle.records.specs.declared.frame.Event.TheVariants.{Version, Foreign, Passed, Half, Begins, Byte}
use Rattle.records.specs.declared.frame.Ending.{Ending}
use Rattle.records.specs.declared.frame.Ending.TheVariants.{Empty, Unread, Whole, Cut}
use Rattle.records.specs.Records.{parts_of}

-- ## One byte

unfoldable pub version_of : ℕ → Event
version_of byte = cond (eqb byte 1) Version Foreign

-- what a byte is, where it falls
abbrev pub event_of : Stage → ℕ → Event
event_of Start byte = version_of byte
event_of Other byte = Passed
event_of Between byte = Half byte
event_of (Length high) byte = Begins (high * 256 + byte)
event_of (Inside left) byte = Byte byte (left - 1)

-- a record of which so many bytes are to come: with none it is whole
unfoldable pub inside_of : ℕ → Stage
inside_of left = cond (eqb left 0) Between (Inside left)

-- where the byte after it falls
abbrev pub stage_after : Event → Stage
stage_after Version = Between
stage_after Foreign = Other
stage_after Passed = Other
stage_after (Half high) = Length high
stage_after (Begins size) = inside_of size
stage_after (Byte byte left) = inside_of left

-- ## Any bytes

unfoldable pub stage_of : Stage → List ℕ → Stage
stage_of g [] = g
stage_of g (b ∷ s) = stage_of (stage_after (event_of g b)) s

-- any account of the bytes, kept by hearing of each what it is
unfoldable pub heard_of : {A : Type 0} → (A → Event → A) → Stage → A → List ℕ → A
heard_of hear g a [] = a
heard_of hear g a (b ∷ s) = heard_of hear (stage_after (event_of g b)) (hear a (event_of g b)) s

abbrev pub ending_of : Stage → Ending
ending_of Start = Empty
ending_of Other = Unread
ending_of Between = Whole
ending_of (Length high) = Cut
ending_of (Inside left) = Cut

-- ## The same of all the bytes at once

-- the bytes of a record, of which so many are to come
unfoldable pub heard_bytes : {A : Type 0} → (A → Event → A) → ℕ → A → List ℕ → A
heard_bytes hear left a [] = a
heard_bytes hear left a (b ∷ s) = heard_bytes hear (left - 1) (hear a (Byte b (left - 1))) s

-- a record with this part
unfoldable pub heard_part : {A : Type 0} → (A → Event → A) → A → List ℕ → A
heard_part hear a part = heard_bytes hear (length part) (hear a (Begins (length part))) part

unfoldable pub end_of : List ℕ → Ending
end_of [] = Empty
end_of (v ∷ s) = cond (eqb v 1) (cond (parts_of s).whole Whole Cut) Unread
