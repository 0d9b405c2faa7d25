-- A trace's state as six numbers: the stage and its value, the number of the last whole record, how many bytes are kept, and the 16 kept
-- bytes as two big-endian numbers. Assumes nothing.
use Rattle.std.specs.Prelude.{ℕ, List, [], ◌∷◌}
use Rattle.endian.specs.Endian.{be}
use Rattle.records.specs.declared.frame.Stage.{Stage}
use Rattle.records.specs.declared.frame.Stage.TheVariants.{Start, Other, Between, Length, Inside}
use Rattle.trace.specs.declared.Trace.{Trace}

abbrev pub stage_number : Stage → ℕ
stage_number Start = 0
stage_number Other = 1
stage_number Between = 2
stage_number (Length high) = 3
stage_number (Inside left) = 4

-- 0 where the stage has none
abbrev pub stage_value : Stage → ℕ
stage_value Start = 0
stage_value Other = 0
stage_value Between = 0
stage_value (Length high) = high
stage_value (Inside left) = left

unfoldable pub numbers_of : Trace → List ℕ
numbers_of t =
    stage_number t.stage ∷ stage_value t.stage ∷ t.number ∷ t.kept
    ∷ be 8 t.head 0 ∷ be 8 t.head 8
    ∷ []
