-- A board of version 2 has the frame of version 1, which traces and sheets share: the frame is shown a first byte 1 in place of a 2.
-- Assumes nothing.
use Rattle.std.specs.Prelude.{ℕ, cond, List, [], ◌∷◌, eqb}
use Rattle.records.specs.declared.frame.Stage.{Stage}
use Rattle.records.specs.declared.frame.Stage.TheVariants.{Start, Other, Between, Length, Inside}
use Rattle.records.specs.Frame.{stage_of, heard_of}
use Rattle.board_feed.specs.declared.Tally.{Tally}
use Rattle.board_feed.specs.Tally.{heard_by}

-- what a byte is shown as, where it falls
abbrev pub shown_at : Stage → ℕ → ℕ
shown_at Start byte = cond (eqb byte 2) 1 byte
shown_at Other byte = byte
shown_at Between byte = byte
shown_at (Length high) byte = byte
shown_at (Inside left) byte = byte

-- a piece: after its first byte no byte is a version
abbrev pub shown : Stage → List ℕ → List ℕ
shown g [] = []
shown g (b ∷ s) = shown_at g b ∷ s

-- where the byte after a board's piece falls, and the tally then
abbrev pub board_stage : Stage → List ℕ → Stage
board_stage g s = stage_of g (shown g s)

abbrev pub board_heard : Stage → Tally → List ℕ → Tally
board_heard g t s = heard_of heard_by g t (shown g s)
