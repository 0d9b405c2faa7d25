-- Worked examples: lines with their word, their bytes and how they end. Assumes nothing.
use Rattle.std.specs.Prelude.{◌≡◌, refl, ℕ, List, [], ◌∷◌, map}
use Prim.Native.String.{String}
use Rattle.text.specs.Text.{ascii}
use Rattle.text.specs.Digits.{value_of}
use Rattle.lines.specs.declared.Stage.TheVariants.{Start}
use Rattle.lines.specs.declared.Ended.{Ended}
use Rattle.lines.specs.declared.Ended.TheVariants.{Passed, Whole, Wrong}
use Rattle.lines.specs.Lines.{Said, first_of, letter_of, between_of, second_of, said_of}

pub record Row : Type 0 where
  pub line : String
  pub word : String
  pub bytes : List ℕ
  pub end : Ended

abbrev pub rows : List Row
rows =
    record { line = "board 01fF  a0 "; word = "board"; bytes = 1 ∷ 255 ∷ 160 ∷ []; end = Whole }
    ∷ record { line = "  sheet"; word = "sheet"; bytes = []; end = Whole }
    ∷ record { line = "lookup 0 1"; word = "lookup"; bytes = []; end = Wrong }
    ∷ record { line = "header 020"; word = "header"; bytes = 2 ∷ []; end = Wrong }
    ∷ record { line = "header 02 # x"; word = "header"; bytes = 2 ∷ []; end = Wrong }
    ∷ record { line = "  # header 02"; word = ""; bytes = []; end = Passed }
    ∷ record { line = "   "; word = ""; bytes = []; end = Passed }
    ∷ []

abbrev said_by : Row → Said
said_by r = record { letters = ascii r.word; bytes = r.bytes; end = r.end }

pub examples_hold : map (λ r. said_of Start (ascii r.line)) rows ≡ map said_by rows
unfolding said_of first_of letter_of between_of second_of value_of ascii
examples_hold = refl
