-- What the definition says of an input, told step by step as the program goes: the two bytes of an ID, and then what the annotator's says,
-- of the lines of both ends. That the body prints these, each once and in order, is in no contract (as of the annotator), and tests/follow
-- compares. Assumes nothing.
use Rattle.std.specs.Prelude.{ℕ, ◌≤◌, ◌<◌, ◌≡◌, length}
use Rattle.std.proofs.Common.{sym, ◌∙◌, arith, lt-ltb, le-ltb}
use mathlib.Core.List.{List, [], ◌∷◌, ◌++◌, flatten}
use Rattle.text.specs.Text.{ascii}
use Rattle.endian.specs.Endian.{be}
use Rattle.sheet.specs.Sheet.{full_sheet}
use Rattle.trace.specs.Trace.{fresh, end_line}
use Rattle.trace.proofs.TraceLaws.{state_all, lines_all}
use Rattle.trace_ends.specs.Ends.{line_ends}
use Rattle.stream_trace.specs.Program.{program_with}
use Rattle.stream_trace.specs.ProgramLaws.{size_of, program_no_length, program_long, program_short, program_pieces}
use Rattle.stream_follow.specs.Program.{follow_of}

-- an input that ends inside the ID
pub follow_no_id : (s : List ℕ) → length s < 2 → follow_of s ≡ ascii "refused 20\n"
unfolding follow_of
follow_no_id s h = rw (lt-ltb (length s) 2 h)

-- x and y are the bytes of the ID
module _ (x y : ℕ) where
  abbrev pub id_of : ℕ
  id_of = be 2 (x ∷ y ∷ []) 0

  from_id : (s : List ℕ) → follow_of (x ∷ y ∷ s) ≡ program_with (line_ends id_of) s
  unfolding follow_of be
  from_id s = rw (le-ltb (length (x ∷ y ∷ s)) 2 (omega arith))

  pub follow_no_length : (s : List ℕ) → length s < 2 → follow_of (x ∷ y ∷ s) ≡ ascii "refused 20\n"
  follow_no_length s h = from_id s ∙ program_no_length (line_ends id_of) s h

  -- a and b are the bytes of the length
  module _ (a b : ℕ) where
    -- at once, whatever follows
    pub follow_long : (s : List ℕ) → full_sheet < size_of a b → follow_of (x ∷ y ∷ (a ∷ b ∷ s)) ≡ ascii "refused 22\n"
    follow_long s h = from_id (a ∷ b ∷ s) ∙ program_long (line_ends id_of) a b s h

    pub follow_short : (s : List ℕ) → size_of a b ≤ full_sheet → length s < size_of a b → follow_of (x ∷ y ∷ (a ∷ b ∷ s)) ≡ ascii "refused 20\n"
    follow_short s h l = from_id (a ∷ b ∷ s) ∙ program_short (line_ends id_of) a b s h l

    -- each piece's lines, then the end's
    pub follow_pieces : (sheet : List ℕ) (pieces : List (List ℕ)) → length sheet ≡ size_of a b → size_of a b ≤ full_sheet
        → lines_all (line_ends id_of sheet) fresh pieces ++ end_line (state_all fresh pieces)
        ≡ follow_of (x ∷ y ∷ (a ∷ b ∷ (sheet ++ flatten pieces)))
    follow_pieces sheet pieces l h =
        program_pieces (line_ends id_of) a b sheet pieces l h ∙ sym (from_id (a ∷ b ∷ (sheet ++ flatten pieces)))
