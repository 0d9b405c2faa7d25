-- What the definition says of an input, told step by step as the program goes: the two bytes of a length, then a sheet, then the lines of
-- the trace's pieces, wherever the cuts fall, and of its end. What is left to be printed after each piece is in the contracts of `feed_by`
-- and `finish`; that the body prints each once, in order, is in no contract, and tests/annotate compares. Assumes nothing.
use Rattle.std.specs.Prelude.{◌≡◌, refl, Bool, true, false, cond, ℕ, ◌≤◌, ◌<◌, ltb, Option, Some, None}
use Rattle.std.proofs.Math.Path.{sym, ap}
use Rattle.std.proofs.Common.{◌∙◌, arith, lt-ltb, le-ltb, ltb-false}
use mathlib.Core.List.{List, [], ◌∷◌, ◌++◌, flatten}
use Rattle.std.proofs.Math.ListN.{length, length-append}
use Rattle.std.proofs.Math.Seq.{take_at, drop_at}
use Rattle.text.specs.Text.{ascii}
use Rattle.endian.specs.Endian.{be}
use Rattle.sheet.specs.Sheet.{full_sheet}
use Rattle.trace.specs.Trace.{fresh, end_line}
use Rattle.trace.proofs.TraceLaws.{state_all, lines_all, pieces_told}
use Rattle.stream_trace.specs.Program.{opening_of, over_sheet, from_opening, program_with}

-- ## A length

pub opening_long : (size : ℕ) → full_sheet < size → opening_of size ≡ None
unfolding opening_of
opening_long size h = rw (lt-ltb full_sheet size h)

pub opening_sheet : (size : ℕ) → size ≤ full_sheet → opening_of size ≡ Some size
unfolding opening_of
opening_sheet size h = rw (le-ltb full_sheet size h)

pub opened_le : (size n : ℕ) (o : Option ℕ) → o ≡ opening_of size → o ≡ Some n → n ≤ full_sheet
unfolding opening_of
opened_le size n o e q = go (ltb full_sheet size) refl (sym e ∙ q)
  where
    go : (b : Bool) → ltb full_sheet size ≡ b → cond b None (Some size) ≡ Some n → n ≤ full_sheet
    go true l q = let z : ◌≡◌ {A = ℕ} 0 1 = cc in absurd (omega arith)
    go false l q = let same : size ≡ n = cc in omega (arith, ltb-false full_sheet size l)

-- ## An input

-- a and b are the bytes of the length
abbrev pub size_of : ℕ → ℕ → ℕ
size_of a b = be 2 (a ∷ b ∷ []) 0

module _ (line : List ℕ → ℕ → List ℕ → List ℕ) where
  -- an input that ends inside the length
  pub program_no_length : (s : List ℕ) → length s < 2 → program_with line s ≡ ascii "refused 20\n"
  unfolding program_with
  program_no_length s h = rw (lt-ltb (length s) 2 h)

  module _ (a b : ℕ) where
    from_length_lem : (s : List ℕ) → program_with line (a ∷ b ∷ s) ≡ from_opening line (opening_of (size_of a b)) s
    unfolding program_with be
    from_length_lem s = rw (le-ltb (length (a ∷ b ∷ s)) 2 (omega arith))

    -- at once, whatever follows
    pub program_long : (s : List ℕ) → full_sheet < size_of a b → program_with line (a ∷ b ∷ s) ≡ ascii "refused 22\n"
    program_long s h = from_length_lem s ∙ ap (λ (o : Option ℕ). from_opening line o s) (opening_long (size_of a b) h)

    pub program_short : (s : List ℕ) → size_of a b ≤ full_sheet → length s < size_of a b
        → program_with line (a ∷ b ∷ s) ≡ ascii "refused 20\n"
    unfolding over_sheet
    program_short s h l =
        from_length_lem s ∙ ap (λ (o : Option ℕ). from_opening line o s) (opening_sheet (size_of a b) h) ∙ rw (lt-ltb (length s) (size_of a b) l)

    -- each piece's lines, then the end's
    pub program_pieces : (sheet : List ℕ) (pieces : List (List ℕ)) → length sheet ≡ size_of a b → size_of a b ≤ full_sheet
        → lines_all (line sheet) fresh pieces ++ end_line (state_all fresh pieces) ≡ program_with line (a ∷ b ∷ (sheet ++ flatten pieces))
    unfolding over_sheet
    program_pieces sheet pieces l h =
        let size = size_of a b in
        let s = sheet ++ flatten pieces in
        let enough : size ≤ length s = omega (arith, length-append sheet (flatten pieces)) in
        pieces_told (line sheet) pieces
        ∙ sym
        (from_length_lem s
        ∙ ap (λ (o : Option ℕ). from_opening line o s) (opening_sheet size h)
        ∙ rw (le-ltb (length s) size enough, take_at sheet (flatten pieces) size l, drop_at sheet (flatten pieces) size l))
