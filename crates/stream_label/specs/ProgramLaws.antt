-- What the definition says of an input, told step by step as the program goes: a host record, the two bytes of a length, a sheet, then the
-- lines of the trace's pieces by the sheet's index, wherever the cuts fall, and of its end. That the body prints these, each once and in
-- order, is in no contract (as of the annotator), and tests/label compares. Assumes nothing.
use Rattle.std.specs.Prelude.{◌≡◌, true, false, Option}
use Rattle.std.proofs.Math.Path.{sym, ap}
use Rattle.std.proofs.Common.{◌∙◌, arith}
use mathlib.Core.List.{List, ◌∷◌, ◌++◌, flatten}
use Prim.Native.Nat.{ℕ, ◌≤◌, ◌<◌}
use Rattle.std.proofs.Math.ListN.{length, length-append}
use Rattle.std.proofs.Math.Seq.{take_at, drop_at}
use borrow.Author.Tests.{lt-ltb, le-ltb, eq-eqb, ne_eqb}
use Rattle.text.specs.Text.{refusal_text}
use Rattle.endian.specs.Endian.{be}
use Rattle.board_record.specs.Host.{host_length, host_of_part, host_wrong}
use Rattle.sheet.specs.Sheet.{full_sheet}
use Rattle.audit_rule.specs.Audit.{audit_number}
use Rattle.trace.specs.Trace.{fresh, end_line}
use Rattle.trace.proofs.TraceLaws.{state_all, lines_all, pieces_told}
use Rattle.trace_line.specs.declared.Finder.TheVariants.{Index}
use Rattle.trace_line.specs.Finder.{line_by}
use Rattle.stream_trace.specs.Program.{opening_of}
use Rattle.stream_trace.specs.ProgramLaws.{opening_long, opening_sheet, size_of}
use Rattle.stream_label.specs.Program.{on_number, over_sheet, from_opening, from_length, from_host, program_of}
use Rattle.stream_label.specs.Indexed.{Indexed}

-- ## The host record

-- an input that ends inside it
pub program_no_host : (s : List ℕ) → length s < host_length → program_of s ≡ refusal_text 20
unfolding program_of
program_no_host s h = rw (lt-ltb (length s) host_length h)

module _ (host : List ℕ) (size : length host ≡ host_length) where
  from_host_lem : (s : List ℕ) → program_of (host ++ s) ≡ from_host host s
  unfolding program_of
  from_host_lem s =
      let enough : host_length ≤ length (host ++ s) = omega (arith, length-append host s) in
      rw (le-ltb (length (host ++ s)) host_length enough, take_at host s host_length size, drop_at host s host_length size)

  -- at once, whatever follows
  pub program_wrong_host : (s : List ℕ) → host_wrong (host_of_part host) ≡ true → program_of (host ++ s) ≡ refusal_text 26
  unfolding from_host
  program_wrong_host s e = from_host_lem s ∙ rw e

  -- ## The sheet

  module _ (right : host_wrong (host_of_part host) ≡ false) where
    past_host : (s : List ℕ) → program_of (host ++ s) ≡ from_length host s
    unfolding from_host
    past_host s = from_host_lem s ∙ rw right

    pub program_no_length : (s : List ℕ) → length s < 2 → program_of (host ++ s) ≡ refusal_text 20
    unfolding from_length
    program_no_length s h = past_host s ∙ rw (lt-ltb (length s) 2 h)

    -- a and b are the bytes of the length
    module _ (a b : ℕ) where
      from_length_lem : (s : List ℕ) → program_of (host ++ (a ∷ b ∷ s)) ≡ from_opening host (opening_of (size_of a b)) s
      unfolding from_length be
      from_length_lem s = past_host (a ∷ b ∷ s) ∙ rw (le-ltb (length (a ∷ b ∷ s)) 2 (omega arith))

      -- at once, whatever follows
      pub program_long : (s : List ℕ) → full_sheet < size_of a b → program_of (host ++ (a ∷ b ∷ s)) ≡ refusal_text 22
      program_long s h = from_length_lem s ∙ ap (λ (o : Option ℕ). from_opening host o s) (opening_long (size_of a b) h)

      module _ (h : size_of a b ≤ full_sheet) where
        opened : (s : List ℕ) → program_of (host ++ (a ∷ b ∷ s)) ≡ over_sheet host (size_of a b) s
        opened s = from_length_lem s ∙ ap (λ (o : Option ℕ). from_opening host o s) (opening_sheet (size_of a b) h)

        pub program_short : (s : List ℕ) → length s < size_of a b → program_of (host ++ (a ∷ b ∷ s)) ≡ refusal_text 20
        unfolding over_sheet
        program_short s l = opened s ∙ rw (lt-ltb (length s) (size_of a b) l)

        module _ (sheet : List ℕ) (l : length sheet ≡ size_of a b) where
          past_sheet : (s : List ℕ) → program_of (host ++ (a ∷ b ∷ (sheet ++ s))) ≡ on_number (audit_number host sheet) sheet s
          unfolding over_sheet
          past_sheet s =
              let enough : size_of a b ≤ length (sheet ++ s) = omega (arith, length-append sheet s) in
              opened (sheet ++ s)
              ∙ rw (le-ltb (length (sheet ++ s)) (size_of a b) enough, take_at sheet s (size_of a b) l, drop_at sheet s (size_of a b) l)

          -- the sheet indexed
          module _ (number : ℕ) (index : List ℕ) (is : Indexed host sheet number index) where
            -- at once, whatever follows
            pub program_refused : (s : List ℕ) → ¬ (number ≡ 0) → program_of (host ++ (a ∷ b ∷ (sheet ++ s))) ≡ refusal_text number
            unfolding on_number
            program_refused s d = past_sheet s ∙ rw (← is.number_is, ne_eqb number 0 d)

            -- each piece's lines by the index, then the end's
            pub program_pieces : (pieces : List (List ℕ)) → number ≡ 0
                → lines_all (line_by Index index) fresh pieces ++ end_line (state_all fresh pieces)
                ≡ program_of (host ++ (a ∷ b ∷ (sheet ++ flatten pieces)))
            unfolding on_number
            program_pieces pieces z =
                ap (λ (line : ℕ → List ℕ → List ℕ). lines_all line fresh pieces ++ end_line (state_all fresh pieces)) (is.lines_are z)
                ∙ pieces_told _ pieces
                ∙ sym (past_sheet (flatten pieces) ∙ rw (← is.number_is, eq-eqb number 0 z))
