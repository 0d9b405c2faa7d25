-- `sheet::check` meets its contract: the tests in document 01's order, each answer after the tests before it failed. Assumes nothing.
use mathlib.Core.Path.{sym, ◌∙◌}
use native.Mathlib.Omega.{arith}
use lib.ListN.{length}
use borrow.Author.Tests.{eq-eqb, ne_eqb, lt-ltb, le-ltb}
use Rattle.std.proofs.lemmas.Bool.{eqb-false}
use Rattle.records.specs.Limits.{most_functions}
use Rattle.sheet.specs.Sheet.{Framed, entries_from, from20, from21, from22, sheet_number}
use Rattle.sheet.proofs.CheckLaws.{count_entries}
use Rattle.sheet.proofs.check.Goals as goal
use Rattle.sheet.proofs.check.Goals.{Else-not-is_framed}

-- past the 20s
framed : (c : Else-not-is_framed) → Framed 1 c.args.sheet.now
framed c =
    record {
      inside = omega (arith, eqb-false (length c.args.sheet.now) 0 (sym c.is_empty.ensures ∙ c.if-is_empty.false));
      sized = sym c.is_framed.ensures
          ∙ c.if-not-is_framed.false;
    }

pub returns-then-is_empty : goal.returns-then-is_empty
unfolding sheet_number
returns-then-is_empty c = rw (sym c.is_empty.ensures ∙ c.if-is_empty.true)

pub returns-then-sheet-ne1 : goal.returns-then-sheet-ne1
unfolding sheet_number from21
returns-then-sheet-ne1 c = rw (sym c.is_empty.ensures ∙ c.if-is_empty.false, ne_eqb _ _ c.if-sheet-ne1.true)

pub returns-then-not-is_framed : goal.returns-then-not-is_framed
unfolding sheet_number from21 from20
returns-then-not-is_framed c = rw (sym c.is_empty.ensures ∙ c.if-is_empty.false, eq-eqb _ _ c.if-sheet-ne1.false, sym c.is_framed.ensures ∙ c.if-not-is_framed.true)

pub returns-then-sheet-gt-FULL : goal.returns-then-sheet-gt-FULL
unfolding sheet_number from21 from20 from22
returns-then-sheet-gt-FULL c = let f = framed (goal.at.returns-then-sheet-gt-FULL c).Else-not-is_framed in
    rw (
      sym c.is_empty.ensures ∙ c.if-is_empty.false,
      eq-eqb _ _ c.if-sheet-ne1.false,
      f.sized,
      lt-ltb most_functions
          (length (entries_from c.args.sheet.now 1)) (omega (arith, count_entries _ f, c.if-sheet-gt-FULL.true)),
    )

pub check_records-requires : goal.check_records-requires
check_records-requires c = framed (goal.at.check_records-requires c).Else-not-is_framed

pub returns : goal.returns
unfolding sheet_number from21 from20 from22
returns c = let f = framed (goal.at.returns c).Else-not-is_framed in
    rw (
      sym c.is_empty.ensures ∙ c.if-is_empty.false,
      eq-eqb _ _ c.if-sheet-ne1.false,
      f.sized,
      le-ltb most_functions (length (entries_from c.args.sheet.now 1))
          (omega (arith, count_entries _ f, c.if-sheet-gt-FULL.false)),
    ) c.check_records.ensures
