-- `sheet::find` meets its contract: the sheet's number, then what the search finds. Assumes nothing.
use mathlib.Core.Path.{sym, ap, ◌∙◌}
use native.Mathlib.Omega.{arith}
use Rattle.sheet.specs.Lookup.{placed}
use Rattle.sheet.proofs.SheetLaws.{checked_of_zero}
use Rattle.sheet.proofs.LookupLaws.{found_at, lookup_bad, lookup_good}
use Rattle.sheet.proofs.find.Goals as goal

pub returns-then-n-ne0 : goal.returns-then-n-ne0
returns-then-n-ne0 c = lookup_bad _ _ _ c.check-n.ensures c.if-n-ne0.true

pub find_record-requires : goal.find_record-requires
find_record-requires c = (checked_of_zero _ (sym c.check-n.ensures ∙ c.if-n-ne0.false)).framed

pub overflow_add-result : goal.overflow_add-result
overflow_add-result c = let f = (checked_of_zero _ (sym c.check-n.ensures ∙ c.if-n-ne0.false)).framed in
    omega (arith, (found_at _ 1 _ _ f (sym c.find_record.ensures ∙ c.in-Some.is)).fits)

pub returns-in-Some : goal.returns-in-Some
returns-in-Some c = ap placed (sym c.in-Some.is) ∙ lookup_good _ _ _ c.check-n.ensures c.if-n-ne0.false _
    c.find_record.ensures

pub returns-in-None : goal.returns-in-None
returns-in-None c = ap placed (sym c.in-None.is) ∙ lookup_good _ _ _ c.check-n.ensures c.if-n-ne0.false _
    c.find_record.ensures
