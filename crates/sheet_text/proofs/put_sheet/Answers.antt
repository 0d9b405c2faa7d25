-- `sheet_text::put_sheet` meets its contract, by the sheet's number. Assumes nothing.
use mathlib.Core.Path.{sym, ◌∙◌}
use Rattle.sheet.proofs.SheetLaws.{checked_of_zero}
use Rattle.sheet_text.proofs.ListingLaws.{sheet_text_good, sheet_text_bad}
use Rattle.sheet_text.proofs.put_sheet.Goals as goal

pub returns-then-n-ne0 : goal.returns-then-n-ne0
returns-then-n-ne0 c = rw (sheet_text_bad _ _ c.check-n.ensures c.if-n-ne0.true) c.put_refusal.ensures

pub put_plan-requires : goal.put_plan-requires
put_plan-requires c = (checked_of_zero _ (sym c.check-n.ensures ∙ c.if-n-ne0.false)).framed

pub returns : goal.returns
returns c = rw (sheet_text_good _ _ c.check-n.ensures c.if-n-ne0.false) c.put_plan.ensures
