-- `capi_sheet::unowned` meets its contract: by the sheet's own number. Assumes nothing.
use borrow.Author.Tests.{eq-eqb, ne_eqb}
use mathlib.Core.Path.{sym, ◌∙◌}
use Rattle.sheet.specs.Sheet.{sheet_number}
use Rattle.capi_sheet.proofs.unowned.Goals as goal

pub returns-then-n-eq0 : goal.returns-then-n-eq0
returns-then-n-eq0 c = rw (eq-eqb (sheet_number c.args.sheet.now) 0 (sym c.check-n.ensures ∙ c.if-n-eq0.true))

pub returns-else-n-eq0 : goal.returns-else-n-eq0
returns-else-n-eq0 c = rw (← c.check-n.ensures, ne_eqb c.check-n.result 0 c.if-n-eq0.false)
