-- `capi_sheet::find` meets its contract: no function has an ID above FFFFh. Assumes nothing.
use mathlib.Core.Path.{ap, ◌∙◌}
use Rattle.capi_sheet.specs.CallsLaws.{lookup_wide}
use Rattle.sheet.specs.declared.Lookup.TheVariants.{Refused}
use Rattle.capi_sheet.proofs.find.Goals as goal

pub returns-then-id-gt-WORD : goal.returns-then-id-gt-WORD
returns-then-id-gt-WORD c = ap Refused c.unowned.ensures
    ∙ lookup_wide c.args.sheet.now c.args.id (λ i. (c.type_inv.sheet i).fits) c.if-id-gt-WORD.true
