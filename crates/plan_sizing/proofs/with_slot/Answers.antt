-- `plan_sizing::with_slot` meets its contract, case by case. Assumes nothing.
use mathlib.Core.Path.{sym, ap, ◌∙◌}
use Rattle.bar.specs.declared.Slot.{Slot}
use Rattle.plan_sizing.specs.Cut.{says, cut, add_slot}
use Rattle.plan_sizing.proofs.with_slot.Goals as goal

pub returns-in-Bar : goal.returns-in-Bar
returns-in-Bar c = c.with_bar.ensures ∙ sym (ap (λ (x : Slot). cut (add_slot x (says c.args.l))) c.in-Bar.is)
