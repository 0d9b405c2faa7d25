-- `see_slot` meets its contract, case by case. Assumes nothing.
use Rattle.plan_items.proofs.see_slot.Goals as goal

pub returns-in-Bar : goal.returns-in-Bar
returns-in-Bar c = rw c.in-Bar.is c.see_bar.ensures
