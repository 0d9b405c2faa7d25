-- `bar::is_value`: one slot's value, a BAR's by `is_bar_value`. Assumes nothing.
use Rattle.bar.proofs.is_value.Goals as goal

pub returns-in-Unused : goal.returns-in-Unused
returns-in-Unused c = rw c.in-Unused.is

pub returns-in-Bar : goal.returns-in-Bar
returns-in-Bar c = rw c.in-Bar.is c.is_bar_value.ensures
