-- `sheet_where::is_value` meets its contract: by the slot. Assumes nothing.
use Rattle.sheet_where.specs.SlotsLaws.{size_some}
use Rattle.sheet_where.proofs.is_value.Goals as goal

pub is_bar_value-requires : goal.is_bar_value-requires
is_bar_value-requires c = size_some _ _ _ _ c.in-Bar.is c.requires

pub returns-in-Unused : goal.returns-in-Unused
returns-in-Unused c = rw c.in-Unused.is

pub returns-in-Bar : goal.returns-in-Bar
returns-in-Bar c = rw c.in-Bar.is c.is_bar_value.ensures

pub returns-in-Upper : goal.returns-in-Upper
returns-in-Upper c = rw c.in-Upper.is

pub returns-in-Bad : goal.returns-in-Bad
returns-in-Bad c = rw c.in-Bad.is
