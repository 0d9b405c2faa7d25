-- `sheet_above::parent_of` meets its contract: the host on the root bus, else what the search found. Assumes nothing.
use mathlib.Core.Path.{sym}
use Rattle.sheet_above.specs.ToldLaws.{under_host_lem, under_told}
use Rattle.sheet_above.proofs.parent_of.Goals as goal

pub returns-then-bus-root : goal.returns-then-bus-root
returns-then-bus-root c = under_host_lem _ _ _ c.if-bus-root.true

pub returns : goal.returns
returns c = under_told _ _ _ c.requires c.if-bus-root.false _ (sym c.leader_of.ensures) _ c.told_by.ensures
