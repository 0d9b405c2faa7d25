-- `sheet_above::parent_in` meets its contract: the host on the root bus, else what the bus's entry says. Assumes nothing.
use mathlib.Core.Path.{refl}
use native.Mathlib.Omega.{arith}
use Rattle.sheet_above.specs.ToldLaws.{under_host_lem, under_told, told_in_table}
use Rattle.sheet_above.proofs.parent_in.Goals as goal

pub returns-then-bus-root : goal.returns-then-bus-root
returns-then-bus-root c = λ s checked leads. under_host_lem s _ _ c.if-bus-root.true

pub returns : goal.returns
returns c = λ s checked leads.
    under_told s _ _ checked c.if-bus-root.false _ (told_in_table s _ leads _ (omega arith) _ refl) _ c.told_by.ensures
