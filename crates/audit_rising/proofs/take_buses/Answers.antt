-- `audit_rising::take_buses`: another function takes nothing. Assumes nothing.
use Rattle.audit_rising.specs.PassLaws.{takes_none, takes_bridge}
use Rattle.audit_rising.proofs.take_buses.Goals as goal

pub returns-then-not-is_bridge : goal.returns-then-not-is_bridge
returns-then-not-is_bridge c = λ e. takes_none _ _ c.is_bridge.ensures _ (c.if-not-is_bridge.true)

pub returns : goal.returns
returns c = λ e. takes_bridge _ _ c.is_bridge.ensures _ (c.if-not-is_bridge.false) _ _ _ (cc) (cc) (cc) _ (c.take.ensures e)
