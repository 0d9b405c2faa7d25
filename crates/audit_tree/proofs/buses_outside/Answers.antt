-- `audit_tree::buses_outside` meets its contract. Assumes nothing.
use mathlib.Core.Path.{sym}
use Rattle.audit_tree.specs.TreeLaws.{outside_none, outside_bridge}
use Rattle.audit_tree.proofs.buses_outside.Goals as goal

pub returns-then-not-is_bridge : goal.returns-then-not-is_bridge
returns-then-not-is_bridge c = sym (outside_none _ _ _ _ c.is_bridge.ensures (c.if-not-is_bridge.true))

pub returns : goal.returns
returns c = sym (outside_bridge _ _ _ _ c.is_bridge.ensures (c.if-not-is_bridge.false) _ _
    c.secondary_of.ensures c.subordinate_of.ensures)
