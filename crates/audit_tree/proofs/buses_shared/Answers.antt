-- `audit_tree::buses_shared` meets its contract. Assumes nothing.
use mathlib.Core.Path.{sym}
use Rattle.audit_tree.specs.TreeLaws.{shared_apart, shared_other, shared_bridges}
use Rattle.audit_tree.proofs.buses_shared.Goals as goal

pub returns-then-bus_of : goal.returns-then-bus_of
returns-then-bus_of c = sym (shared_apart _ _ _ _ c.bus_of.ensures c.bus_of-2.ensures c.if-bus_of.true)

pub returns-then-not-is_bridge : goal.returns-then-not-is_bridge
returns-then-not-is_bridge c = sym (shared_other _ _ _ _ c.bus_of.ensures c.bus_of-2.ensures _ _
    c.is_bridge.ensures c.is_bridge-2.ensures c.if-bus_of.false (c.if-not-is_bridge.true))

pub returns : goal.returns
returns c = sym (shared_bridges _ _ _ _ c.bus_of.ensures c.bus_of-2.ensures _ _
    c.is_bridge.ensures c.is_bridge-2.ensures c.if-bus_of.false
    (c.if-not-is_bridge.false) _ _ _ _ c.secondary_of.ensures c.subordinate_of.ensures
    c.secondary_of-2.ensures c.subordinate_of-2.ensures)
