-- `auditor::fails` meets its contract: each check by its own crate. Assumes nothing.
use Rattle.auditor.proofs.fails.Goals as goal

pub returns-in-Tree : goal.returns-in-Tree
returns-in-Tree c = rw c.in-Tree.is c.not_tree.ensures

pub returns-in-Nested : goal.returns-in-Nested
returns-in-Nested c = rw c.in-Nested.is c.not_nested.ensures

pub returns-in-Disjoint : goal.returns-in-Disjoint
returns-in-Disjoint c = rw c.in-Disjoint.is c.not_disjoint.ensures
