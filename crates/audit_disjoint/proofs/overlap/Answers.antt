-- `audit_disjoint::overlap`: by last addresses. Assumes nothing.
use Rattle.audit_disjoint.specs.DisjointLaws.{overlap_items}
use Rattle.audit_disjoint.proofs.overlap.Goals as goal

pub returns : goal.returns
returns c = overlap_items c.args.a c.args.b _ _ c.space.ensures c.space-2.ensures
