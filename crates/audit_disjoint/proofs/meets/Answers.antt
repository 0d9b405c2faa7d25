-- `audit_disjoint::meets`: on another bus nothing is decoded. Assumes nothing.
use Rattle.audit_disjoint.specs.DisjointLaws.{meets_off, meets_on}
use Rattle.audit_disjoint.proofs.meets.Goals as goal

pub returns-then-not-is_on : goal.returns-then-not-is_on
returns-then-not-is_on c = meets_off _ _ _ _ c.is_on.ensures (c.type_inv.part 1).fits (c.if-not-is_on.true)

pub returns : goal.returns
returns c = meets_on _ _ _ _ c.is_on.ensures (c.type_inv.part 1).fits _ _
    (c.if-not-is_on.false) c.ranges_of-m.ensures.0 c.any_overlap.ensures
