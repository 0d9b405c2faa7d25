-- `audit_disjoint::not_disjoint`: what a pass tells to be disjoint is. Assumes nothing.
use mathlib.Core.Path.{sym}
use Rattle.audit_disjoint.proofs.not_disjoint.Goals as goal

pub returns-then-ranges_rise : goal.returns-then-ranges_rise
returns-then-ranges_rise c = sym (c.ranges_rise.ensures c.if-ranges_rise.true)

pub returns-then-ranges_disjoint : goal.returns-then-ranges_disjoint
returns-then-ranges_disjoint c = sym (c.ranges_disjoint.ensures c.if-ranges_disjoint.true)
