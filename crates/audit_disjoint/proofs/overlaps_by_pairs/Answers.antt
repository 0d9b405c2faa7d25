-- `audit_disjoint::overlaps_by_pairs`: the loop over the records. Invariant: there is an overlap from record k on just where there is one.
-- Assumes nothing.
use mathlib.Core.Path.{sym, ◌∙◌}
use native.Mathlib.Omega.{arith}
use Rattle.audit_disjoint.specs.DisjointLaws.{not_disjoint_past, not_disjoint_hit, not_disjoint_miss}
use Rattle.audit_disjoint.proofs.overlaps_by_pairs.Goals as goal

pub overlaps_at-requires : goal.overlaps_at-requires
overlaps_at-requires c = (c.requires, omega (arith, c.count-k-end.ensures, c.loop-k-test.true))

pub returns-then-overlaps_at : goal.returns-then-overlaps_at
returns-then-overlaps_at c = sym (not_disjoint_hit _ c.requires.framed _ _ c.count-k-end.ensures c.loop-k-test.true _
    c.overlaps_at.ensures c.if-overlaps_at.true)
    ∙ c.loop-k.invariant

pub loop-k-preserved : goal.loop-k-preserved
loop-k-preserved c = not_disjoint_miss _ c.requires.framed _ _ c.count-k-end.ensures c.loop-k-test.true _
    c.overlaps_at.ensures c.if-overlaps_at.false
    ∙ c.loop-k.invariant

pub returns : goal.returns
returns c = sym (not_disjoint_past _ c.requires.framed _ _ c.count-k-end.ensures c.loop-k-test.false) ∙ c.loop-k.invariant
