-- `audit_tree::shared_by_pairs` meets its contract. Invariant: whether two of the records that are left share a bus is whether two of all
-- do. Assumes nothing.
use mathlib.Core.Path.{sym, ◌∙◌}
use native.Mathlib.Omega.{arith}
use Rattle.audit_rule.proofs.PassLaws.{pair_past, pair_hit, pair_miss}
use Rattle.audit_tree.proofs.shared_by_pairs.Goals as goal

pub shared_with_later-requires : goal.shared_with_later-requires
shared_with_later-requires c = (c.requires, omega (arith, c.count-k-end.ensures))

pub returns-then-shared_with_later : goal.returns-then-shared_with_later
returns-then-shared_with_later c = sym (pair_hit _ c.requires _ _ c.count-k-end.ensures c.loop-k-test.true _
    (sym c.shared_with_later.ensures ∙ c.if-shared_with_later.true))
    ∙ c.loop-k.invariant

pub loop-k-preserved : goal.loop-k-preserved
loop-k-preserved c = sym (pair_miss _ c.requires _ _ c.count-k-end.ensures c.loop-k-test.true _
    (sym c.shared_with_later.ensures ∙ c.if-shared_with_later.false))
    ∙ c.loop-k.invariant

pub returns : goal.returns
returns c = sym (pair_past _ c.requires _ _ c.count-k-end.ensures c.loop-k-test.false _) ∙ c.loop-k.invariant
