-- `audit_met::first_met`: the loop over the records. Invariant: the first that is met from record j on is the first of all. Assumes
-- nothing.
use mathlib.Core.Path.{refl, sym, ◌∙◌}
use native.Mathlib.Omega.{arith}
use Rattle.audit_finding.specs.Fails.{is_met, least_met}
use Rattle.audit_finding.specs.Spots.{record_of, pass_past, pass_hit, pass_miss}
use Rattle.audit_met.proofs.first_met.Goals as goal

pub loop-j-init : goal.loop-j-init
unfolding least_met
loop-j-init c = refl

pub is_met-requires : goal.is_met-requires
is_met-requires c = (c.requires.0, c.requires.1, omega (arith, c.loop-j-test.true, c.count-j-end.ensures))

pub returns-then-is_met : goal.returns-then-is_met
returns-then-is_met c = (
  sym (pass_hit _ c.requires.0 _ _ c.count-j-end.ensures (is_met c.args.relation (record_of _ c.args.k))
      (λ q. q.number) 0 c.loop-j-test.true (sym c.is_met.ensures ∙ c.if-is_met.true))
      ∙ c.loop-j.invariant,
  omega arith,
)

pub loop-j-preserved : goal.loop-j-preserved
loop-j-preserved c = sym (pass_miss _ c.requires.0 _ _ c.count-j-end.ensures (is_met c.args.relation (record_of _ c.args.k))
    (λ q. q.number) 0 c.loop-j-test.true (sym c.is_met.ensures ∙ c.if-is_met.false))
    ∙ c.loop-j.invariant

pub returns : goal.returns
returns c = sym c.loop-j.invariant
    ∙ pass_past _ c.requires.0 _ _ c.count-j-end.ensures (is_met c.args.relation (record_of _ c.args.k))
    (λ q. q.number) 0 c.loop-j-test.false
