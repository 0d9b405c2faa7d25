-- `audit_rising::take_ranges`: the loop over a function's ranges. Invariant: where those from i on are taken from here, all are taken from
-- the start. Assumes nothing.
use native.Mathlib.Omega.{arith}
use Rattle.audit_rising.specs.Rising.{Rising}
use Rattle.audit_rising.specs.Spots.{spot_of}
use Rattle.audit_rising.specs.PassLaws.{ranges_all, ranges_past, ranges_turn}
use Rattle.audit_rising.proofs.take_ranges.Goals as goal

pub loop-i-init : goal.loop-i-init
loop-i-init c = (c.requires.0, λ v h. ranges_all Rising (spot_of c.args.bus) _ _ 0 _ v h)

pub loop-i-preserved : goal.loop-i-preserved
loop-i-preserved c = (
  omega arith,
  λ v h. c.loop-i.invariant.1 v
      (ranges_turn Rising (spot_of c.args.bus) _ _ _ _ c.loop-i-test.true _ c.item_at.ensures _ v
      (c.take_range.ensures (c.if-not-take_range.false)) h),
)

pub returns : goal.returns
returns c = λ e. c.loop-i.invariant.1 _ (ranges_past Rising (spot_of c.args.bus) _ _ _ _ c.loop-i-test.false)
