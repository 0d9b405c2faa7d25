-- `audit_spans::hold_ranges`: the loop over a function's ranges. Invariant: where those from i on are held from here, all are held from the
-- start. Assumes nothing.
use native.Mathlib.Omega.{arith}
use Rattle.audit_rising.specs.Spots.{spot_of}
use Rattle.audit_rising.specs.PassLaws.{ranges_all, ranges_past, ranges_turn}
use Rattle.audit_spans.specs.Spans.{Spread}
use Rattle.audit_spans.proofs.hold_ranges.Goals as goal

pub loop-i-init : goal.loop-i-init
loop-i-init c = (c.requires.0, c.requires.1, λ v h. ranges_all Spread (spot_of c.args.bus) c.args.own.now c.args.count 0 (c.args.spans.now, c.args.n) v h)

pub hold_range-requires : goal.hold_range-requires
hold_range-requires c = (c.loop-i.invariant.0, c.loop-i.invariant.1)

pub loop-i-preserved : goal.loop-i-preserved
loop-i-preserved c = (
  omega arith,
  c.in_ok-m.ensures.0,
  λ v h. c.loop-i.invariant.2 v
      (ranges_turn Spread (spot_of c.args.bus) c.args.own.now c.args.count c.loop-i.i (c.loop-i.spans, c.loop-i.m)
      c.loop-i-test.true _ c.item_at.ensures _ v c.in_ok-m.ensures.1 h),
)

pub returns : goal.returns
returns c = (
  c.loop-i.invariant.1,
  c.loop-i.invariant.2 (c.loop-i.spans, c.loop-i.m)
      (ranges_past Spread (spot_of c.args.bus) c.args.own.now c.args.count c.loop-i.i (c.loop-i.spans, c.loop-i.m) c.loop-i-test.false),
)
