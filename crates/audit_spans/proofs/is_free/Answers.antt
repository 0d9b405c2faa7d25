-- `audit_spans::is_free`: the loop over the spans. Invariant: those before i are not met. Assumes nothing.
use mathlib.Core.Path.{subst}
use mathlib.Core.Bool.{true}
use Prim.Native.Nat.{ℕ}
use native.Mathlib.Omega.{arith}
use Rattle.audit_rising.specs.Rising.{spot}
use Rattle.audit_spans.specs.Spans.{Free}
use Rattle.audit_spans.specs.SpansLaws.{free_none, free_turn}
use Rattle.audit_spans.proofs.is_free.Goals as goal

pub loop-i-init : goal.loop-i-init
loop-i-init c = free_none c.args.spans.now (spot c.args.key c.args.first c.args.last true)

pub loop-i-preserved : goal.loop-i-preserved
loop-i-preserved c = let x = spot c.args.key c.args.first c.args.last true in
    free_turn c.args.spans.now c.loop-i.i x c.loop-i.invariant (c.is_met.ensures c.if-is_met.false)

pub returns : goal.returns
returns c = let x = spot c.args.key c.args.first c.args.last true in
    λ e. subst (λ (k : ℕ). Free c.args.spans.now k x) (omega arith) c.loop-i.invariant
