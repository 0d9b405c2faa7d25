-- `plan_pass::fill_cursors` meets its contract. Assumes nothing.
use mathlib.Core.Path.{refl}
use native.Mathlib.Numerals.{add-one}
use native.Mathlib.Omega.{arith}
use Rattle.plan_pass.specs.LoopLaws.{filled_next}
use Rattle.plan_pass.proofs.fill_cursors.Goals as goal

pub loop-b-init : goal.loop-b-init
loop-b-init c = (refl, λ k l q. absurd (omega arith))

pub store_cursors-requires : goal.store_cursors-requires
store_cursors-requires c = omega (arith, c.requires, c.loop-b.invariant.0)

pub loop-b-preserved : goal.loop-b-preserved
loop-b-preserved c = (
  omega (arith, c.store_cursors.auto.cursors, c.loop-b.invariant.0),
  rw (add-one c.loop-b.b)
      (filled_next c.loop-b.cursors _ c.args.base c.loop-b.b c.loop-b.invariant.1 (omega (arith, c.requires, c.loop-b.invariant.0))
      c.store_cursors.ensures),
)

pub returns : goal.returns
returns c = λ k l q. c.loop-b.invariant.1 k (omega arith) q
