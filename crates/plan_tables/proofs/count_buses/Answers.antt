-- `plan_tables::count_buses` meets its contract. Assumes nothing.
use mathlib.Core.Path.{refl, ◌∙◌}
use Prim.Native.Nat.{◌<◌}
use native.Mathlib.Omega.{arith}
use lib.ListN.{length}
use Rattle.plan_tables.specs.CountsLaws.{counting_start, counting_turn, counting_end}
use Rattle.plan_tables.proofs.count_buses.Goals as goal

pub put_counts-requires : goal.put_counts-requires
put_counts-requires c = omega (arith, c.requires.room)

pub loop-i-init : goal.loop-i-init
loop-i-init c = (
  omega arith,
  refl,
  λ ss.
      counting_start c.args.parents.now c.args.heads.now ss c.args.counts.now c.put_counts.ensures
      (omega (arith, c.requires.room)),
)

pub bounds-parents-i : goal.bounds-parents-i
bounds-parents-i c = omega arith

pub overflow_cast-parents : goal.overflow_cast-parents
overflow_cast-parents c = omega (arith, c.type_inv.parents c.loop-i.i)

pub over_at-over-requires : goal.over_at-over-requires
over_at-over-requires c = omega (arith, c.requires.earlier c.loop-i.i (omega arith), c.requires.room, c.loop-i.invariant.1, c.put_counts.auto.counts)

pub bounds-heads-i : goal.bounds-heads-i
bounds-heads-i c = omega (arith, c.requires.heads)

pub overflow_add-taken : goal.overflow_add-taken
overflow_add-taken c = omega (arith, c.weight-taken.ensures.1, c.requires.few)

pub overflow_add-over : goal.overflow_add-over
overflow_add-over c = omega (arith, c.spare.ensures.1, c.over_at-over.ensures.1)

pub put_counts-requires-in-loop-i : goal.put_counts-requires-in-loop-i
put_counts-requires-in-loop-i c = omega (arith, c.requires.room, c.loop-i.invariant.1, c.put_counts.auto.counts)

pub loop-i-preserved : goal.loop-i-preserved
loop-i-preserved c = let inside : c.loop-i.i < length c.args.parents.now = omega arith in (
  omega (arith, c.weight-taken.ensures.1),
  c.put_counts-in-loop-i.auto.counts ∙ c.loop-i.invariant.1,
  λ ss.
      counting_turn c.args.parents.now c.args.heads.now ss (c.loop-i.invariant.2 ss) (c.requires.earlier c.loop-i.i inside) inside _ _ _
      c.over_at-over.ensures.0 c.weight-taken.ensures.0 c.spare.ensures.0 c.put_counts-in-loop-i.ensures
      (omega (arith, c.requires.room, c.loop-i.invariant.1, c.put_counts.auto.counts)),
)

pub shape_of-counts : goal.shape_of-counts
shape_of-counts c = c.loop-i.invariant.1 ∙ c.put_counts.auto.counts

pub returns : goal.returns
returns c = (λ ss. counting_end c.args.parents.now c.args.heads.now ss (c.loop-i.invariant.2 ss) (omega arith), omega (arith, c.loop-i.invariant.0, c.requires.few))
