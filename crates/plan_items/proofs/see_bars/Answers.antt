-- `see_bars` meets its contract. The invariant is `Seeing`: the slots from where the walk stands on, seen after what is done, come to what
-- all come to. Assumes nothing.
use borrow.Author.Rules.{rules}
use mathlib.Core.Path.{◌≡◌, refl}
use native.Mathlib.Omega.{arith}
use Prim.Native.Nat.{◌<◌}
use lib.ListN.{length, take, drop}
use Rattle.bar.specs.BarLaws.{length_first, sized_here}
use Rattle.bar.specs.WalkLaws.{turn, walked}
use Rattle.plan_items.specs.WalkLaws.{seeing_turn, seeing_end}
use Rattle.plan_items.proofs.see_bars.Goals as goal

pub see_slot-done-requires : goal.see_slot-done-requires
see_slot-done-requires c = let w = turn c.loop-i.invariant.over c.in-Some.ensures.steps in
    (c.loop-i.invariant.seeing.within, rw w.is (sized_here (drop c.in-Some.i (take c.args.n c.args.set))))

pub loop-i-preserved : goal.loop-i-preserved
loop-i-preserved c = let six : length c.args.set ≡ 6 = search rules in
    let m = length_first c.args.set c.args.n six in
    let w = turn c.loop-i.invariant.over c.in-Some.ensures.steps in
    let h : c.in-Some.i < length (take c.args.n c.args.set) = omega (arith, w.inside) in record {
      over = w.over;
      seeing = rw w.next (seeing_turn c.args.w c.args.parent c.args.k (take c.args.n c.args.set) _ c.loop-i.done c.see_slot-done.result
          c.in-Some.i _ c.in-Some.x (rw w.stood at c.loop-i.invariant.seeing) h w.is c.see_slot-done.ensures refl);
    }

pub returns : goal.returns
returns c = let six : length c.args.set ≡ 6 = search rules in
    let m = length_first c.args.set c.args.n six in (
      seeing_end c.args.w c.args.parent c.args.k (take c.args.n c.args.set) _ c.loop-i.done c.loop-i.i-iterator.next
          c.loop-i.invariant.seeing
          (omega (arith, walked c.loop-i.invariant.over c.in-None.ensures.steps)),
      c.loop-i.invariant.seeing.within,
    )
