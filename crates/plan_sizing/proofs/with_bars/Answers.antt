-- `plan_sizing::with_bars` meets its contract. The invariant: the BARs from place i on, laid out after what is done, come to what all come
-- to. The measure is the places left. Assumes nothing.
use borrow.Author.Rules.{rules}
use mathlib.Core.Path.{◌≡◌, refl, sym, subst, ◌∙◌}
use Prim.Native.Nat.{◌<◌}
use native.Mathlib.Omega.{arith}
use lib.ListN.{length, take, length-take}
use Rattle.bar.specs.declared.Slot.TheVariants.{Unused}
use Rattle.bar.specs.Bar.{SizedSlot}
use Rattle.bar.specs.BarLaws.{length_first, sized_wide, sized_narrow, any_bad_step}
use Rattle.bar.specs.BarLaws.{slot_of_pair, slot_of_single, slot_of_none, pair_span, single_span}
use Rattle.plan_sizing.specs.Cut.{says, add_slot}
use Rattle.plan_sizing.specs.CutLaws.{not_bad_of_lawful, whole_of_cut, bars_turn, bars_done}
use Rattle.plan_sizing.proofs.with_bars.Goals as goal

-- src/lib.rt:178:5
pub loop-i-preserved-then-r-eq0 : goal.loop-i-preserved-then-r-eq0
loop-i-preserved-then-r-eq0 c = let s = take c.args.n c.args.set in
    let six : length c.args.set ≡ 6 = search rules in
    let m = length_first c.args.set c.args.n six in
    let h : c.loop-i.i < length s = omega (arith, c.requires.1.0) in
    let e = slot_of_none c.args.set c.args.n c.args.n c.loop-i.i six (omega (arith, c.requires.1.0)) c.loop-i-test.true c.if-r-eq0.true in (
      c.loop-i.invariant.0,
      (any_bad_step s c.loop-i.i Unused h e refl ∙ c.loop-i.invariant.1.0, bars_turn s c.loop-i.i Unused _ _ h e refl (sym c.loop-i.invariant.0) ∙ c.loop-i.invariant.1.1),
    )

-- src/lib.rt:185:13
pub with_slot-done-requires : goal.with_slot-done-requires
with_slot-done-requires c = (c.loop-i.invariant.0, subst SizedSlot (sym c.wide_slot.ensures) (sized_wide _ _))

-- src/lib.rt:178:5
pub loop-i-preserved-then-is_paired : goal.loop-i-preserved-then-is_paired
loop-i-preserved-then-is_paired c = let s = take c.args.n c.args.set in
    let six : length c.args.set ≡ 6 = search rules in
    let m = length_first c.args.set c.args.n six in
    let h : c.loop-i.i < length s = omega (arith, c.requires.1.0) in
    let e = slot_of_pair c.args.set c.args.n c.args.n c.loop-i.i _ _ _ _ six (omega (arith, c.requires.1.0)) c.loop-i-test.true refl refl c.is_paired.ensures.0 (c.is_paired.ensures.1 c.if-is_paired.true)
    c.if-is_paired.true c.wide_slot.ensures in
    let good = not_bad_of_lawful s c.loop-i.i _ h e c.loop-i.invariant.1.0 in
    let two = sym (pair_span _ _ _ c.wide_slot.ensures good) in (
      whole_of_cut _ (add_slot c.wide_slot.result (says c.loop-i.done)) c.with_slot-done.ensures,
      (
        rw two (any_bad_step s c.loop-i.i _ h e good ∙ c.loop-i.invariant.1.0),
        rw two (bars_turn s c.loop-i.i _ _ _ h e good c.with_slot-done.ensures) ∙ c.loop-i.invariant.1.1,
      ),
    )

-- src/lib.rt:189:9
pub with_slot-done-requires-in-loop-i : goal.with_slot-done-requires-in-loop-i
with_slot-done-requires-in-loop-i c = (c.loop-i.invariant.0, subst SizedSlot (sym c.narrow_slot.ensures) (sized_narrow _))

-- src/lib.rt:178:5
pub loop-i-preserved : goal.loop-i-preserved
loop-i-preserved c = let s = take c.args.n c.args.set in
    let six : length c.args.set ≡ 6 = search rules in
    let m = length_first c.args.set c.args.n six in
    let h : c.loop-i.i < length s = omega (arith, c.requires.1.0) in
    let e = slot_of_single c.args.set c.args.n c.args.n c.loop-i.i _ _ _ six (omega (arith, c.requires.1.0)) c.loop-i-test.true refl
    c.is_paired.ensures.0 c.if-is_paired.false c.narrow_slot.ensures in
    let good = not_bad_of_lawful s c.loop-i.i _ h e c.loop-i.invariant.1.0 in
    let one = sym (single_span _ _ c.narrow_slot.ensures) in (
      whole_of_cut _ (add_slot c.narrow_slot.result (says c.loop-i.done)) c.with_slot-done-in-loop-i.ensures,
      (
        rw one (any_bad_step s c.loop-i.i _ h e good ∙ c.loop-i.invariant.1.0),
        rw one (bars_turn s c.loop-i.i _ _ _ h e good c.with_slot-done-in-loop-i.ensures) ∙ c.loop-i.invariant.1.1,
      ),
    )

-- src/lib.rt:172:1
pub returns : goal.returns
returns c = sym (bars_done (take c.args.n c.args.set) c.loop-i.i _ (omega (arith, length-take c.args.n c.args.set)) c.loop-i.invariant.0) ∙ c.loop-i.invariant.1.1
