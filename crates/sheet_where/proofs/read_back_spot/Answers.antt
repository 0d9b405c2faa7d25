-- `sheet_where::read_back_spot`: the loop over the slots. Invariant: what is left from where the walk stands on says what all say.
-- Assumes nothing.
use mathlib.Core.Path.{◌≡◌, refl, sym, subst, ◌∙◌}
use Prim.Native.Nat.{◌≤◌, ◌<◌}
use native.Mathlib.Omega.{arith}
use lib.ListN.{length}
use Rattle.bar.specs.Bar.{SizedSlot}
use Rattle.bar.specs.BarLaws.{sized_here}
use Rattle.bar.specs.WalkLaws.{begun, turn, Turn, walked}
use Rattle.audit_finding.specs.Spots.{spot_in}
use Rattle.sheet_where.specs.Own.{rest_of}
use Rattle.sheet_where.specs.SlotsLaws.{slot_off, slot_on, slot_end, set_six, few_slots, slots_start}
use Rattle.sheet_where.proofs.read_back_spot.Goals as goal
use Rattle.sheet_where.proofs.read_back_spot.Goals.{After-slot_count-slots, In-Some}

-- the slots are six at most
few : (c : After-slot_count-slots) → c.slot_count-slots.result ≤ 6
few c = few_slots _ _ _ _ c.readbacks_of-set.ensures c.values_of-values.ensures c.slot_count-slots.ensures

six : (c : After-slot_count-slots) → length c.readbacks_of-set.result ≡ 6
six c = set_six _ _ _ _ c.readbacks_of-set.ensures c.values_of-values.ensures c.slot_count-slots.ensures

at : (c : In-Some) → Turn c.readbacks_of-set.result c.slot_count-slots.result c.loop-i.i-iterator c.next.new.self c.in-Some.i c.in-Some.x
at c = turn c.loop-i.invariant.over c.in-Some.ensures.steps

inside : (c : In-Some) → c.in-Some.i < c.slot_count-slots.result
inside c = omega (arith, (at c).inside)

pub loop-i-init : goal.loop-i-init
loop-i-init c = let b = begun c.slots-i-items.ensures c.into_iter-i-iterator.ensures.into_iter_gives in record {
  over = b.over;
  left = rw b.next (slots_start _ _ _ _ c.readbacks_of-set.ensures c.values_of-values.ensures c.slot_count-slots.ensures);
}

pub is_value-requires : goal.is_value-requires
is_value-requires c = subst SizedSlot (sym c.in-Some.ensures.steps.is) (sized_here _)

pub returns-then-not-is_value : goal.returns-then-not-is_value
returns-then-not-is_value c = let s = (goal.at.returns-then-not-is_value c).After-slot_count-slots in
    let g = (goal.at.returns-then-not-is_value c).In-Some in
    rw c.at.ensures (
    sym (slot_off (spot_in (rest_of c.args.part.now)) _ _ _ _ (six s) (few s) _ _ _ (inside g)
    (at g).is c.value_here.ensures c.is_value.ensures (c.if-not-is_value.true))
    ∙ rw (at g).stood at c.loop-i.invariant.left)

pub loop-i-preserved : goal.loop-i-preserved
loop-i-preserved c = let s = (goal.at.loop-i-preserved c).After-slot_count-slots in
    let g = (goal.at.loop-i-preserved c).In-Some in
    let w = at g in record {
      over = w.over;
      left = rw w.next (slot_on (spot_in (rest_of c.args.part.now)) _ _ _ _ (six s) (few s) _ _ _ (inside g) w.is
          c.value_here.ensures c.is_value.ensures (c.if-not-is_value.false) _ refl)
          ∙ rw w.stood at c.loop-i.invariant.left;
    }

pub returns : goal.returns
returns c = let s = (goal.at.returns c).After-slot_count-slots in
    let past : c.slot_count-slots.result ≤ c.loop-i.i-iterator.next = omega
    (arith, few s, walked c.loop-i.invariant.over c.in-None.ensures.steps) in
    c.rest_spot.ensures
    ∙ sym (slot_end (spot_in (rest_of c.args.part.now)) _ _ _ _ (six s) (few s) past)
    ∙ c.loop-i.invariant.left
