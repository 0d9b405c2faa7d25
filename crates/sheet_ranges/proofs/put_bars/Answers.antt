-- `sheet_ranges::put_bars`: the loop over the slots. Invariant: the BARs put so far, then those of the slots from where the walk stands on,
-- are all; the values are lawful from there on. Assumes nothing.
use mathlib.Core.Path.{◌≡◌, refl, ◌∙◌}
use mathlib.Core.List.{List}
use Prim.Native.Nat.{ℕ, ◌≤◌, ◌<◌}
use native.Mathlib.Omega.{arith}
use lib.ListN.{length, take}
use Rattle.endian.specs.Endian.{be}
use Rattle.sheet_record.specs.Places.{readbacks_at}
use Rattle.sheet_record.specs.Entry.{dwords, header_of, slot_count}
use Rattle.bar.specs.WalkLaws.{begun, turn, Turn, walked}
use Rattle.sheet_ranges.specs.BarsLaws.{bar_ends, lawful_next, bars_turn, lawful_start, bars_start, slots_le, length_slots}
use Rattle.sheet_ranges.specs.BarsLaws.{bars_none, bars_all}
use Rattle.sheet_ranges.proofs.put_bars.Goals as goal
use Rattle.sheet_ranges.proofs.put_bars.Goals.{In-Some}

-- the set that the walk is over, by the record's bytes
abbrev set_of : List ℕ → List ℕ
set_of p = dwords (be 4) 6 p readbacks_at

-- the slots are six at most, and the set has one for each
few : (p : List ℕ) {n : ℕ} → n ≡ slot_count (header_of p) → n ≤ 6
few p e = slots_le p _ _ _ refl refl e

all_there : (p : List ℕ) {n : ℕ} → n ≡ slot_count (header_of p) → length (take n (set_of p)) ≡ n
all_there p e = length_slots p _ _ _ refl refl e

at : (c : In-Some) → Turn (set_of c.args.part.now) c.slot_count-slots.result c.loop-i.i-iterator c.next.new.self c.in-Some.i c.in-Some.x
at c = turn c.loop-i.invariant.over c.in-Some.ensures.steps

inside : (c : In-Some) → c.in-Some.i < length (take c.slot_count-slots.result (set_of c.args.part.now))
inside c = omega (arith, all_there c.args.part.now c.slot_count-slots.ensures, (at c).inside)

pub loop-i-init : goal.loop-i-init
loop-i-init c = let b = begun c.slots-i-items.ensures c.into_iter-i-iterator.ensures.into_iter_gives in record {
  over = rw c.readbacks_of-set.ensures at b.over;
  few = omega arith;
  within = omega arith;
  same_length = refl;
  lawful = rw b.next
      (lawful_start _ _ _ _ refl c.values_of-values.ensures c.slot_count-slots.ensures c.requires.1);
  all = rw b.next (bars_none _ _ _ _
      (bars_start _ _ _ _ refl c.values_of-values.ensures c.slot_count-slots.ensures));
}

pub put_bar-n-requires : goal.put_bar-n-requires
put_bar-n-requires c = let g = (goal.at.put_bar-n-requires c).In-Some in
    let w = at g in (
      omega (arith, c.loop-i.invariant.few, c.loop-i.invariant.same_length, w.inside, w.stood, c.requires.2),
      bar_ends _ _ _ _ _ (inside g) w.is c.value_here.ensures (rw w.stood at c.loop-i.invariant.lawful) (omega arith),
    )

pub loop-i-preserved : goal.loop-i-preserved
loop-i-preserved c = let g = (goal.at.loop-i-preserved c).In-Some in
    let w = at g in
    let lawful = rw w.stood at c.loop-i.invariant.lawful in record {
      over = w.over;
      few = omega (arith, c.put_bar-n.ensures.1, c.loop-i.invariant.few, w.stood, w.further);
      within = omega (arith, c.put_bar-n.ensures.1, c.loop-i.invariant.few, w.inside, w.stood, few c.args.part.now c.slot_count-slots.ensures);
      same_length = omega (arith, c.put_bar-n.auto.room, c.loop-i.invariant.same_length);
      lawful = rw w.next (lawful_next _ _ _ _ _ (inside g) w.is c.value_here.ensures lawful _ refl);
      all = rw w.next (bars_turn _ _ _ _ _ (inside g) w.is c.value_here.ensures lawful _ refl _ _ _ _ c.put_bar-n.ensures.0)
          ∙ rw w.stood at c.loop-i.invariant.all;
    }

pub returns : goal.returns
returns c = let l = all_there c.args.part.now c.slot_count-slots.ensures in
    let f = few c.args.part.now c.slot_count-slots.ensures in
    let past : length (take c.slot_count-slots.result (set_of c.args.part.now)) ≤ c.loop-i.i-iterator.next = omega
    (arith, l, f, walked c.loop-i.invariant.over c.in-None.ensures.steps) in (
      bars_all _ _ _ _ c.loop-i.i-iterator.next _ past c.loop-i.invariant.all,
      omega (arith, c.loop-i.invariant.within, c.slot_count-slots.ensures),
    )
