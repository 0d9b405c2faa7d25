-- `range_place::place_of`: the loop over the slots. Invariant: what is left of the places, without those that are left out, has at `left`
-- what all have at n; no slot from where the walk stands on is unlawful. Assumes nothing.
use mathlib.Core.Path.{◌≡◌, refl, sym, ◌∙◌}
use mathlib.Core.List.{List}
use Prim.Native.Nat.{ℕ, ◌≤◌, ◌<◌}
use native.Mathlib.Omega.{arith}
use lib.ListN.{length, take}
use Rattle.endian.specs.Endian.{be}
use Rattle.sheet_record.specs.Places.{readbacks_at}
use Rattle.sheet_record.specs.Entry.{dwords, header_of, slot_count}
use Rattle.bar.specs.WalkLaws.{begun, turn, Turn, walked}
use Rattle.range_place.specs.PlaceLaws.{windows_in, place_here, place_later, lawful_later, places_end}
use Rattle.range_place.specs.PlaceLaws.{lawful_start, places_start}
use Rattle.range_place.specs.PlaceLaws.{few_slots, length_slots}
use Rattle.range_place.proofs.place_of.Goals as goal
use Rattle.range_place.proofs.place_of.Goals.{In-Some}

-- the set that the walk is over, by the record's bytes
abbrev set_of : List ℕ → List ℕ
set_of p = dwords (be 4) 6 p readbacks_at

-- the slots are six at most, and the set has one for each
few : (p : List ℕ) {n : ℕ} → n ≡ slot_count (header_of p) → n ≤ 6
few p e = few_slots p _ _ refl e

all_there : (p : List ℕ) {n : ℕ} → n ≡ slot_count (header_of p) → length (take n (set_of p)) ≡ n
all_there p e = length_slots p _ _ refl e

at : (c : In-Some) → Turn (set_of c.args.part.now) c.slot_count-slots.result c.loop-i.i-iterator c.next.new.self c.in-Some.i c.in-Some.x
at c = turn c.loop-i.invariant.over c.in-Some.ensures.steps

inside : (c : In-Some) → c.in-Some.i < length (take c.slot_count-slots.result (set_of c.args.part.now))
inside c = omega (arith, all_there c.args.part.now c.slot_count-slots.ensures, (at c).inside)

pub loop-i-init : goal.loop-i-init
loop-i-init c = let b = begun c.slots-i-items.ensures c.into_iter-i-iterator.ensures.into_iter_gives in record {
  over = rw c.readbacks_of-set.ensures at b.over;
  lawful = rw b.next (lawful_start _ _ _ refl c.slot_count-slots.ensures c.requires.1);
  same = rw b.next (places_start _ _ _ refl c.slot_count-slots.ensures _);
}

pub returns-then-left-here : goal.returns-then-left-here
returns-then-left-here c = let g = (goal.at.returns-then-left-here c).In-Some in
    let w = at g in
    sym (place_here _ (windows_in c.args.part.now) _ _ (inside g) w.is (rw w.stood at c.loop-i.invariant.lawful) _ _
    c.bars_in-here.ensures.0 c.if-left-here.true)
    ∙ rw w.stood at c.loop-i.invariant.same

pub loop-i-preserved : goal.loop-i-preserved
loop-i-preserved c = let g = (goal.at.loop-i-preserved c).In-Some in
    let w = at g in
    let lawful = rw w.stood at c.loop-i.invariant.lawful in record {
      over = w.over;
      lawful = rw w.next (lawful_later _ (windows_in c.args.part.now) _ _ (inside g) w.is lawful _ refl);
      same = rw w.next (place_later _ (windows_in c.args.part.now) _ _ (inside g) w.is lawful _ _ c.bars_in-here.ensures.0
          c.if-left-here.false _ refl)
          ∙ rw w.stood at c.loop-i.invariant.same;
    }

pub returns : goal.returns
returns c = let l = all_there c.args.part.now c.slot_count-slots.ensures in
    let f = few c.args.part.now c.slot_count-slots.ensures in
    let past : length (take c.slot_count-slots.result (set_of c.args.part.now)) ≤ c.loop-i.i-iterator.next = omega
    (arith, l, f, walked c.loop-i.invariant.over c.in-None.ensures.steps) in
    c.window_place.ensures ∙ sym (places_end _ (windows_in c.args.part.now) _ _ past) ∙ c.loop-i.invariant.same
