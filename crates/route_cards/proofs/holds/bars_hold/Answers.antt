-- `route_cards::holds::bars_hold`: the loop over slots. Invariant: the slots from where the walk stands on are lawful, and one of them
-- holds the address exactly where one of all does. Assumes nothing.
use mathlib.Core.List.{List}
use mathlib.Core.Path.{refl, ◌∙◌}
use Prim.Native.Nat.{ℕ, ◌≤◌, ◌<◌}
use native.Mathlib.Omega.{arith}
use lib.ListN.{take, length}
use Rattle.endian.specs.Endian.{be}
use Rattle.bar.specs.WalkLaws.{begun, turn, Turn, walked}
use Rattle.sheet_record.specs.Places.{readbacks_at}
use Rattle.sheet_record.specs.Entry.{dwords}
use Rattle.claims.specs.HitsLaws.{lawful_next}
use Rattle.claims.specs.TurnLaws.{slots_le, slots_inside, slots_past}
use Rattle.route_cards.specs.HoldsLaws.{bars_lawful, bars_start, bar_found, bar_passed, bars_over}
use Rattle.route_cards.proofs.holds.bars_hold.Goals as goal
use Rattle.route_cards.proofs.holds.bars_hold.Goals.{In-Some}

-- the set that the walk is over, by the record's bytes
abbrev set_of : List ℕ → List ℕ
set_of p = dwords (be 4) 6 p readbacks_at

at : (c : In-Some) → Turn (set_of c.args.part.now) c.slot_count-slots.result c.loop-i.i-iterator c.next.new.self c.in-Some.i c.in-Some.slot
at c = turn c.loop-i.invariant.over c.in-Some.ensures.steps

inside : (c : In-Some) → c.in-Some.i < length (take c.slot_count-slots.result (set_of c.args.part.now))
inside c =
    let within : c.in-Some.i < c.slot_count-slots.result = omega (arith, (at c).inside) in
    slots_inside (set_of c.args.part.now) _ _ _ refl c.slot_count-slots.ensures within

pub readbacks_of-set-requires : goal.readbacks_of-set-requires
readbacks_of-set-requires c = c.requires.0

pub values_of-values-requires : goal.values_of-values-requires
values_of-values-requires c = c.requires.0

pub slot_count-slots-requires : goal.slot_count-slots-requires
slot_count-slots-requires c = c.requires.0

pub loop-i-init : goal.loop-i-init
loop-i-init c = let b = begun c.slots-i-items.ensures c.into_iter-i-iterator.ensures.into_iter_gives in record {
  over = rw c.readbacks_of-set.ensures at b.over;
  lawful = rw b.next (bars_lawful _ _ _ _ refl c.values_of-values.ensures c.slot_count-slots.ensures c.requires.1);
  rest = rw b.next (bars_start _ _ _ _ refl c.values_of-values.ensures c.slot_count-slots.ensures c.args.space c.args.address);
}

pub returns-then-bar_holds : goal.returns-then-bar_holds
returns-then-bar_holds c = let g = (goal.at.returns-then-bar_holds c).In-Some in
    let w = at g in
    bar_found _ _ _ _ _ _ _ (inside g) w.is refl (rw w.stood at c.loop-i.invariant.lawful) _
    c.value_here-value.ensures _ c.bar_holds.ensures c.if-bar_holds.true
    ∙ rw w.stood at c.loop-i.invariant.rest

pub loop-i-preserved : goal.loop-i-preserved
loop-i-preserved c = let g = (goal.at.loop-i-preserved c).In-Some in
    let w = at g in
    let lawful = rw w.stood at c.loop-i.invariant.lawful in record {
      over = w.over;
      lawful = rw w.next (lawful_next _ _ _ _ (inside g) w.is refl lawful);
      rest = rw w.next (bar_passed _ _ _ _ _ _ _ (inside g) w.is refl lawful _ c.value_here-value.ensures _ c.bar_holds.ensures
          c.if-bar_holds.false)
          ∙ rw w.stood at c.loop-i.invariant.rest;
    }

pub returns : goal.returns
returns c = let few = slots_le (set_of c.args.part.now) _ _ 0 refl c.slot_count-slots.ensures in
    let past : c.slot_count-slots.result ≤ c.loop-i.i-iterator.next = omega
    (arith, few, walked c.loop-i.invariant.over c.in-None.ensures.steps) in
    bars_over _ _ _ _ _ (slots_past (set_of c.args.part.now) _ _ _ refl c.slot_count-slots.ensures past) ∙ c.loop-i.invariant.rest
