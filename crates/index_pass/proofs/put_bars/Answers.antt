-- `index_pass::put_bars`: the loop over the slots. Invariant: inserting the BARs of the slots from where the walk stands on gives what
-- inserting all gives; no slot from there on is unlawful. Assumes nothing.
use mathlib.Core.List.{List}
use mathlib.Core.Path.{refl}
use Prim.Native.Nat.{ℕ, ◌+◌, ◌≤◌, ◌<◌}
use native.Mathlib.Omega.{arith}
use lib.ListN.{length, take}
use Rattle.endian.specs.Endian.{be}
use Rattle.sheet_record.specs.Places.{readbacks_at}
use Rattle.sheet_record.specs.Entry.{dwords}
use Rattle.bar.specs.Bar.{span}
use Rattle.bar.specs.WalkLaws.{begun, turn, Turn, walked}
use Rattle.claims.specs.HitsLaws.{lawful_next}
use Rattle.claims.specs.TurnLaws.{slots_le, slots_inside, slots_past as turn_past}
use Rattle.index_pass.specs.Pass.{bar_slots, bar_in}
use Rattle.index_pass.specs.PlacingLaws.{placing_start, placing_end, placing_room, placing_next}
use Rattle.index_pass.specs.BarsLaws.{slots_at, slots_step, slots_past, slots_start, lawful_start}
use Rattle.index_pass.proofs.put_bars.Goals as goal
use Rattle.index_pass.proofs.put_bars.Goals.{In-Some}

-- the set that the walk is over, by the record's bytes
abbrev set_of : List ℕ → List ℕ
set_of p = dwords (be 4) 6 p readbacks_at

at : (c : In-Some) → Turn (set_of c.args.part.now) c.slot_count-slots.result c.loop-i.i-iterator c.next.new.self c.in-Some.i c.in-Some.x
at c = turn c.loop-i.invariant.over c.in-Some.ensures.steps

inside : (c : In-Some) → c.in-Some.i < length (take c.slot_count-slots.result (set_of c.args.part.now))
inside c =
    let within : c.in-Some.i < c.slot_count-slots.result = omega (arith, (at c).inside) in
    slots_inside (set_of c.args.part.now) _ _ _ refl c.slot_count-slots.ensures within

pub loop-i-init : goal.loop-i-init
loop-i-init c = let b = begun c.slots-i-items.ensures c.into_iter-i-iterator.ensures.into_iter_gives in record {
  over = rw c.readbacks_of-set.ensures at b.over;
  lawful = rw b.next (lawful_start _ _ c.values_of-values.result _ refl c.slot_count-slots.ensures c.requires.1);
  placing = rw b.next (placing_start c.args.n _ c.args.count _ _
      (slots_start _ _ _ _ refl c.slot_count-slots.ensures c.args.g c.args.end c.values_of-values.ensures));
}

pub put_bar-at-requires : goal.put_bar-at-requires
put_bar-at-requires c = let g = (goal.at.put_bar-at-requires c).In-Some in
    let w = at g in (
      c.requires.2,
      c.requires.3,
      placing_room _ _ _ _ _ _ _ (rw w.stood at c.loop-i.invariant.placing)
          (bar_slots c.args.g c.args.end (bar_in c.args.g.space c.in-Some.x c.value_here-value.result))
          (slots_at c.args.g c.args.end
          (take c.slot_count-slots.result (set_of c.args.part.now))
          (take c.slot_count-slots.result c.values_of-values.result)
          (c.in-Some.i + span c.in-Some.x))
          (slots_step _ _ _ _ _ _ (span c.in-Some.x) _ (inside g) w.is refl (rw w.stood at c.loop-i.invariant.lawful)
          c.value_here-value.ensures)
          _ c.requires.4,
      omega (arith, c.loop-i.invariant.placing.same_length, c.requires.5),
    )

pub loop-i-preserved : goal.loop-i-preserved
loop-i-preserved c = let g = (goal.at.loop-i-preserved c).In-Some in
    let w = at g in
    let lawful = rw w.stood at c.loop-i.invariant.lawful in record {
      over = w.over;
      lawful = rw w.next (lawful_next _ _ _ _ (inside g) w.is refl lawful);
      placing = rw w.next (placing_next _ _ _ _ _ _ _ (rw w.stood at c.loop-i.invariant.placing) _ _
          (slots_step _ _ _ _ _ _ _ _ (inside g) w.is refl lawful c.value_here-value.ensures)
          _ _ c.put_bar-at.auto.index c.put_bar-at.ensures.0 c.put_bar-at.ensures.1);
    }

pub shape_of-index : goal.shape_of-index
shape_of-index c = c.loop-i.invariant.placing.same_length

pub returns : goal.returns
returns c = let few = slots_le (set_of c.args.part.now) _ _ 0 refl c.slot_count-slots.ensures in
    let past : c.slot_count-slots.result ≤ c.loop-i.i-iterator.next = omega
    (arith, few, walked c.loop-i.invariant.over c.in-None.ensures.steps) in
    placing_end _ _ _ _ _ _ _ c.loop-i.invariant.placing
    (slots_past _ _ _ _ _ (turn_past (set_of c.args.part.now) _ _ _ refl c.slot_count-slots.ensures past))
