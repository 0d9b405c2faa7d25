-- `board_where::bad_slot`: the loop over the slots. Invariant: the first bad slot from where the walk stands on is the first of all.
-- Assumes nothing.
use mathlib.Core.Path.{◌≡◌, refl, sym, ap, ◌∙◌}
use Prim.Native.Nat.{◌≤◌, ◌<◌}
use native.Mathlib.Omega.{arith}
use Rattle.bar.specs.WalkLaws.{begun, turn, Turn, walked}
use Rattle.board_record.specs.declared.Function.{Function}
use Rattle.board_record.specs.Function.{function_of_part, slot_count}
use Rattle.board_where.specs.PassLaws.{slots_start, slots_end, slot_bad, slot_step}
use Rattle.board_where.proofs.bad_slot.Goals as goal
use Rattle.board_where.proofs.bad_slot.Goals.{After-slot_count-slots, In-Some}

counted : (c : After-slot_count-slots) → c.slot_count-slots.result ≡ slot_count (function_of_part c.args.part.now)
counted c = c.slot_count-slots.ensures.0 ∙ ap (λ (f : Function). slot_count f) c.function_of-f.ensures

at : (c : In-Some)
    → Turn (function_of_part c.args.part.now).readbacks c.slot_count-slots.result c.loop-i.i-iterator c.next.new.self c.in-Some.i c.in-Some.x
at c = turn c.loop-i.invariant.over c.in-Some.ensures.steps

inside : (c : In-Some) → c.in-Some.i < c.slot_count-slots.result
inside c = omega (arith, (at c).inside)

pub function_of-f-requires : goal.function_of-f-requires
function_of-f-requires c = c.requires

pub loop-i-init : goal.loop-i-init
loop-i-init c = let b = begun c.slots-i-items.ensures c.into_iter-i-iterator.ensures.into_iter_gives in record {
  over = rw c.function_of-f.ensures at b.over;
  first = rw b.next (slots_start c.args.part.now (function_of_part c.args.part.now) _ 0 refl
      (counted (goal.at.loop-i-init c).After-slot_count-slots) c.slot_count-slots.ensures.1);
}

pub overflow_cast-result : goal.overflow_cast-result
overflow_cast-result c = omega (arith, (at (goal.at.overflow_cast-result c).In-Some).inside)

pub returns-then-is_bad : goal.returns-then-is_bad
returns-then-is_bad c = let s = (goal.at.returns-then-is_bad c).After-slot_count-slots in
    let g = (goal.at.returns-then-is_bad c).In-Some in
    sym (slot_bad c.args.part.now (function_of_part c.args.part.now) _ _ refl (counted s) c.slot_count-slots.ensures.1 _ (inside g)
    (at g).is _ c.is_bad.ensures c.if-is_bad.true) ∙ rw (at g).stood at c.loop-i.invariant.first

pub loop-i-preserved : goal.loop-i-preserved
loop-i-preserved c = let s = (goal.at.loop-i-preserved c).After-slot_count-slots in
    let g = (goal.at.loop-i-preserved c).In-Some in
    let w = at g in record {
      over = w.over;
      first = rw w.next (slot_step c.args.part.now (function_of_part c.args.part.now) _ _ refl (counted s) c.slot_count-slots.ensures.1 _
          (inside g) w.is _ c.is_bad.ensures c.if-is_bad.false _ refl) ∙ rw w.stood at c.loop-i.invariant.first;
    }

pub returns : goal.returns
returns c = let s = (goal.at.returns c).After-slot_count-slots in
    let past : c.slot_count-slots.result ≤ c.loop-i.i-iterator.next = omega
    (arith, c.slot_count-slots.ensures.1, walked c.loop-i.invariant.over c.in-None.ensures.steps) in
    sym (slots_end c.args.part.now (function_of_part c.args.part.now) _ _ refl (counted s) c.slot_count-slots.ensures.1 past)
    ∙ c.loop-i.invariant.first
