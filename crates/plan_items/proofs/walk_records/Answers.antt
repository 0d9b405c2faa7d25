-- `plan_items::walk_records` meets its contract. The invariant is `Walked`: what is seen and what is still told come to the whole. The
-- measure is the bytes left. Assumes nothing.
use mathlib.Core.Path.{refl, sym, ap, ◌∙◌}
use native.Mathlib.Numerals.{add-one}
use native.Mathlib.Omega.{arith}
use Rattle.records.specs.RecordsLaws.{fits_at}
use Rattle.board_record.specs.declared.Function.{Function}
use Rattle.plan_pass.specs.Step.{cursors_next}
use Rattle.plan_items.specs.LoopLaws.{walked_start, below_most, header_right, turn_seeable, turn_placeable, turn_bridged, walked_turn}
use Rattle.plan_items.specs.LoopLaws.{finished_end}
use Rattle.plan_items.proofs.walk_records.Goals as goal

pub loop-n-init : goal.loop-n-init
loop-n-init c = walked_start _ _ c.requires c.nothing_seen-seen.ensures

pub shape_of-cursors : goal.shape_of-cursors
shape_of-cursors c = c.loop-n.invariant.cursors_length

pub returns : goal.returns
returns c = finished_end c.requires c.loop-n.invariant (λ n e. c.in_default.not-Record n (c.next_at.ensures ∙ e))

pub function_at-f-requires : goal.function_at-f-requires
function_at-f-requires c = let e = sym c.next_at.ensures ∙ c.in-Record.is in
    (e, header_right c.requires c.loop-n.invariant _ e)

pub see_next-seen-requires : goal.see_next-seen-requires
see_next-seen-requires c = let e = sym c.next_at.ensures ∙ c.in-Record.is in
    turn_seeable c.requires c.loop-n.invariant _ e c.function_at-f.ensures

pub pass_over-requires : goal.pass_over-requires
pass_over-requires c = let e = sym c.next_at.ensures ∙ c.in-Record.is in
    record { board_value = (e, header_right c.requires c.loop-n.invariant _ e); placeable = (turn_placeable c.requires c.loop-n.invariant _ e refl, turn_bridged c.requires c.loop-n.invariant _ e refl) }

pub overflow_add-at : goal.overflow_add-at
overflow_add-at c = let e = sym c.next_at.ensures ∙ c.in-Record.is in
    omega (arith, fits_at c.args.board.now c.loop-n.at _ e)

pub overflow_add-at-in-Record : goal.overflow_add-at-in-Record
overflow_add-at-in-Record c = let e = sym c.next_at.ensures ∙ c.in-Record.is in
    omega (arith, fits_at c.args.board.now c.loop-n.at _ e)

pub overflow_add-i : goal.overflow_add-i
overflow_add-i c = let e = sym c.next_at.ensures ∙ c.in-Record.is in
    omega (arith, below_most c.requires c.loop-n.invariant _ e)

pub loop-n-smaller : goal.loop-n-smaller
loop-n-smaller c = let e = sym c.next_at.ensures ∙ c.in-Record.is in
    omega (arith, fits_at c.args.board.now c.loop-n.at _ e)

pub loop-n-preserved : goal.loop-n-preserved
loop-n-preserved c = let e = sym c.next_at.ensures ∙ c.in-Record.is in
    rw (add-one c.loop-n.i)
    (walked_turn c.requires c.loop-n.invariant _ e c.function_at-f.ensures c.see_next-seen.ensures
    (c.pass_over.ensures ∙ ap (λ (f : Function). cursors_next c.args.memo.now c.loop-n.cursors c.loop-n.i f) (sym c.function_at-f.ensures))
    (omega (arith, c.pass_over.auto.cursors)))
