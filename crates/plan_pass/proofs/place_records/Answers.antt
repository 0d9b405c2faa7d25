-- `plan_pass::place_records` meets its contract. The invariant is `Standing`: the records before the cursor are placed and written, and the
-- cursors hold what is left for the rest. The measure is the bytes left. Assumes nothing.
use mathlib.Core.Path.{sym, ◌∙◌}
use native.Mathlib.Numerals.{add-one}
use native.Mathlib.Omega.{arith}
use Rattle.records.specs.RecordsLaws.{fits_at}
use Rattle.plan_pass.specs.LoopLaws.{standing_start, header_right, turn_placeable, turn_bridged, turn_room, standing_turn}
use Rattle.plan_pass.specs.LoopLaws.{finished_end}
use Rattle.plan_pass.proofs.place_records.Goals as goal

pub loop-n-init : goal.loop-n-init
loop-n-init c = standing_start c.args.board.now c.requires

pub shape_of-cursors : goal.shape_of-cursors
shape_of-cursors c = c.loop-n.invariant.cursors_length

pub shape_of-sheet : goal.shape_of-sheet
shape_of-sheet c = c.loop-n.invariant.sheet_length_lem

pub returns : goal.returns
returns c = finished_end c.requires c.loop-n.invariant (λ n e. c.in_default.not-Record n (c.next_at.ensures ∙ e))

pub overflow_mul-to : goal.overflow_mul-to
overflow_mul-to c = let e = sym c.next_at.ensures ∙ c.in-Record.is in
    omega (arith, turn_room c.requires c.loop-n.invariant _ e)

pub overflow_add-to : goal.overflow_add-to
overflow_add-to c = let e = sym c.next_at.ensures ∙ c.in-Record.is in
    omega (arith, turn_room c.requires c.loop-n.invariant _ e)

pub place_at-requires : goal.place_at-requires
place_at-requires c = let e = sym c.next_at.ensures ∙ c.in-Record.is in record { board_value = (e, header_right c.requires c.loop-n.invariant _ e); placeable = (turn_placeable c.requires c.loop-n.invariant _ e, turn_bridged c.requires c.loop-n.invariant _ e, omega (arith, turn_room c.requires c.loop-n.invariant _ e)) }

pub overflow_add-at : goal.overflow_add-at
overflow_add-at c = let e = sym c.next_at.ensures ∙ c.in-Record.is in
    omega (arith, fits_at c.args.board.now c.loop-n.at _ e)

pub overflow_add-at-in-Record : goal.overflow_add-at-in-Record
overflow_add-at-in-Record c = let e = sym c.next_at.ensures ∙ c.in-Record.is in
    omega (arith, fits_at c.args.board.now c.loop-n.at _ e)

pub overflow_add-i : goal.overflow_add-i
overflow_add-i c = let e = sym c.next_at.ensures ∙ c.in-Record.is in
    let room = turn_room c.requires c.loop-n.invariant _ e in
    omega (arith, room)

pub loop-n-smaller : goal.loop-n-smaller
loop-n-smaller c = let e = sym c.next_at.ensures ∙ c.in-Record.is in
    omega (arith, fits_at c.args.board.now c.loop-n.at _ e)

pub loop-n-preserved : goal.loop-n-preserved
loop-n-preserved c = let e = sym c.next_at.ensures ∙ c.in-Record.is in
    rw (add-one c.loop-n.i)
    (standing_turn c.requires c.loop-n.invariant _ e c.place_at.ensures.cursors c.place_at.ensures.out (omega (arith, c.place_at.auto.cursors)))
