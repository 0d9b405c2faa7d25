-- `scripter::pass_records` meets its contract. Assumes nothing.
use mathlib.Core.Path.{sym, ◌∙◌}
use native.Mathlib.Omega.{arith}
use native.Mathlib.Numerals.{add-one}
use Rattle.scripter.specs.PassLaws.{pass_length, passed_turn}
use Rattle.scripter.specs.PassLaws.{passed_start, passed_end, pass_header, pass_placeable, pass_bridged}
use Rattle.scripter.specs.PassLaws.{pass_few, pass_room}
use Rattle.script_writes.proofs.Wrote.{wrote_length}
use Rattle.records.specs.RecordsLaws.{fits_at}
use Rattle.scripter.proofs.pass_records.Goals as goal

pub loop-n-init : goal.loop-n-init
loop-n-init c = passed_start c.args.pass c.args.board.now c.requires

pub shape_of-cursors : goal.shape_of-cursors
shape_of-cursors c = pass_length c.requires c.loop-n.invariant

pub shape_of-room : goal.shape_of-room
shape_of-room c = wrote_length c.loop-n.invariant.wrote

pub returns : goal.returns
returns c = passed_end c.requires c.loop-n.invariant (λ n e. c.in_default.not-Record n (c.next_at.ensures ∙ e))

pub put_next-next-requires : goal.put_next-next-requires
put_next-next-requires c = let e = sym c.next_at.ensures ∙ c.in-Record.is in
    record { board_value = (e, pass_header c.requires c.loop-n.invariant _ e); placeable = (pass_placeable c.requires c.loop-n.invariant _ e, pass_bridged c.requires c.loop-n.invariant _ e); n_in_bounds = pass_room c.requires c.loop-n.invariant _ e }

pub overflow_add-at : goal.overflow_add-at
overflow_add-at c = let e = sym c.next_at.ensures ∙ c.in-Record.is in
    omega (arith, fits_at c.args.board.now c.loop-n.at _ e)

pub overflow_add-at-in-Record : goal.overflow_add-at-in-Record
overflow_add-at-in-Record c = let e = sym c.next_at.ensures ∙ c.in-Record.is in
    omega (arith, fits_at c.args.board.now c.loop-n.at _ e)

pub overflow_add-i : goal.overflow_add-i
overflow_add-i c = let e = sym c.next_at.ensures ∙ c.in-Record.is in
    omega (arith, pass_few c.requires c.loop-n.invariant _ e)

pub loop-n-smaller : goal.loop-n-smaller
loop-n-smaller c = let e = sym c.next_at.ensures ∙ c.in-Record.is in
    omega (arith, fits_at c.args.board.now c.loop-n.at _ e)

pub loop-n-preserved : goal.loop-n-preserved
loop-n-preserved c = let e = sym c.next_at.ensures ∙ c.in-Record.is in
    rw (add-one c.loop-n.i)
    (passed_turn c.requires c.loop-n.invariant _ e c.put_next-next.ensures.cursors c.put_next-next.auto.cursors c.put_next-next.ensures.room)
