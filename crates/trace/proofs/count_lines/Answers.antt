-- `trace::count_lines` meets its contract. The invariant: from what was counted, the rest of the piece comes to what the whole piece
-- comes to. Assumes nothing.
use Rattle.std.proofs.Common.{sym, ◌∙◌, arith}
use Rattle.records.specs.FrameLaws.{heard_at, heard_past}
use Rattle.trace.specs.Trace.{line_count}
use Rattle.trace.proofs.TraceLaws.{whole_fits}
use Rattle.trace.proofs.FeedLaws.{count_le, count_whole}
use Rattle.trace.proofs.count_lines.Goals as goal

pub overflow_add-count : goal.overflow_add-count
overflow_add-count c = omega (arith, c.loop-i.invariant.1)

pub overflow_add-i : goal.overflow_add-i
overflow_add-i c = omega (arith, whole_fits c.loop-i.stage c.args.piece.now c.loop-i.i _ (sym c.next_in.ensures ∙ c.in-Record.is))

pub overflow_add-i-in-Record : goal.overflow_add-i-in-Record
overflow_add-i-in-Record c = omega (arith, whole_fits c.loop-i.stage c.args.piece.now c.loop-i.i _ (sym c.next_in.ensures ∙ c.in-Record.is))

pub loop-i-smaller-in-Record : goal.loop-i-smaller-in-Record
loop-i-smaller-in-Record c = omega (arith, c.loop-i-test.true)

pub loop-i-preserved-in-Record : goal.loop-i-preserved-in-Record
loop-i-preserved-in-Record c = let is = sym c.next_in.ensures ∙ c.in-Record.is in (
  whole_fits c.loop-i.stage c.args.piece.now c.loop-i.i _ is,
  omega (arith, c.loop-i.invariant.1),
  sym (count_whole c.loop-i.stage c.loop-i.count c.args.piece.now c.loop-i.i _ is) ∙ c.loop-i.invariant.2,
)

pub counted-count-requires : goal.counted-count-requires
counted-count-requires c = omega (arith, c.loop-i.invariant.1)

pub loop-i-preserved : goal.loop-i-preserved
loop-i-preserved c = let le = count_le c.emitted.result c.loop-i.count in (
  omega arith,
  omega (arith, c.loop-i.invariant.1, c.counted-count.ensures, le),
  rw
      (c.stage_after-stage.ensures, c.counted-count.ensures, c.emitted.ensures, c.event_of-event.ensures)
      (sym (heard_at _ _ _ _ _ c.loop-i-test.true) ∙ c.loop-i.invariant.2),
)

pub returns : goal.returns
unfolding line_count
returns c = sym (heard_past _ _ _ _ _ c.loop-i-test.false) ∙ c.loop-i.invariant.2
