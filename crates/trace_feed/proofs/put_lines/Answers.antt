-- `trace_feed::put_lines` meets its contract. The invariant: with the lines of the rest of the piece put from here on, the room holds
-- those of the whole piece; the measure is the bytes left. Assumes nothing.
use Prim.Native.Nat.{◌≤◌}
use mathlib.Core.Path.{refl, sym, ap, subst, ◌∙◌}
use lib.ListN.{length}
use native.Mathlib.Omega.{arith}
use Rattle.trace.specs.Trace.{tracing, lines_of}
use Rattle.trace.proofs.TraceLaws.{turn, turn_whole, whole_fits, length_head, length_settled}
use Rattle.trace_engine.specs.Engine.{line_of}
use Rattle.trace_feed.specs.LoopLaws.{putting_start, putting_more, Done, putting_done}
use Rattle.trace.specs.declared.Trace.{Trace}
use Rattle.trace_feed.proofs.put_lines.Goals as goal

pub loop-i-init : goal.loop-i-init
loop-i-init c = let line = line_of c.args.engine c.args.bytes.now in
    let fits =
    subst (λ (t : Trace). length (lines_of line t c.args.piece.now) ≤ length c.args.out.now) (sym c.head_of-head.ensures.0)
    c.requires.1 in
    (c.head_of-head.ensures.1, putting_start _ _ _ _ fits)
    -- a whole record

pub part_at-requires : goal.part_at-requires
part_at-requires c = whole_fits c.loop-i.stage c.args.piece.now c.loop-i.i _ (sym c.next_in.ensures ∙ c.in-Record.is)

pub put_line-at-requires : goal.put_line-at-requires
put_line-at-requires c = c.requires.0

pub overflow_add-i : goal.overflow_add-i
overflow_add-i c = let fits = whole_fits c.loop-i.stage c.args.piece.now c.loop-i.i _ (sym c.next_in.ensures ∙ c.in-Record.is) in
    omega (arith, fits)

pub overflow_add-i-in-Record : goal.overflow_add-i-in-Record
overflow_add-i-in-Record c = let fits = whole_fits c.loop-i.stage c.args.piece.now c.loop-i.i _ (sym c.next_in.ensures ∙ c.in-Record.is) in
    omega (arith, fits)

pub loop-i-smaller-in-Record : goal.loop-i-smaller-in-Record
loop-i-smaller-in-Record c = omega (arith, c.loop-i-test.true)

pub loop-i-preserved-in-Record : goal.loop-i-preserved-in-Record
loop-i-preserved-in-Record c = let is = sym c.next_in.ensures ∙ c.in-Record.is in
    let moved =
    turn_whole (line_of c.args.engine c.args.bytes.now) (tracing c.loop-i.stage c.loop-i.n c.loop-i.kept c.loop-i.head)
    c.args.piece.now c.loop-i.i _ c.loop-i.invariant.0 is _ _ _ c.number_after-n.ensures c.part_at.ensures c.front-header.ensures in
    (refl, putting_more _ _ _ _ c.loop-i.invariant.1 moved (whole_fits c.loop-i.stage c.args.piece.now c.loop-i.i _ is) c.put_line-at.ensures)
    -- a byte

pub slice_bounds-keep-end : goal.slice_bounds-keep-end
slice_bounds-keep-end c = sym c.loop-i.invariant.0

pub slice_bounds-front-end : goal.slice_bounds-front-end
slice_bounds-front-end c = sym (ap length c.keep-kept.ensures.1 ∙ length_head c.event_of-event.result c.loop-i.kept c.loop-i.head ∙ c.loop-i.invariant.0)

pub put_emitted-at-requires : goal.put_emitted-at-requires
put_emitted-at-requires c = c.requires.0

pub slice_bounds-settle-end : goal.slice_bounds-settle-end
slice_bounds-settle-end c = sym (ap length c.keep-kept.ensures.1 ∙ length_head c.event_of-event.result c.loop-i.kept c.loop-i.head ∙ c.loop-i.invariant.0)

pub settle-kept-requires : goal.settle-kept-requires
settle-kept-requires c = ap length c.keep-kept.ensures.1 ∙ length_head c.event_of-event.result c.loop-i.kept c.loop-i.head ∙ c.loop-i.invariant.0

pub overflow_add-i-in-loop-i : goal.overflow_add-i-in-loop-i
overflow_add-i-in-loop-i c = omega (arith, c.loop-i-test.true)

pub loop-i-smaller : goal.loop-i-smaller
loop-i-smaller c = omega (arith, c.loop-i-test.true)

pub loop-i-preserved : goal.loop-i-preserved
loop-i-preserved c = let kept = ap length c.keep-kept.ensures.1 ∙ length_head c.event_of-event.result c.loop-i.kept c.loop-i.head ∙ c.loop-i.invariant.0 in
    let moved =
    turn (line_of c.args.engine c.args.bytes.now) (tracing c.loop-i.stage c.loop-i.n c.loop-i.kept c.loop-i.head)
    c.args.piece.now c.loop-i.i c.loop-i-test.true _ c.event_of-event.ensures _ c.emitted-emits.ensures _ _ _ _ _
    c.stage_after-stage.ensures c.number_after-n-in-loop-i.ensures c.keep-kept.ensures.0 c.keep-kept.ensures.1 c.front.ensures
    _ _ c.settle-kept.ensures.0 c.settle-kept.ensures.1 in (
      ap length c.settle-kept.ensures.1 ∙ length_settled c.emitted-emits.result _ kept,
      putting_more _ _ _ _ c.loop-i.invariant.1 moved (omega (arith, c.loop-i-test.true)) c.put_emitted-at.ensures,
    )

pub shape_of-out : goal.shape_of-out
shape_of-out c = c.loop-i.invariant.1.same_room

pub returns : goal.returns
returns c = let line = line_of c.args.engine c.args.bytes.now in
    let state = tracing c.loop-i.stage c.loop-i.n c.loop-i.kept c.loop-i.head in
    let done =
    subst (λ (t : Trace). Done line c.args.piece.now c.args.out.now t c.loop-i.out state c.loop-i.at)
    c.head_of-head.ensures.0 (putting_done _ _ _ _ c.loop-i.invariant.1 c.loop-i-test.false) in
    (done.answer, done.room)
