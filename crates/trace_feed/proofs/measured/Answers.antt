-- `trace_feed::measured` meets its contract. The invariant: what was measured and the lines of the rest of the piece are as long as those
-- of the whole piece. Assumes nothing.
use mathlib.Core.Path.{◌≡◌, refl, sym, ap, subst, ◌∙◌}
use lib.ListN.{length}
use native.Mathlib.Omega.{arith}
use Rattle.trace.specs.Trace.{tracing, lines_of}
use Rattle.trace.proofs.TraceLaws.{turn, length_head, length_settled}
use Rattle.trace_engine.specs.Engine.{line_of}
use mathlib.Core.Bool.{true, false}
use lib.Dec.{leb}
use Rattle.trace_feed.specs.LoopLaws.{measuring_start, measuring_more, measured_short, measured_all}
use Rattle.trace.specs.declared.Trace.{Trace}
use Rattle.trace_feed.proofs.measured.Goals as goal

pub loop-byte-init : goal.loop-byte-init
loop-byte-init c = (c.head_of-head.ensures.1, measuring_start _ _ _ _)

pub slice_bounds-keep-end : goal.slice_bounds-keep-end
slice_bounds-keep-end c = sym c.loop-byte.invariant.0

pub slice_bounds-front-end : goal.slice_bounds-front-end
slice_bounds-front-end c = sym (ap length c.keep-kept.ensures.1 ∙ length_head c.event_of-event.result c.loop-byte.kept c.loop-byte.head ∙ c.loop-byte.invariant.0)

pub overflow_sub-room : goal.overflow_sub-room
overflow_sub-room c = c.loop-byte.invariant.1.fits

pub returns-then-room-total : goal.returns-then-room-total
returns-then-room-total c = let moved =
    turn (line_of c.args.engine c.args.bytes.now) (tracing c.loop-byte.stage c.loop-byte.n c.loop-byte.kept c.loop-byte.head)
    c.args.piece.now c.loop-byte.byte-index c.loop-byte-test.true _ c.event_of-event.ensures _ c.emitted-emits.ensures _ _ _ _ _ refl
    c.number_after-n.ensures c.keep-kept.ensures.0 c.keep-kept.ensures.1 c.front.ensures _ _ refl refl in
    let line = line_of c.args.engine c.args.bytes.now in
    subst (λ (t : Trace). false ≡ leb (length (lines_of line t c.args.piece.now)) c.args.room) c.head_of-head.ensures.0
    (measured_short _ _ _ _ c.loop-byte.invariant.1 c.loop-byte-test.true moved c.size_of-size.ensures c.if-room-total.true)

pub overflow_add-total : goal.overflow_add-total
overflow_add-total c = omega (arith, c.loop-byte.invariant.1.fits)

pub slice_bounds-settle-end : goal.slice_bounds-settle-end
slice_bounds-settle-end c = sym (ap length c.keep-kept.ensures.1 ∙ length_head c.event_of-event.result c.loop-byte.kept c.loop-byte.head ∙ c.loop-byte.invariant.0)

pub settle-kept-requires : goal.settle-kept-requires
settle-kept-requires c = ap length c.keep-kept.ensures.1 ∙ length_head c.event_of-event.result c.loop-byte.kept c.loop-byte.head ∙ c.loop-byte.invariant.0

pub loop-byte-preserved : goal.loop-byte-preserved
loop-byte-preserved c = let kept = ap length c.keep-kept.ensures.1 ∙ length_head c.event_of-event.result c.loop-byte.kept c.loop-byte.head ∙ c.loop-byte.invariant.0 in
    let moved =
    turn (line_of c.args.engine c.args.bytes.now) (tracing c.loop-byte.stage c.loop-byte.n c.loop-byte.kept c.loop-byte.head)
    c.args.piece.now c.loop-byte.byte-index c.loop-byte-test.true _ c.event_of-event.ensures _ c.emitted-emits.ensures _ _ _ _ _
    c.stage_after-stage.ensures c.number_after-n.ensures c.keep-kept.ensures.0 c.keep-kept.ensures.1 c.front.ensures
    _ _ c.settle-kept.ensures.0 c.settle-kept.ensures.1 in (
      ap length c.settle-kept.ensures.1 ∙ length_settled c.emitted-emits.result _ kept,
      measuring_more _ _ _ _ c.loop-byte.invariant.1 c.loop-byte-test.true moved c.size_of-size.ensures c.if-room-total.false,
    )

pub returns : goal.returns
returns c = let line = line_of c.args.engine c.args.bytes.now in
    subst (λ (t : Trace). true ≡ leb (length (lines_of line t c.args.piece.now)) c.args.room) c.head_of-head.ensures.0
    (measured_all _ _ _ _ c.loop-byte.invariant.1 c.loop-byte-test.false)
