-- `capi_trace::take` meets its contract: numbers that are no state, no room for the answer, lines that do not fit, and a piece that was
-- taken. Assumes nothing.
use Rattle.std.proofs.Common.{◌∙◌}
use Rattle.trace_engine.specs.Engine.{line_of}
use Rattle.trace_numbers.specs.NumbersLaws.{accepted_of_ok, refused_of_err}
use Rattle.capi_trace.specs.CallsLaws.{piece_refused, six_of_accepted, accepted_no_slice, accepted_not_fed, accepted_fed}
use Rattle.capi_trace.proofs.take.Goals as goal

pub returns-in-Err : goal.returns-in-Err
returns-in-Err c = let line = line_of c.args.engine c.args.bytes.now in
    let both = piece_refused line c.args.state.now c.args.piece.now c.args.lines.now c.args.written.now _ (refused_of_err _ _ c.in-Err.ensures) in
    record { value = c.from.ensures ∙ both.0; state_after = both.1.0; lines_after = both.1.1.0; written_after = both.1.1.1 }

pub returns-then-written-eq0 : goal.returns-then-written-eq0
returns-then-written-eq0 c = let line = line_of c.args.engine c.args.bytes.now in
    let both = accepted_no_slice line c.args.state.now c.args.piece.now c.args.lines.now c.args.written.now _ (accepted_of_ok _ _ c.in-Ok.ensures) c.if-written-eq0.true in
    record { value = both.0; state_after = both.1.0; lines_after = both.1.1.0; written_after = both.1.1.1 }

pub returns-then-fed-ne0 : goal.returns-then-fed-ne0
returns-then-fed-ne0 c = let line = line_of c.args.engine c.args.bytes.now in
    let both = accepted_not_fed line c.args.state.now c.args.piece.now c.args.lines.now c.args.written.now _ (accepted_of_ok _ _ c.in-Ok.ensures) c.if-written-eq0.false c.feed_by-fed.result c.feed_by-fed.ensures.0 _ c.feed_by-fed.ensures.1
    c.if-fed-ne0.true in
    record { value = both.0; state_after = both.1.0; lines_after = both.1.1.0; written_after = both.1.1.1 }

pub put_state-requires : goal.put_state-requires
put_state-requires c = let line = line_of c.args.engine c.args.bytes.now in
    six_of_accepted line c.args.state.now c.args.piece.now c.args.lines.now c.args.written.now _ (accepted_of_ok _ _ c.in-Ok.ensures)

pub returns : goal.returns
returns c = let line = line_of c.args.engine c.args.bytes.now in
    let both = accepted_fed line c.args.state.now c.args.piece.now c.args.lines.now c.args.written.now _ (accepted_of_ok _ _ c.in-Ok.ensures) c.if-written-eq0.false c.feed_by-fed.result c.feed_by-fed.ensures.0 _ c.feed_by-fed.ensures.1
    c.if-fed-ne0.false
    _ _ _ c.put_state.ensures (c.give_one.ensures.value, c.give_one.ensures.out_after) in
    record { value = both.0; state_after = both.1.0; lines_after = both.1.1.0; written_after = both.1.1.1 }
