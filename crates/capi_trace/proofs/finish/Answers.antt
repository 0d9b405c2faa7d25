-- `capi_trace::finish` meets its contract: numbers that are no state, no room for the answer, a line that does not fit, and one that does.
-- Assumes nothing.
use Rattle.std.proofs.Common.{sym, ◌∙◌, eqb-true}
use Rattle.std.proofs.lemmas.Bool.{eqb-false}
use Rattle.trace_numbers.specs.NumbersLaws.{accepted_of_ok, refused_of_err}
use Rattle.capi_trace.specs.CallsLaws.{end_refused, accepted_end_no_slice, accepted_not_ended, accepted_ended}
use Rattle.capi_trace.proofs.finish.Goals as goal

pub returns-in-Err : goal.returns-in-Err
returns-in-Err c = let both = end_refused c.args.state.now c.args.lines.now c.args.written.now _ (refused_of_err _ _ c.in-Err.ensures) in
    record { value = c.from.ensures ∙ both.0; lines_after = both.1.0; written_after = both.1.1 }

pub returns-then-is_empty : goal.returns-then-is_empty
returns-then-is_empty c = let both = accepted_end_no_slice c.args.state.now c.args.lines.now c.args.written.now _ (accepted_of_ok _ _ c.in-Ok.ensures)
    (eqb-true _ _ (sym c.is_empty.ensures ∙ c.if-is_empty.true)) in
    record { value = both.0; lines_after = both.1.0; written_after = both.1.1 }

pub returns-then-last-ne0 : goal.returns-then-last-ne0
returns-then-last-ne0 c = let both = accepted_not_ended c.args.state.now c.args.lines.now c.args.written.now _ (accepted_of_ok _ _ c.in-Ok.ensures)
    (eqb-false _ _ (sym c.is_empty.ensures ∙ c.if-is_empty.false)) c.finish-last.result c.finish-last.ensures.0 _ c.finish-last.ensures.1
    c.if-last-ne0.true in
    record { value = both.0; lines_after = both.1.0; written_after = both.1.1 }

pub returns : goal.returns
returns c = let both = accepted_ended c.args.state.now c.args.lines.now c.args.written.now _ (accepted_of_ok _ _ c.in-Ok.ensures)
    (eqb-false _ _ (sym c.is_empty.ensures ∙ c.if-is_empty.false)) c.finish-last.result c.finish-last.ensures.0 _ c.finish-last.ensures.1
    c.if-last-ne0.false _ _ (c.give_one.ensures.value, c.give_one.ensures.out_after) in
    record { value = both.0; lines_after = both.1.0; written_after = both.1.1 }
