-- `stream_trace::opening_of` meets its contract. Assumes nothing.
use Rattle.std.proofs.Common.{sym}
use Rattle.stream_trace.specs.ProgramLaws.{opening_long, opening_sheet}
use Rattle.stream_trace.proofs.opening_of.Goals as goal

pub returns-then-size-gt-FULL : goal.returns-then-size-gt-FULL
returns-then-size-gt-FULL c = sym (opening_long _ c.if-size-gt-FULL.true)

pub returns : goal.returns
returns c = sym (opening_sheet _ c.if-size-gt-FULL.false)
