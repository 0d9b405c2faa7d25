use Rattle.trace_ends.specs.EndsLaws.{sheet_refused, sheet_passed}
use Rattle.trace_ends.proofs.ends_over.Goals as goal

pub returns-then-number-ne0 : goal.returns-then-number-ne0
returns-then-number-ne0 c = sheet_refused _ _ _ _ c.requires c.if-number-ne0.true

pub returns : goal.returns
returns c = sheet_passed _ _ _ _ c.requires c.if-number-ne0.false _ c.packet_sent.ensures
