-- `trace_line::route_over` meets its contract: the sheet is not checked again. Assumes nothing.
use Rattle.trace_line.specs.LineLaws.{sheet_refused, sheet_passed}
use mathlib.Core.Path.{sym, ◌∙◌}
use Rattle.trace_line.proofs.route_over.Goals as goal

pub returns-then-number-ne0 : goal.returns-then-number-ne0
returns-then-number-ne0 c = sheet_refused _ _ _ c.requires c.if-number-ne0.true

pub route_packet-requires : goal.route_packet-requires
route_packet-requires c = sym c.requires ∙ c.if-number-ne0.false

pub returns : goal.returns
returns c = sheet_passed _ _ _ c.requires c.if-number-ne0.false _ c.route_packet.ensures
