-- `capi_trace::annotate` meets its contract: a sheet is an engine with the sheet's own number. Assumes nothing.
use borrow.Author.Rules.{rules}
use Rattle.trace_line.specs.Line.{line_over}
use Rattle.trace_line.specs.Finder.{routing_by}
use Rattle.capi_trace.proofs.annotate.Goals as goal

pub returns : goal.returns
unfolding line_over routing_by
returns c = search rules
