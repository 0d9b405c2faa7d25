-- `trace_feed::feed` meets its contract. Assumes nothing.
use Rattle.trace_line.specs.Line.{line_over}
use Rattle.trace_line.specs.Finder.{routing_by}
use Rattle.trace_feed.proofs.feed.Goals as goal

pub feed_by-requires : goal.feed_by-requires
feed_by-requires c = c.check.ensures

pub returns : goal.returns
unfolding line_over routing_by
returns c = c.feed_by.ensures
