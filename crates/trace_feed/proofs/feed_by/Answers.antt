-- `trace_feed::feed_by` meets its contract: a piece whose lines do not fit changes nothing. Assumes nothing.
use Rattle.std.proofs.Common.{ap}
use Rattle.std.specs.Prelude.{not}
use Rattle.trace_feed.specs.LoopLaws.{fits_elim, not_taken}
use Rattle.trace_feed.proofs.feed_by.Goals as goal

pub returns-then-not-fits : goal.returns-then-not-fits
returns-then-not-fits c = not_taken _ _ _ _ c.fits.result c.fits.ensures (ap not c.if-not-fits.true)

pub put_lines-requires : goal.put_lines-requires
put_lines-requires c = (c.requires, fits_elim _ _ _ c.args.out.now c.fits.result c.fits.ensures (ap not c.if-not-fits.false))
