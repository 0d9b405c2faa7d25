-- `capi_trace::follow` meets its contract: an ID above the greatest, and else both ends over a sheet with the sheet's own number. Assumes
-- nothing.
use mathlib.Core.Path.{refl}
use borrow.Author.Tests.{lt-ltb, le-ltb}
use Rattle.capi_trace.proofs.follow.Goals as goal

pub returns-then-host_id-gt-LAST_ID : goal.returns-then-host_id-gt-LAST_ID
returns-then-host_id-gt-LAST_ID c = record { value = rw (lt-ltb 65535 c.args.host_id c.if-host_id-gt-LAST_ID.true) refl; state_after = rw (lt-ltb 65535 c.args.host_id c.if-host_id-gt-LAST_ID.true) refl; lines_after = rw (lt-ltb 65535 c.args.host_id c.if-host_id-gt-LAST_ID.true) refl; written_after = rw (lt-ltb 65535 c.args.host_id c.if-host_id-gt-LAST_ID.true) refl }

pub returns : goal.returns
returns c = record { value = rw (le-ltb 65535 c.args.host_id c.if-host_id-gt-LAST_ID.false) c.take.ensures.value; state_after = rw (le-ltb 65535 c.args.host_id c.if-host_id-gt-LAST_ID.false) c.take.ensures.state_after; lines_after = rw (le-ltb 65535 c.args.host_id c.if-host_id-gt-LAST_ID.false) c.take.ensures.lines_after; written_after = rw (le-ltb 65535 c.args.host_id c.if-host_id-gt-LAST_ID.false) c.take.ensures.written_after }
