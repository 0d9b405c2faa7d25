-- `audit_feed::Feed::long_number` meets its contract: the host record first, then the frame. Assumes nothing.
use mathlib.Core.Path.{sym, ◌∙◌}
use Rattle.audit_feed.specs.Feed.{long_number}
use Rattle.audit_feed.proofs.Feed.long_number.Goals as goal

pub returns-then-host_wrong : goal.returns-then-host_wrong
unfolding long_number
returns-then-host_wrong c = rw (← c.host_of-h.ensures, sym c.host_wrong.ensures ∙ c.if-host_wrong.true)

pub returns : goal.returns
unfolding long_number
returns c = rw (← c.host_of-h.ensures, sym c.host_wrong.ensures ∙ c.if-host_wrong.false)
    c.frame_number.ensures
