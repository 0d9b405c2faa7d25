-- `audit_feed::Feed::print` meets its contract: the line, put whole, since none is longer than the room. Assumes nothing.
use native.Mathlib.Omega.{arith}
use Rattle.text.specs.TextLaws.{put_whole}
use Rattle.audit_feed.specs.Feed.{answer_of}
use Rattle.audit_feed.specs.ProgramLaws.{text_le}
use Rattle.audit_feed.proofs.Feed.print.Goals as goal

pub returns : goal.returns
unfolding answer_of
returns c = let w = put_whole (omega (arith, c.put_number-arg-1.given.0.1, text_le c.number-number.result (omega arith))) c.put_number.ensures in
    rw (← c.number-number.ensures) (w.0, rw w.0 w.1)
