-- `board_feed::Feed::print` meets its contract: the plan, put whole, since no answer is longer than the room. Assumes nothing.
use native.Mathlib.Omega.{arith}
use mathlib.Core.Path.{refl}
use Rattle.text.specs.TextLaws.{put_whole}
use Rattle.board_feed.specs.Feed.{answer_of}
use Rattle.board_feed.proofs.Feed.print.Goals as goal

pub returns : goal.returns
unfolding answer_of
returns c = let w = put_whole (omega (arith, c.put_planning-arg-1.given.0.1, c.put_planning.ensures.fits)) c.put_planning.ensures.put in
    rw (← c.plan-planning.ensures.0, ← c.plan-planning.ensures.1) (w.0, rw w.0 w.1, refl)
