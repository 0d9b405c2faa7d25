-- `board_feed::Feed::feed` meets its contract: what fits of the piece is kept. The invariant: from what was heard, the rest of the piece
-- comes to what the whole piece comes to. Assumes nothing.
use mathlib.Core.Path.{refl, sym, ◌∙◌}
use Rattle.board_feed.specs.ShownLaws.{board_stage_at, board_stage_past, board_heard_at, board_heard_past}
use Rattle.board_feed.specs.FeedLaws.{fed_is}
use Rattle.board_feed.proofs.Feed.feed.Goals as goal

pub loop-byte-init : goal.loop-byte-init
loop-byte-init c = (refl, refl)

pub loop-byte-preserved : goal.loop-byte-preserved
loop-byte-preserved c = (
  rw (c.stage_after-stage.ensures, c.event_of-event.ensures, c.shown.ensures) (sym (board_stage_at _ _ _ c.loop-byte-test.true) ∙ c.loop-byte.invariant.0),
  rw (c.stage_after-stage.ensures, c.hear-tally.ensures, c.event_of-event.ensures, c.shown.ensures)
      (sym (board_heard_at _ _ _ _ c.loop-byte-test.true) ∙ c.loop-byte.invariant.1),
)

pub returns : goal.returns
returns c = (
  fed_is c.args.self c.args.kept.now c.args.piece.now _ _ _ c.put_text-arg-1.given.0.1
      c.put_text-count.ensures.place (sym (board_stage_past _ _ _ c.loop-byte-test.false) ∙ c.loop-byte.invariant.0)
      (sym (board_heard_past _ _ _ _ c.loop-byte-test.false) ∙ c.loop-byte.invariant.1),
  c.put_text-count.ensures.stored,
)
