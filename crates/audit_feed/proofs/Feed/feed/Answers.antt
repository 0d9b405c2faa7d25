-- `audit_feed::Feed::feed` meets its contract: what fits of the piece is kept. The invariant: from what was heard, the rest of the
-- sheet's part comes to what the whole part comes to. Assumes nothing.
use mathlib.Core.Path.{refl, sym, ap, ◌∙◌}
use Rattle.std.proofs.lemmas.List.{drop_min}
use Rattle.records.specs.Frame.{stage_of, heard_of}
use Rattle.records.specs.FrameLaws.{stage_at, stage_past, heard_at, heard_past}
use Rattle.audit_feed.specs.Feed.{heard_by}
use Rattle.audit_feed.specs.FeedLaws.{fed_is}
use Rattle.audit_feed.proofs.Feed.feed.Goals as goal

pub loop-byte-init : goal.loop-byte-init
loop-byte-init c = (refl, refl)

pub loop-byte-preserved : goal.loop-byte-preserved
loop-byte-preserved c = (
  rw (c.stage_after-stage.ensures, c.event_of-event.ensures) (sym (stage_at _ _ _ c.loop-byte-test.true) ∙ c.loop-byte.invariant.0),
  rw
      (c.stage_after-stage.ensures, c.hear-misframed.ensures, c.event_of-event.ensures) (sym (heard_at _ _ _ _ _ c.loop-byte-test.true) ∙ c.loop-byte.invariant.1),
)

pub returns : goal.returns
returns c = let sheet = rw (c.min.ensures, drop_min, c.saturating_sub-before.ensures) at c.split_at.ensures.back in (
  fed_is c.args.self c.args.kept.now c.args.piece.now _ _ _ c.put_text-arg-1.given.0.1
      c.put_text-count.ensures.place
      (sym (stage_past _ _ _ c.loop-byte-test.false) ∙ c.loop-byte.invariant.0 ∙ ap (stage_of _) sheet)
      (sym (heard_past _ _ _ _ _ c.loop-byte-test.false) ∙ c.loop-byte.invariant.1 ∙ ap (heard_of heard_by _ _) sheet),
  c.put_text-count.ensures.stored,
)
