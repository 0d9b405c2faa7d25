-- `audit_feed::Feed::feed` meets its contract: what fits of the piece is kept. The invariant: from what was heard, the rest of the
-- sheet's part comes to what the whole part comes to. Assumes nothing.
use mathlib.Core.Path.{◌≡◌}
use lib.ListN.{drop}
use Rattle.records.specs.Frame.{stage_of, heard_of}
use Rattle.audit_feed.specs.Feed.{heard_by}
use Rattle.audit_feed.proofs.Feed.feed.Given as goal

abbrev pub invariant-loop-byte : goal.invariant-loop-byte
invariant-loop-byte l =
    (stage_of l.stage (drop l.byte-index l.part) ≡ stage_of l.initial.stage l.part)
    × (heard_of heard_by l.stage l.misframed (drop l.byte-index l.part) ≡ heard_of heard_by l.initial.stage l.initial.misframed l.part)
