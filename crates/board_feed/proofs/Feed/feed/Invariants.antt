-- `board_feed::Feed::feed` meets its contract: what fits of the piece is kept. The invariant: from what was heard, the rest of the piece
-- comes to what the whole piece comes to. Assumes nothing.
use mathlib.Core.Path.{◌≡◌}
use lib.ListN.{drop}
use Rattle.board_feed.specs.Shown.{board_stage, board_heard}
use Rattle.board_feed.proofs.Feed.feed.Given as goal

abbrev pub invariant-loop-byte : goal.invariant-loop-byte
invariant-loop-byte l =
    (board_stage l.stage (drop l.byte-index l.piece) ≡ board_stage l.initial.stage l.piece)
    × (board_heard l.stage l.tally (drop l.byte-index l.piece) ≡ board_heard l.initial.stage l.initial.tally l.piece)
