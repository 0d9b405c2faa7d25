-- `script_feed::Input::feed` meets its contract: of the piece what comes before the board, and the rest. Assumes nothing.
use mathlib.Core.Path.{ap, ◌∙◌}
use mathlib.Core.List.{List}
use Prim.Native.Nat.{ℕ, ◌+◌, min}
use lib.ListN.{length}
use lib.Seq.{sets}
use Rattle.std.proofs.lemmas.List.{take_min, drop_min}
use Rattle.board_feed.specs.Feed as board
use Rattle.script_feed.specs.FeedLaws.{fed_is}
use Rattle.script_feed.proofs.Input.feed.Goals as goal

pub returns : goal.returns
returns c = let early = rw (c.min.ensures, take_min, c.saturating_sub-left.ensures) at c.split_at.ensures.front in
    let late = rw (c.min.ensures, drop_min, c.saturating_sub-left.ensures) at c.split_at.ensures.back in (
      fed_is c.args.self c.args.front.now c.args.piece.now _ _ c.put_text-arg-1.given.0.1
          (c.put_text-count.ensures.place ∙ ap (λ (t : List ℕ). min (c.args.self.front + length t) (length c.args.front.now)) early)
          (c.feed.ensures.0 ∙ ap (board.fed_of c.args.self.board) late),
      c.put_text-count.ensures.stored ∙ ap (sets c.args.front.now c.args.self.front) early,
      c.feed.ensures.1 ∙ ap (sets c.args.kept.now c.args.self.board.count) late,
    )
