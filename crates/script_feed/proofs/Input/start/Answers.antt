-- `script_feed::Input::start` meets its contract. Assumes nothing.
use Rattle.script_feed.specs.FeedLaws.{started_is}
use Rattle.script_feed.proofs.Input.start.Goals as goal

pub returns : goal.returns
returns c = started_is _ c.start.ensures
