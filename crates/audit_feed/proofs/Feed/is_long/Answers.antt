-- `audit_feed::Feed::is_long` meets its contract. Assumes nothing.
use borrow.Author.Rules.{rules}
use Rattle.audit_feed.specs.Feed.{is_long}
use Rattle.audit_feed.proofs.Feed.is_long.Goals as goal

pub returns : goal.returns
unfolding is_long
returns c = search rules
