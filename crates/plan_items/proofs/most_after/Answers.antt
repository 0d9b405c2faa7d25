-- `most_after` meets its contract: the test decides. Assumes nothing.
use borrow.Author.Tests.{lt-ltb, le-ltb}
use Prim.Native.Nat.{◌-◌}
use Rattle.plan_items.proofs.most_after.Goals as goal

pub returns-then-most-room : goal.returns-then-most-room
returns-then-most-room c = rw (lt-ltb c.args.most.room (c.args.x.start - c.args.x.before) c.if-most-room.true)

pub returns : goal.returns
returns c = rw (le-ltb c.args.most.room (c.args.x.start - c.args.x.before) c.if-most-room.false)
