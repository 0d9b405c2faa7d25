-- `out_after` meets its contract: the test decides. Assumes nothing.
use Rattle.plan_items.specs.WalkLaws.{out_after_test}
use mathlib.Core.Bool.{true, false}
use Rattle.plan_items.proofs.out_after.Goals as goal

pub returns-then-out-x : goal.returns-then-out-x
returns-then-out-x c = out_after_test c.args.w c.args.out c.args.x _ true c.ends_out.ensures c.if-out-x.true

pub returns : goal.returns
returns c = out_after_test c.args.w c.args.out c.args.x _ false c.ends_out.ensures c.if-out-x.false
