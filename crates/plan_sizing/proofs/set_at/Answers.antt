-- `plan_sizing::set_at` meets its contract: six elements are the first six of the rest. Assumes nothing.
use mathlib.Core.Path.{sym}
use Prim.Native.Nat.{◌*◌}
use Rattle.plan_sizing.specs.FunctionsLaws.{set_at_lem}
use Rattle.plan_sizing.proofs.set_at.Goals as goal

pub returns : goal.returns
returns c = sym (set_at_lem c.args.readbacks.now (6 * c.args.i) c.requires)
