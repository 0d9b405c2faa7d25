-- `bar::is_paired`: where it says so, a place follows. Assumes nothing.
use mathlib.Core.Path.{ap}
use mathlib.Core.Bool.{◌&&◌}
use Prim.Native.Nat.{◌+◌}
use lib.Dec.{ltb}
use borrow.Author.Tests.{ltb-true}
use Rattle.arith.specs.BoolLaws.{both_of_and}
use Rattle.bar.proofs.is_paired.Goals as goal

pub returns : goal.returns
returns c = (ap (λ b. ltb (c.args.i + 1) c.args.n && b) c.is_wide.ensures, (λ t. ltb-true _ _ (both_of_and _ _ t).0))
