-- `plan_pass::store_cursors` meets its contract: three stores are `sets` of the three numbers, by computation. Assumes nothing.
use Prim.Native.Nat.{◌*◌}
use native.Mathlib.Numerals.{add-one, add-two}
use native.Mathlib.Omega.{arith}
use lib.ListN.{length-set}
use Rattle.plan_pass.proofs.store_cursors.Goals as goal

pub bounds-cursors-at-2 : goal.bounds-cursors-at-2
bounds-cursors-at-2 c = simp length-set (omega arith)

pub bounds-cursors-at-3 : goal.bounds-cursors-at-3
bounds-cursors-at-3 c = simp length-set (omega arith)

pub returns : goal.returns
returns c = let at = 3 * c.args.b in rw (add-one at, add-two at)
