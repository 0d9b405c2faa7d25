-- `plan_sizing::store` meets its contract: seven stores are `sets` of the seven numbers, by computation. Assumes nothing.
use native.Mathlib.Numerals.{add-one, add-two, add-three, add-four, add_five, add_six}
use Prim.Native.Nat.{◌*◌}
use Rattle.plan_sizing.proofs.store.Goals as goal

pub returns : goal.returns
returns c = let at = 7 * c.args.i in rw
    (add-one at, add-two at, add-three at, add-four at, add_five at, add_six at)
