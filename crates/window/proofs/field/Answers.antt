-- `field` meets its contract: neither divisor is 0, and a rest of at most 4096 is below that. Assumes nothing.
use native.Mathlib.Omega.{arith}
use native.Mathlib.Nat.{mod-lt}
use Prim.Native.Nat.{◌/◌}
use Rattle.window.proofs.field.Goals as goal

pub returns : goal.returns
returns c = (
  rw (c.granule.ensures, c.fields.ensures.0),
  omega (arith, mod-lt (c.args.a / c.granule.result) c.fields.ensures.1),
)
