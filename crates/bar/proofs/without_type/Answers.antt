-- `bar::without_type`: what is above the type bits. Assumes nothing.
use Prim.Native.Nat.{◌^◌}
use native.Mathlib.Nat.{div-add-mod'}
use native.Mathlib.Omega.{arith}
use Rattle.bar.specs.Bar.{type_bits}
use Rattle.bar.proofs.without_type.Goals as goal

pub returns : goal.returns
returns c = omega (arith, div-add-mod' c.args.v (2 ^ type_bits c.args.pool))
