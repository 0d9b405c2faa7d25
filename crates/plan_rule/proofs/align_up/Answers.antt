-- `plan_rule::align_up` meets its contract: of a power of two the mask takes the remainder, and no sum passes 2^62 + 2^63. Assumes nothing.
use Rattle.arith.specs.PowersLaws.{pos_of_power, le_of_power}
use Rattle.arith.specs.AlignLaws.{align_up_mask}
use native.Mathlib.Omega.{arith}
use lib.Bits.{and_le_l}
use Prim.Native.Nat.{◌+◌, ◌-◌}
use Rattle.plan_rule.proofs.align_up.Goals as goal

pub overflow_sub-y : goal.overflow_sub-y
overflow_sub-y c = omega (arith, pos_of_power c.requires.0)

pub overflow_add-y : goal.overflow_add-y
overflow_add-y c = omega (arith, pos_of_power c.requires.0, le_of_power c.args.a c.requires.0 c.ranges.a.fits)

pub overflow_sub-result : goal.overflow_sub-result
overflow_sub-result c = omega (arith, pos_of_power c.requires.0)

pub overflow_sub-result-2 : goal.overflow_sub-result-2
overflow_sub-result-2 c = and_le_l (c.args.x + (c.args.a - 1)) (c.args.a - 1)

pub returns : goal.returns
returns c = align_up_mask c.args.a c.args.x c.requires.0
