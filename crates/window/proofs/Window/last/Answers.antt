-- `Window::last` is the end of the limit's granule: a granule is from 1 to 1 MiB, so nothing goes below 0 or wraps. Assumes nothing.
use native.Mathlib.Omega.{arith}
use Rattle.pools.specs.PoolsLaws.{granule_pos, granule_le}
use Rattle.window.specs.Window.{stop}
use Rattle.window.proofs.Window.last.Goals as goal

pub overflow_sub-result : goal.overflow_sub-result
overflow_sub-result c = omega (arith, c.granule.ensures, granule_pos c.args.q)

pub overflow_add-result : goal.overflow_add-result
overflow_add-result c = omega (arith, c.granule.ensures, granule_le c.args.q)

pub returns : goal.returns
unfolding stop
returns c = omega (arith, c.granule.ensures, c.address.ensures.0, granule_pos c.args.q)
