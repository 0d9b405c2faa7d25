-- `plan_where::parties_under` meets its contract: by the number. Assumes nothing.
use mathlib.Core.Logic.{◌≢◌}
use native.Mathlib.Omega.{arith}
use borrow.Author.Tests.{ne_eqb}
use Rattle.plan_where.specs.Finding.{parties_under}
use Rattle.plan_where.proofs.parties_under.Goals as goal

pub returns-in-31 : goal.returns-in-31
unfolding parties_under
returns-in-31 c = rw c.in-31.is c.in_pool.ensures

pub returns-in-32 : goal.returns-in-32
unfolding parties_under
returns-in-32 c = rw c.in-32.is c.in_pool-in-32.ensures

pub returns-in-33 : goal.returns-in-33
unfolding parties_under
returns-in-33 c = rw c.in-33.is c.in_pool-in-33.ensures

pub returns-in_default : goal.returns-in_default
unfolding parties_under
returns-in_default c = let low : c.args.number ≢ 31 = omega arith in
    let high : c.args.number ≢ 32 = omega arith in
    let io : c.args.number ≢ 33 = omega arith in
    rw (ne_eqb c.args.number 31 low, ne_eqb c.args.number 32 high, ne_eqb c.args.number 33 io)
