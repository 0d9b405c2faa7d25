-- `index_table::step` meets its contract: a quarter, as many times as keys were passed. Assumes nothing.
use Rattle.std.proofs.Common.{◌+◌, ◌≤◌, mul-le-mul_left, arith}
use Rattle.index_table.specs.Search.{key_of}
use Rattle.index_table.specs.SearchLaws.{onward_times}
use Rattle.index_table.proofs.step.Goals as goal

pub overflow_mul-result : goal.overflow_mul-result
overflow_mul-result c = let three : c.reached-first.result + c.reached-second.result + c.reached-third.result ≤ 3 =
    omega (arith, c.reached-first.ensures.1, c.reached-second.ensures.1, c.reached-third.ensures.1) in
    omega (arith, mul-le-mul_left c.args.quarter three)

pub overflow_add-result-3 : goal.overflow_add-result-3
overflow_add-result-3 c = let three : c.reached-first.result + c.reached-second.result + c.reached-third.result ≤ 3 =
    omega (arith, c.reached-first.ensures.1, c.reached-second.ensures.1, c.reached-third.ensures.1) in
    omega (arith, mul-le-mul_left c.args.quarter three)

pub returns : goal.returns
returns c = let three : c.reached-first.result + c.reached-second.result + c.reached-third.result ≤ 3 =
    omega (arith, c.reached-first.ensures.1, c.reached-second.ensures.1, c.reached-third.ensures.1) in (
      onward_times (λ i. key_of c.args.index.now c.args.n c.args.a i) c.args.a c.args.lo c.args.quarter
          (rw c.key_at.ensures at c.reached-first.ensures.0) (rw c.key_at-2.ensures at c.reached-second.ensures.0)
          (rw c.key_at-3.ensures at c.reached-third.ensures.0),
      omega (arith, mul-le-mul_left c.args.quarter three),
    )
