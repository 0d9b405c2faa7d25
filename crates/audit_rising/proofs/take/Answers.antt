-- `audit_rising::take`: a range that starts above what is taken, and ends below the limit, is taken. Assumes nothing.
use Rattle.std.proofs.Common.{rules, arith}
use Rattle.audit_rising.specs.RisingLaws.{last_below_lem, takes_one}
use Rattle.audit_rising.proofs.take.Goals as goal

pub overflow_add-table : goal.overflow_add-table
overflow_add-table c = grind (arith, last_below_lem)

pub returns : goal.returns
returns c = search (rules, takes_one)
