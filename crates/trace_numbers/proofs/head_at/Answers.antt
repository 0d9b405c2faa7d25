-- `trace_numbers::head_at` meets its contract: two stores of eight bytes fill the front. Assumes nothing.
use Rattle.trace_numbers.specs.NumbersLaws.{head_stored}
use Rattle.trace_numbers.proofs.head_at.Goals as goal

pub returns : goal.returns
returns c = head_stored c.args.first c.args.second c.write_be64.ensures c.write_be64-2.ensures
