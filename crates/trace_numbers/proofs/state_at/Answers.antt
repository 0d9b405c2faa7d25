-- `trace_numbers::state_at` meets its contract. Assumes nothing.
use Rattle.trace_numbers.specs.NumbersLaws.{stage_of_state}
use Rattle.trace_numbers.specs.Parsing.{state_at}
use Rattle.trace_numbers.proofs.state_at.Goals as goal

pub stage_at-requires : goal.stage_at-requires
stage_at-requires c = stage_of_state c.args.numbers.now c.requires.1

pub returns : goal.returns
unfolding state_at
returns c = rw (c.stage_at.ensures, c.head_at.ensures)
