-- `trace_numbers::is_state` meets its contract. Assumes nothing.
use Rattle.trace_numbers.specs.Parsing.{is_state}
use Rattle.trace_numbers.proofs.is_state.Goals as goal

pub returns : goal.returns
unfolding is_state
returns c = rw c.is_stage.ensures
