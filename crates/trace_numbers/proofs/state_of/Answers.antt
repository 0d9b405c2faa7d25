-- `trace_numbers::state_of` meets its contract: the checks in order. Assumes nothing.
use mathlib.Core.Path.{refl, sym, ◌∙◌}
use Rattle.trace_numbers.specs.NumbersLaws.{too_few, no_state, some_state}
use Rattle.trace_numbers.proofs.state_of.Goals as goal

pub returns-then-numbers-lt-SIZE : goal.returns-then-numbers-lt-SIZE
returns-then-numbers-lt-SIZE c = rw (← too_few c.args.numbers.now c.if-numbers-lt-SIZE.true) refl

pub returns-then-not-is_state : goal.returns-then-not-is_state
returns-then-not-is_state c = let none = sym c.is_state.ensures ∙ c.if-not-is_state.true in
    rw (← no_state c.args.numbers.now c.if-numbers-lt-SIZE.false none) refl

pub state_at-requires : goal.state_at-requires
state_at-requires c = (c.if-numbers-lt-SIZE.false, sym c.is_state.ensures ∙ c.if-not-is_state.false)

pub returns : goal.returns
returns c = let some = sym c.is_state.ensures ∙ c.if-not-is_state.false in
    rw (← some_state c.args.numbers.now c.if-numbers-lt-SIZE.false some, c.state_at.ensures)
