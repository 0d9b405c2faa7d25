-- `capi_answers::space_for` meets its contract: by the test. Assumes nothing.
use borrow.Author.Tests.{eq-eqb, ne_eqb}
use native.Mathlib.Omega.{arith}
use Rattle.capi_answers.proofs.space_for.Goals as goal

pub returns-then-answers-eq0 : goal.returns-then-answers-eq0
returns-then-answers-eq0 c = record { upper_bound = omega arith; value = rw (eq-eqb c.args.answers 0 c.if-answers-eq0.true) }

pub returns-else-answers-eq0 : goal.returns-else-answers-eq0
returns-else-answers-eq0 c = record { upper_bound = omega arith; value = rw (ne_eqb c.args.answers 0 c.if-answers-eq0.false) }
