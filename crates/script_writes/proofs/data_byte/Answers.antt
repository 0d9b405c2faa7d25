-- `script_writes::data_byte` meets its contract. Assumes nothing.
use borrow.Author.Tests.{eq-eqb, ne_eqb}
use Rattle.script_writes.proofs.data_byte.Goals as goal

pub returns-then-enables-i-eq1 : goal.returns-then-enables-i-eq1
returns-then-enables-i-eq1 c = simp (eq-eqb _ _ c.if-enables-i-eq1.true)

pub returns : goal.returns
returns c = simp (ne_eqb _ _ c.if-enables-i-eq1.false)
