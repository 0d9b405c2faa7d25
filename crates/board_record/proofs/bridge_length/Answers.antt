-- `board_record::bridge_length` meets its contract. Assumes nothing.
use borrow.Author.Tests.{eq-eqb, ne_eqb}
use Rattle.board_record.proofs.bridge_length.Goals as goal

pub returns-then-version-eq1 : goal.returns-then-version-eq1
returns-then-version-eq1 c = simp (eq-eqb _ _ c.if-version-eq1.true)

pub returns-else-version-eq1 : goal.returns-else-version-eq1
returns-else-version-eq1 c = simp (ne_eqb _ _ c.if-version-eq1.false)
