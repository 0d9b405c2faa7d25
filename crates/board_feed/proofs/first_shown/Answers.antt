-- `board_feed::first_shown` meets its contract. Assumes nothing.
use borrow.Author.Tests.{eq-eqb, ne_eqb}
use Rattle.board_feed.proofs.first_shown.Goals as goal

pub returns-then-byte-eq2 : goal.returns-then-byte-eq2
returns-then-byte-eq2 c = simp (eq-eqb _ _ c.if-byte-eq2.true)

pub returns-else-byte-eq2 : goal.returns-else-byte-eq2
returns-else-byte-eq2 c = simp (ne_eqb _ _ c.if-byte-eq2.false)
