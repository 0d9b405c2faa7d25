-- `board_feed::misfits` meets its contract. Assumes nothing.
use Rattle.board_feed.specs.Tally.{misfits_of}
use borrow.Author.Tests.{eq-eqb, ne_eqb}
use Rattle.board_feed.proofs.misfits.Goals as goal

pub returns-then-records-eq0 : goal.returns-then-records-eq0
unfolding misfits_of
returns-then-records-eq0 c = rw (eq-eqb _ _ c.if-records-eq0.true)

pub returns : goal.returns
unfolding misfits_of
returns c = rw (ne_eqb _ _ c.if-records-eq0.false)
