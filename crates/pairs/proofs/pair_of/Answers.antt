-- `pairs::pair_of` meets its contract: Fmt 100 first, then the table. Assumes nothing.
use borrow.Author.Tests.{eq-eqb, ne_eqb}
use Rattle.pairs.specs.Pairs.{pair_of}
use Rattle.pairs.proofs.pair_of.Goals as goal

pub returns-then-byte-eq-PREFIX_FMT : goal.returns-then-byte-eq-PREFIX_FMT
unfolding pair_of
returns-then-byte-eq-PREFIX_FMT c = simp (eq-eqb _ _ c.if-byte-eq-PREFIX_FMT.true)

pub returns : goal.returns
unfolding pair_of
returns c = simp (c.answer.ensures, c.find_pair.ensures, ne_eqb _ _ c.if-byte-eq-PREFIX_FMT.false)
