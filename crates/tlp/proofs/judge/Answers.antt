-- `tlp::judge` meets its contract: 4 for a stray bit, then the rules. Assumes nothing.
use Rattle.tlp.specs.Reading.{judged}
use borrow.Author.Tests.{eq-eqb, ne_eqb}
use Rattle.tlp.proofs.judge.Goals as goal

pub returns-then-stray : goal.returns-then-stray
unfolding judged
returns-then-stray c = rw c.if-stray.true

pub returns-then-n-eq0 : goal.returns-then-n-eq0
unfolding judged
returns-then-n-eq0 c = rw (c.if-stray.false, ← c.requires, eq-eqb c.args.n 0 c.if-n-eq0.true)

pub returns : goal.returns
unfolding judged
returns c = rw (c.if-stray.false, ← c.requires, ne_eqb c.args.n 0 c.if-n-eq0.false)
