-- `ledger::settle` meets its contract. Each test rewrites the definition. Assumes nothing.
use mathlib.Core.Path.{sym, ◌∙◌}
use borrow.Author.Tests.{eq-eqb, ne_eqb}
use Rattle.ledger.specs.Ledger.{settled}
use Rattle.ledger.proofs.settle.Goals as goal

pub returns-then-disagree : goal.returns-then-disagree
unfolding settled
returns-then-disagree c = rw (sym c.disagree.ensures ∙ c.if-disagree.true)

pub returns-then-status-eq-SUCCESS : goal.returns-then-status-eq-SUCCESS
unfolding settled
returns-then-status-eq-SUCCESS c = rw (sym c.disagree.ensures ∙ c.if-disagree.false, eq-eqb _ _ c.if-status-eq-SUCCESS.true) c.deliver.ensures

pub returns : goal.returns
unfolding settled
returns c = rw (sym c.disagree.ensures ∙ c.if-disagree.false, ne_eqb _ _ c.if-status-eq-SUCCESS.false)
