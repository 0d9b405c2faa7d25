-- `pairs::rows` meets its contract: antt computes the constant table and the list of `specs/` side by side. Assumes nothing.
use borrow.Author.Rules.{rules}
use Rattle.pairs.specs.Pairs.{table}
use Rattle.pairs.proofs.rows.Goals as goal

pub returns : goal.returns
unfolding table
returns c = search rules
