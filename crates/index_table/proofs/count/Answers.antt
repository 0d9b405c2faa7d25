-- `index_table::count` meets its contract. Invariant: what is counted so far, and the count of the keys left, is the whole count.
-- Assumes nothing.
use Rattle.std.proofs.Common.{ℕ, ◌+◌, sym, ap, ◌∙◌, arith}
use Rattle.index_table.specs.Search.{key_of}
use Rattle.index_table.specs.SearchLaws.{count_start, count_turn, count_end}
use Rattle.index_table.proofs.count.Goals as goal

pub loop-i-init : goal.loop-i-init
loop-i-init c = (omega arith, count_start _ (λ i. key_of c.args.index.now c.args.n c.args.a i) _ _)

pub loop-i-preserved : goal.loop-i-preserved
loop-i-preserved c = (
  omega arith,
  count_turn _ (λ i. key_of c.args.index.now c.args.n c.args.a i) _ _ _ _ c.loop-i-test.true
      (rw c.key_at-k.ensures at c.reached-c.ensures.0)
      ∙ c.loop-i.invariant.1,
)

pub returns : goal.returns
returns c = ap (λ (z : ℕ). c.args.from + z)
    (sym (count_end _ (λ i. key_of c.args.index.now c.args.n c.args.a i) _ _ _ _ c.loop-i-test.false) ∙ c.loop-i.invariant.1)
