-- `index_table::last_in` meets its contract. Invariant: from here on the same position is found. Measure: keys left. Assumes nothing.
use Rattle.std.proofs.Common.{◌∙◌, arith}
use Rattle.index_table.specs.Search.{key_of}
use Rattle.index_table.specs.SearchLaws.{last_turn, last_end}
use Rattle.index_table.proofs.last_in.Goals as goal

pub loop-k-preserved : goal.loop-k-preserved
loop-k-preserved c = (
  omega arith,
  last_turn (λ i. key_of c.args.index.now c.args.n c.args.a i) _ _ _ c.loop-k-test.true c.step-lo.ensures.0
      ∙ c.loop-k.invariant.1,
)

pub returns : goal.returns
returns c = last_end (λ i. key_of c.args.index.now c.args.n c.args.a i) _ _ _ c.loop-k-test.false c.count.ensures
    ∙ c.loop-k.invariant.1
