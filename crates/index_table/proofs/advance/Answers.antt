-- `index_table::advance` meets its contract. Invariant: from here on the same position is reached. Assumes nothing.
use Rattle.std.proofs.Common.{◌≡◌, sym, refl, ◌∙◌, arith}
use Rattle.index_table.specs.Table.{bucket_at}
use Rattle.index_table.specs.TableLaws.{ahead_all, ahead_on, ahead_stop}
use Rattle.index_table.proofs.advance.Goals as goal

pub loop-p-init : goal.loop-p-init
loop-p-init c = refl

pub loop-p-preserved : goal.loop-p-preserved
loop-p-preserved c =
    ahead_on _ (λ i. bucket_at c.args.index.now c.args.n i) _ _ c.loop-p-test.true c.is_before.ensures c.if-not-is_before.false
    ∙ c.loop-p.invariant

pub returns-then-not-is_before : goal.returns-then-not-is_before
returns-then-not-is_before c = (
  sym (ahead_stop _ (λ i. bucket_at c.args.index.now c.args.n i) _ _ c.loop-p-test.true c.is_before.ensures
      c.if-not-is_before.true)
      ∙ c.loop-p.invariant,
  omega arith,
  omega arith,
)

pub returns : goal.returns
returns c = let all : c.loop-p.p ≡ c.args.count = omega arith in (
  sym all ∙ sym (ahead_all _ (λ i. bucket_at c.args.index.now c.args.n i) _ _ c.loop-p-test.false) ∙ c.loop-p.invariant,
  omega arith,
  omega arith,
)
