-- `index_table::segment_end` meets its contract. Invariant: from here on the same position is reached. Assumes nothing.
use Rattle.std.proofs.Common.{◌≡◌, ◌+◌, true, false, ltb, sym, refl, ap, ◌∙◌, arith, le-ltb, lt-ltb}
use Rattle.index_layout.specs.Keys.{segment_of}
use Rattle.index_table.specs.Table.{segment_at}
use Rattle.index_table.specs.TableLaws.{ahead_all, ahead_on, ahead_stop}
use Rattle.index_table.proofs.segment_end.Goals as goal

pub loop-p-init : goal.loop-p-init
loop-p-init c = refl

pub loop-p-preserved : goal.loop-p-preserved
loop-p-preserved c = let here = c.segment_of.ensures ∙ ap segment_of c.key_at.ensures in
    let stays : ltb (segment_at c.args.index.now c.args.n (c.loop-p.p + 1)) (c.args.w + 1) ≡ true = lt-ltb _ _ (omega (arith, here)) in
    ahead_on _ (λ i. segment_at c.args.index.now c.args.n i) _ _ c.loop-p-test.true (sym stays) refl ∙ c.loop-p.invariant

pub returns-then-w-segment_of : goal.returns-then-w-segment_of
returns-then-w-segment_of c = let here = c.segment_of.ensures ∙ ap segment_of c.key_at.ensures in
    let past : ltb (segment_at c.args.index.now c.args.n (c.loop-p.p + 1)) (c.args.w + 1) ≡ false = le-ltb _ _ (omega (arith, here)) in (
      sym (ahead_stop _ (λ i. segment_at c.args.index.now c.args.n i) _ _ c.loop-p-test.true (sym past) refl) ∙ c.loop-p.invariant,
      omega arith,
    )

pub returns : goal.returns
returns c = let all : c.loop-p.p ≡ c.args.count = omega arith in (
  sym all ∙ sym (ahead_all _ (λ i. segment_at c.args.index.now c.args.n i) _ _ c.loop-p-test.false) ∙ c.loop-p.invariant,
  omega arith,
)
