-- `index_table::fill_table` meets its contract. Invariant: the entries that are left, stored from here, give the final bytes, and with the
-- steps so far the width; each slot's bucket is as at the start. Assumes nothing.
use Rattle.std.proofs.Common.{sym, refl, ◌∙◌, arith}
use Rattle.index_table.specs.Table.{bucket_at, tabled, width_of}
use Rattle.index_table.specs.TableLaws.{table_start, table_turn, table_end, buckets_kept, larger_max, widest_start, widest_turn, widest_end}
use Rattle.index_table.proofs.fill_table.Goals as goal

pub loop-q-init : goal.loop-q-init
unfolding tabled width_of
loop-q-init c = (omega arith, λ i. refl, table_start _ _ _ _, widest_start _ _ _)

pub write_le16-requires : goal.write_le16-requires
write_le16-requires c = omega (arith, c.bucket_place.ensures)

pub loop-q-preserved : goal.loop-q-preserved
loop-q-preserved c = let written = rw c.bucket_place.ensures at c.write_le16.ensures in (
  omega arith,
  buckets_kept _ _ _ _ _ c.loop-q-test.true written c.loop-q.invariant.1,
  table_turn _ _ _ _ (λ i. bucket_at c.args.index.now c.args.n i) (λ i. bucket_at c.loop-q.index c.args.n i) _
      c.loop-q-test.true c.loop-q.invariant.1 c.advance-t.ensures.0 written
      ∙ c.loop-q.invariant.2,
  widest_turn _ _ _ _ _ (λ i. bucket_at c.args.index.now c.args.n i) (λ i. bucket_at c.loop-q.index c.args.n i)
      c.loop-q-test.true c.loop-q.invariant.1 c.advance-t.ensures.0 (c.max-w.ensures ∙ larger_max _ _)
      ∙ c.loop-q.invariant.3,
)

pub returns : goal.returns
returns c = (
  sym (table_end _ _ _ _ (λ i. bucket_at c.args.index.now c.args.n i) _ c.loop-q-test.false) ∙ c.loop-q.invariant.2,
  sym (widest_end _ _ _ _ _ (λ i. bucket_at c.args.index.now c.args.n i) c.loop-q-test.false) ∙ c.loop-q.invariant.3,
)
