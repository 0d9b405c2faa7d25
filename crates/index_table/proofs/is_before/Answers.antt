-- `index_table::is_before` meets its contract. Assumes nothing.
use Rattle.std.proofs.Common.{refl, arith}
use Rattle.index_layout.specs.KeysLaws.{segment_lt}
use Rattle.index_table.proofs.is_before.Goals as goal

pub bucket_of-requires : goal.bucket_of-requires
bucket_of-requires c = (omega arith, rw c.segment_of.ensures (segment_lt c.key_at-key.result))

pub returns : goal.returns
returns c = rw (c.bucket_of.ensures.0, c.segment_of.ensures, c.key_at-key.ensures) refl
