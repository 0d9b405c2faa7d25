-- `sheet_bytes::put_values` meets its contract. Three pairs are six. Assumes nothing.
use Rattle.endian.specs.Endian.{le_bytes}
use Rattle.endian.specs.EndianLaws.{length_le_bytes}
use Rattle.sheet_bytes.proofs.LayoutLaws.{sets_six}
use Rattle.sheet_bytes.proofs.put_values.Goals as goal

pub returns : goal.returns
returns c = sets_six (le_bytes 4) (length_le_bytes 4) c.args.out.now c.args.at c.args.values c.put_le_pair.ensures c.put_le_pair-2.ensures
    c.put_le_pair-3.ensures
