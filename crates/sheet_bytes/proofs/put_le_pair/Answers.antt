-- `sheet_bytes::put_le_pair` meets its contract. Two stores that meet are one. Assumes nothing.
use Rattle.endian.specs.Endian.{le_bytes}
use Rattle.endian.specs.EndianLaws.{length_le_bytes}
use Rattle.endian.specs.SetsLaws.{sets_append}
use Rattle.sheet_bytes.proofs.put_le_pair.Goals as goal

pub returns : goal.returns
returns c = sets_append c.args.out.now c.args.at 4 (le_bytes 4 c.args.a) (le_bytes 4 c.args.b) (length_le_bytes 4 c.args.a) c.write_le32.ensures
    c.write_le32-2.ensures
