-- `sheet_bytes::put_window` meets its contract. Two stores that meet are one. Assumes nothing.
use Rattle.endian.specs.Endian.{le_bytes}
use Rattle.endian.specs.EndianLaws.{length_le_bytes}
use Rattle.endian.specs.SetsLaws.{sets_append}
use Rattle.sheet_bytes.proofs.put_window.Goals as goal

pub returns : goal.returns
returns c = sets_append c.args.out.now c.args.at 2 (le_bytes 2 c.args.w.base) (le_bytes 2 c.args.w.limit) (length_le_bytes 2 c.args.w.base)
    c.write_le16.ensures c.write_le16-2.ensures
