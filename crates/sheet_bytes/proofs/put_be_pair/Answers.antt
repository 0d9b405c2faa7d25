-- `sheet_bytes::put_be_pair` meets its contract. Two stores that meet are one. Assumes nothing.
use Rattle.endian.specs.Endian.{be_bytes}
use Rattle.endian.specs.EndianLaws.{length_be_bytes}
use Rattle.endian.specs.SetsLaws.{sets_append}
use Rattle.sheet_bytes.proofs.put_be_pair.Goals as goal

pub returns : goal.returns
returns c = sets_append c.args.out.now c.args.at 4 (be_bytes 4 c.args.a) (be_bytes 4 c.args.b) (length_be_bytes 4 c.args.a) c.write_be32.ensures
    c.write_be32-2.ensures
