-- `sheet_bytes::put_readbacks` meets its contract. Three pairs are six. Assumes nothing.
use Rattle.endian.specs.Endian.{be_bytes}
use Rattle.endian.specs.EndianLaws.{length_be_bytes}
use Rattle.sheet_bytes.proofs.LayoutLaws.{sets_six}
use Rattle.sheet_bytes.proofs.put_readbacks.Goals as goal

pub returns : goal.returns
returns c = sets_six (be_bytes 4) (length_be_bytes 4) c.args.out.now c.args.at c.args.readbacks c.put_be_pair.ensures c.put_be_pair-2.ensures
    c.put_be_pair-3.ensures
