-- `endian::read_le16` meets its contract: the definition, byte by byte. Assumes nothing.
use Rattle.std.proofs.Common.{arith}
use Rattle.endian.specs.Endian.{le}
use Rattle.endian.proofs.read_le16.Goals as goal

pub returns : goal.returns
unfolding le
returns c = (omega arith, omega arith)
