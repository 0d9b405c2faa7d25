-- `endian::read_be16` meets its contract: the definition, byte by byte. Assumes nothing.
use Rattle.std.proofs.Common.{arith}
use Rattle.endian.specs.Endian.{be}
use Rattle.endian.proofs.read_be16.Goals as goal

pub returns : goal.returns
unfolding be
returns c = (omega arith, omega arith)
