-- `endian::read_be64` meets its contract: the definition, byte by byte. Assumes nothing.
use Rattle.std.proofs.Common.{add_assoc, arith}
use Rattle.endian.specs.Endian.{be}
use Rattle.endian.proofs.read_be64.Goals as goal

pub returns : goal.returns
unfolding be
returns c = (simp add_assoc (omega arith), omega arith)
