-- `endian::read_le64` meets its contract: the definition, byte by byte. Assumes nothing.
use Rattle.std.proofs.Common.{add_assoc, arith}
use Rattle.endian.specs.Endian.{le}
use Rattle.endian.proofs.read_le64.Goals as goal

pub returns : goal.returns
unfolding le
returns c = (simp add_assoc (omega arith), omega arith)
