-- `script_writes::is_used` meets its contract. Assumes nothing.
use Rattle.script_writes.proofs.is_used.Goals as goal

pub returns : goal.returns
returns c = rw c.read_be32.ensures.0
