-- `bar::is_wide`: the 64-bit kind of a read-back. Assumes nothing.
use Rattle.bar.proofs.is_wide.Goals as goal

pub returns : goal.returns
returns c = rw c.is_io.ensures
