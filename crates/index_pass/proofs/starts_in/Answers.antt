-- `index_pass::starts_in`: in the space, and from the first address on and before the end. Assumes nothing.
use Rattle.index_pass.proofs.starts_in.Goals as goal

pub returns : goal.returns
returns c = rw c.in_space.ensures
