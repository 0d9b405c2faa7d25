-- `index_build::put_all`: the bridge above each bus in a table, then each owner put in. Assumes nothing.
use Rattle.index_build.proofs.put_all.Goals as goal

pub put_owners-requires : goal.put_owners-requires
put_owners-requires c = (c.requires.0.tree _ c.leaders.ensures, c.requires.1, c.requires.2)
