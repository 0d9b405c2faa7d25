-- `trace::next_in` meets its contract: a record starts only between records. Assumes nothing.
use Rattle.trace.proofs.next_in.Goals as goal

pub returns-in-Between : goal.returns-in-Between
returns-in-Between c = rw c.in-Between.is c.next_at.ensures
