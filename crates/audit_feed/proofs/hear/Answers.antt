-- `audit_feed::hear` meets its contract: only a record that begins is looked at. Assumes nothing.
use Rattle.audit_feed.proofs.hear.Goals as goal

pub returns-in-Begins : goal.returns-in-Begins
returns-in-Begins c = rw c.in-Begins.is
