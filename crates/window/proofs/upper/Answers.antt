-- `upper` meets its contract: only the high pool's arm divides. Assumes nothing.
use Rattle.window.proofs.upper.Goals as goal

pub returns-in-High : goal.returns-in-High
returns-in-High c = rw c.in-High.is
