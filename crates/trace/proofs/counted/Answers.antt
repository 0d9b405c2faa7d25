-- `trace::counted` meets its contract. Assumes nothing.
use Rattle.trace.proofs.counted.Goals as goal

pub returns-in-Refusal : goal.returns-in-Refusal
returns-in-Refusal c = rw c.in-Refusal.is

pub returns-in-Line : goal.returns-in-Line
returns-in-Line c = rw c.in-Line.is
