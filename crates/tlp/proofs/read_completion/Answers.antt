-- `tlp::read_completion` meets its contract. Assumes nothing.
use Rattle.tlp.proofs.read_completion.Goals as goal

pub returns : goal.returns
returns c = rw (← c.completion_head_at-h.ensures, ← c.outcome_at-o.ensures, ← c.unnamed.ensures, ← c.unnamed_lower.ensures)
    c.judge.ensures
