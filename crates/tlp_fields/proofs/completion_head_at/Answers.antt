-- `tlp_fields::completion_head_at` meets its contract. Assumes nothing.
use Rattle.tlp_fields.proofs.completion_head_at.Goals as goal

pub returns : goal.returns
returns c = rw (← c.code_at.ensures.0, ← c.completion_length-dwords.ensures, ← c.id_at-requester.ensures, ← c.from-low.ensures)
    c.head_at.ensures
