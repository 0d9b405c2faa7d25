-- `packet::judge` meets its contract: by what the table says of the kind and form. Assumes nothing.
use Rattle.packet.specs.Verdict.{verdict_of}
use Rattle.packet.proofs.judge.Goals as goal

pub returns-in-Carried : goal.returns-in-Carried
unfolding verdict_of
returns-in-Carried c = rw (← c.head_of-h.ensures, ← c.kind_of.ensures, ← c.row_of.ensures, c.in-Carried.is)
    c.judge_fields.ensures

pub returns-in-NotCarried : goal.returns-in-NotCarried
unfolding verdict_of
returns-in-NotCarried c = rw (← c.head_of-h.ensures, ← c.kind_of.ensures, ← c.row_of.ensures, c.in-NotCarried.is)

pub returns-in-Unknown : goal.returns-in-Unknown
unfolding verdict_of
returns-in-Unknown c = rw (← c.head_of-h.ensures, ← c.kind_of.ensures, ← c.row_of.ensures, c.in-Unknown.is)
