-- `tlp::read_message` meets its contract. Assumes nothing.
use Rattle.tlp.proofs.read_message.Goals as goal

pub judge-requires : goal.judge-requires
judge-requires c = c.message_rules-n.ensures _

pub returns : goal.returns
returns c = rw (← c.message_head_at-h.ensures, ← c.message_code_at-code.ensures, ← c.address_at-tail.ensures, ← c.unnamed-stray.ensures)
    c.judge.ensures
