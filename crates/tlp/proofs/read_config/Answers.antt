-- `tlp::read_config` meets its contract. Assumes nothing.
use Rattle.tlp.proofs.read_config.Goals as goal

pub judge-requires : goal.judge-requires
judge-requires c = c.config_rules-n.ensures _ _

pub returns : goal.returns
returns c = rw (← c.request_head_at-h.ensures, ← c.enables_at-e.ensures, ← c.target_at-t.ensures, ← c.unnamed.ensures)
    (rw (← c.unnamed_target.ensures) c.judge.ensures)
