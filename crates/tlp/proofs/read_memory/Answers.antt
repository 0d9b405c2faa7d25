-- `tlp::read_memory` meets its contract. Assumes nothing.
use Rattle.tlp.proofs.read_memory.Goals as goal

pub judge-requires : goal.judge-requires
judge-requires c = c.memory_rules-n.ensures _

pub returns : goal.returns
returns c = rw (
  ← c.request_head_at-h.ensures,
  ← c.enables_at-e.ensures,
  ← c.address_at-a.ensures,
  ← c.is_write.ensures,
  ← c.unnamed-stray.ensures,
)
    c.judge.ensures
