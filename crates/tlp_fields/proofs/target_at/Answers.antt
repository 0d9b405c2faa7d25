-- `tlp_fields::target_at` meets its contract. Assumes nothing.
use Rattle.tlp_fields.specs.Fields.{target_at}
use Rattle.tlp_fields.proofs.target_at.Goals as goal

pub returns : goal.returns
unfolding target_at
returns c = rw (c.id_at-id.ensures, c.from.ensures, c.from-2.ensures)
