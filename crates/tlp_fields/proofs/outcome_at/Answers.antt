-- `tlp_fields::outcome_at` meets its contract. Assumes nothing.
use Rattle.tlp_fields.specs.Fields.{outcome_at}
use Rattle.tlp_fields.proofs.outcome_at.Goals as goal

pub returns : goal.returns
unfolding outcome_at
returns c = rw (c.id_at-completer.ensures, c.from.ensures, c.from-2.ensures)
