-- `tlp_fields::unnamed_lower` meets its contract. Assumes nothing.
use Rattle.tlp_fields.specs.Fields.{unnamed_lower}
use mathlib.Core.Path.{refl}
use Rattle.tlp_fields.proofs.unnamed_lower.Goals as goal

pub returns : goal.returns
unfolding unnamed_lower
returns c = refl
