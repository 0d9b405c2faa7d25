-- `tlp_fields::enables_at` meets its contract. Assumes nothing.
use Rattle.tlp_fields.specs.Fields.{enables_at}
use mathlib.Core.Path.{refl}
use Rattle.tlp_fields.proofs.enables_at.Goals as goal

pub returns : goal.returns
unfolding enables_at
returns c = refl
