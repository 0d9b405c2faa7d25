-- `tlp_fields::unnamed_target` meets its contract. Assumes nothing.
use Rattle.tlp_fields.specs.Fields.{unnamed_target}
use mathlib.Core.Path.{refl}
use Rattle.tlp_fields.proofs.unnamed_target.Goals as goal

pub returns : goal.returns
unfolding unnamed_target
returns c = refl
