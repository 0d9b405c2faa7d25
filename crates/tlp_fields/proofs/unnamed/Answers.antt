-- `tlp_fields::unnamed` meets its contract. Assumes nothing.
use Rattle.tlp_fields.specs.Fields.{unnamed as unnamed_at}
use Rattle.std.proofs.Common.{get_or, div-one}
use Rattle.tlp_fields.proofs.unnamed.Goals as goal

pub returns : goal.returns
unfolding unnamed_at
returns c = rw (div-one (get_or c.args.s.now 1 0))
