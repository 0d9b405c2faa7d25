-- `claims::ids::bridges_toward`: the loop. Invariant: the tally joined with the bridges that are left is the answer. Measure: records left.
-- Assumes nothing.
use mathlib.Core.Path.{◌≡◌}
use mathlib.Core.List.{map}
use Rattle.lists.specs.Lists.{keep}
use Rattle.walk.specs.Tally.{none, join}
use Rattle.walk.specs.Ids.{leads_toward, bridge_claim}
use Rattle.sheet.specs.Spaces.{nodes_of}
use Rattle.claims.specs.Claims.{tally_of}
use Rattle.claims.specs.IdsLaws.{toward_from}
use Rattle.claims.proofs.ids.bridges_toward.Given as goal

abbrev pub invariant-loop-k : goal.invariant-loop-k
invariant-loop-k l =
    join (tally_of l.tally) (toward_from l.target l.bus l.sheet l.k) ≡ join none (map bridge_claim (keep (leads_toward l.target l.bus) (nodes_of l.sheet)))
