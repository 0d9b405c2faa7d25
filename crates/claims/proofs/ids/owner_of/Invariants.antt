-- `claims::ids::owner_of`: the loop. Invariant: the first of the records that are left is the first of all. Measure: records left.
-- Assumes nothing.
use mathlib.Core.Path.{◌≡◌}
use Prim.Native.Nat.{◌/◌, ◌%◌}
use Rattle.lists.specs.Lists.{keep}
use Rattle.walk.specs.Ids.{has_id, first_of}
use Rattle.sheet.specs.Spaces.{nodes_of}
use Rattle.claims.specs.IdsLaws.{owner_from}
use Rattle.claims.proofs.ids.owner_of.Given as goal

abbrev pub invariant-loop-k : goal.invariant-loop-k
invariant-loop-k l = owner_from l.id l.sheet l.k ≡ first_of (keep (has_id (l.id / 256) (l.id % 256)) (nodes_of l.sheet))
