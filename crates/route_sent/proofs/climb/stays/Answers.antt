-- `route_sent::climb::stays`: the bridge's buses by their registers. Assumes nothing.
use mathlib.Core.Path.{refl}
use Rattle.route_sent.proofs.AboveLaws.{holds_bus}
use Rattle.route_sent.proofs.climb.stays.Goals as goal

pub returns-in-ById : goal.returns-in-ById
returns-in-ById c = rw (c.in-ById.is, c.secondary_of.ensures, c.subordinate_of.ensures) (holds_bus _ c.requires.1 _ _ refl)
