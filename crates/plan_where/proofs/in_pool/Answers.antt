-- `plan_where::in_pool` meets its contract: what the walk over the items has seen. Assumes nothing.
use mathlib.Core.Path.{ap}
use Rattle.finding.specs.declared.Parties.{Parties}
use Rattle.plan_items.specs.declared.Seen.{Seen}
use Rattle.plan_where.specs.Finding.{in_pool}
use Rattle.plan_where.proofs.in_pool.Goals as goal

parties : Seen → Parties
parties s = record { party = s.out; other = s.most.party }

pub returns : goal.returns
unfolding in_pool parties
returns c = ap parties c.walk_items-seen.ensures
