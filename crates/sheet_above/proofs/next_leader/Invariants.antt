-- `sheet_above::next_leader`: the loop. Invariant: what the records left say of the bus is what those from the first on say. Assumes nothing.
use mathlib.Core.Path.{◌≡◌}
use Rattle.sheet_above.specs.SearchLaws.{leader_left}
use Rattle.sheet_above.proofs.next_leader.Given as goal

abbrev pub invariant-loop-k : goal.invariant-loop-k
invariant-loop-k l = leader_left l.sheet l.bus l.k ≡ leader_left l.sheet l.bus l.from
