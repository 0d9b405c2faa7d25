-- `sheet_above::bridges_above` meets its contract. Invariant: the bridges met so far and those above the bus reached are all. Measure: the
-- bus. Assumes nothing.
use Rattle.sheet_above.specs.BridgesLaws.{CountedTo}
use Rattle.sheet_above.proofs.bridges_above.Given as goal

abbrev pub invariant-loop-k : goal.invariant-loop-k
invariant-loop-k l = CountedTo l.sheet l.root l.bus l.at l.count l.memory l.io

abbrev pub decreases-loop-k : goal.decreases-loop-k
decreases-loop-k l = l.at
