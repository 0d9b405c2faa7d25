-- The measure is the depth that remains and the records left, and one more for a bus: from a bus to its function neither rises, from a
-- bridge to its bus both fall. The invariant of the loop over a bus is `OnBus`: what is still to come, from what was laid out, comes to
-- what the bus comes to; its measure is the records left.
use Rattle.std.proofs.Common.{◌+◌, ◌-◌, length}
use Rattle.plan_sizing.specs.Board.{OnBus}
use Rattle.plan_sizing.proofs.+bus_size_function_size.Given as goal

abbrev pub decreases-bus_size : goal.decreases-bus_size
decreases-bus_size l = l.depth + (length l.parents.now - l.start.next) + 1

abbrev pub decreases-function_size : goal.decreases-function_size
decreases-function_size l = l.depth + (length l.parents.now - l.l.next)

abbrev pub invariant-bus_size-loop-memo : goal.invariant-bus_size-loop-memo
invariant-bus_size-loop-memo l = OnBus l.parents l.heads l.readbacks l.initial.memo l.memo l.bus l.depth l.initial.l l.l

abbrev pub decreases-bus_size-loop-memo : goal.decreases-bus_size-loop-memo
decreases-bus_size-loop-memo l = length l.parents - l.l.next
