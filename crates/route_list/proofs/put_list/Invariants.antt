-- `route_list::put_list`: what is left to store from here gives the final content. Assumes nothing.
use Rattle.std.proofs.Common.{◌≡◌}
use Rattle.std.proofs.lemmas.List.Edits.{sets}
use Rattle.route_list.specs.Counted.{counted}
use Rattle.route_list.specs.CountedLaws.{rest}
use Rattle.route_list.proofs.put_list.Given as goal

abbrev pub invariant-loop-i : goal.invariant-loop-i
invariant-loop-i l = rest l.list l.at l.count l.i ≡ sets l.initial.list l.at (counted 1 l.count)
