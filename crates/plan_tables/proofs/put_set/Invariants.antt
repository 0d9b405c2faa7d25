-- `plan_tables::put_set` meets its contract. The loop's invariant: storing what is left of the set stores all of it. Assumes nothing.
use mathlib.Core.Path.{◌≡◌}
use Prim.Native.Nat.{◌+◌}
use lib.ListN.{drop}
use lib.Seq.{sets}
use Rattle.board_record.specs.Function.{function_of_part}
use Rattle.plan_tables.proofs.put_set.Given as goal

abbrev pub invariant-loop-j : goal.invariant-loop-j
invariant-loop-j l =
    let set = (function_of_part l.part).readbacks in
    sets l.readbacks (l.at + l.j) (drop l.j set) ≡ sets l.initial.readbacks l.at set
