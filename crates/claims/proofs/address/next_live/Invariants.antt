-- `claims::address::next_live`: the loop. Invariant: the claims left are those from the first record on. Measure: records left. Assumes
-- nothing.
use mathlib.Core.Path.{◌≡◌}
use Prim.Native.Nat.{ℕ}
use Rattle.claims.specs.TurnLaws.{claims_from}
use Rattle.claims.proofs.address.next_live.Given as goal

abbrev pub invariant-loop-k : goal.invariant-loop-k
invariant-loop-k l =
    (address : ℕ) → claims_from l.space l.sheet address l.bus l.k ≡ claims_from l.space l.sheet address l.bus l.from
