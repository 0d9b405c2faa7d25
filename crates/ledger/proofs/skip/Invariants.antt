-- `ledger::skip` meets its contract. Invariant: the places passed, and the place of the key in the rest, make the place of the key.
-- Measure: places left. Assumes nothing.
use Prim.Native.Nat.{◌+◌, ◌-◌, ◌≤◌}
use mathlib.Core.Path.{◌≡◌}
use lib.ListN.{length, drop}
use Rattle.ledger.specs.Words.{place_of}
use Rattle.ledger.proofs.skip.Given as goal

abbrev pub invariant-loop-i : goal.invariant-loop-i
invariant-loop-i l = (l.i ≤ length l.words) × (l.i + place_of l.key (drop l.i l.words) ≡ place_of l.key l.words)

abbrev pub decreases-loop-i : goal.decreases-loop-i
decreases-loop-i l = length l.words - l.i
