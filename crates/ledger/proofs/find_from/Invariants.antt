-- `ledger::find_from` meets its contract. Invariant: the places passed, and the place of the key in the rest, make that of the start.
-- Assumes nothing.
use Prim.Native.Nat.{◌+◌}
use mathlib.Core.Path.{◌≡◌}
use lib.ListN.{drop}
use Rattle.ledger.specs.Words.{place_of}
use Rattle.ledger.proofs.find_from.Given as goal

abbrev pub invariant-loop-i : goal.invariant-loop-i
invariant-loop-i l = l.i + place_of l.key (drop l.i l.words) ≡ l.start + place_of l.key (drop l.start l.words)
