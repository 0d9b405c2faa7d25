-- `ledger::count` meets its contract. Invariant: the count, and what is in use of the rest, make what is in use. Assumes nothing.
use Prim.Native.Nat.{◌+◌, ◌≤◌}
use mathlib.Core.Path.{◌≡◌}
use lib.ListN.{drop}
use Rattle.ledger.specs.Words.{in_use}
use Rattle.ledger.proofs.count.Given as goal

abbrev pub invariant-loop-word : goal.invariant-loop-word
invariant-loop-word l = (l.n ≤ l.word-index) × (l.n + in_use (drop l.word-index l.words) ≡ in_use l.words)
