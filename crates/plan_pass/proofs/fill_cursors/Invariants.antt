-- `plan_pass::fill_cursors` meets its contract. The invariant: the buses before this one have their cursors. Assumes nothing.
use mathlib.Core.Path.{◌≡◌}
use lib.ListN.{length}
use Rattle.plan_pass.specs.Loop.{Filled}
use Rattle.plan_pass.proofs.fill_cursors.Given as goal

abbrev pub invariant-loop-b : goal.invariant-loop-b
invariant-loop-b l = (length l.cursors ≡ length l.initial.cursors) × Filled l.base l.b l.cursors
