-- `bar_start` meets its contract: a BAR's alignment is its size, a power of two. Assumes nothing.
use Prim.Native.Nat.{ℕ}
use mathlib.Core.Path.{ap, ◌∙◌}
use Rattle.arith.specs.Align.{align_up}
use Rattle.plan_rule.specs.Cap.{cap}
use Rattle.plan_function.proofs.bar_start.Goals as goal

pub returns-in-Bar : goal.returns-in-Bar
returns-in-Bar c = rw c.in-Bar.is (
  c.start_at.ensures.0 ∙ ap (λ (n : ℕ). cap (align_up c.in-Bar.size n)) c.cursor.ensures,
  c.start_at.ensures.1,
)
