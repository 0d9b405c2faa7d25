-- `plan_items::inner_of` meets its contract. Assumes nothing.
use mathlib.Core.Path.{ap}
use Rattle.plan_sizing.specs.declared.Laid.{Laid}
use Rattle.plan_items.proofs.inner_of.Goals as goal

pub returns-in-Low : goal.returns-in-Low
returns-in-Low c = rw c.in-Low.is (ap (λ (l : Laid). l.low) c.stored_at-l.ensures)

pub returns-in-High : goal.returns-in-High
returns-in-High c = rw c.in-High.is (ap (λ (l : Laid). l.high) c.stored_at-l.ensures)

pub returns-in-Io : goal.returns-in-Io
returns-in-Io c = rw c.in-Io.is (ap (λ (l : Laid). l.io) c.stored_at-l.ensures)
