-- A walk over the slots of a set, from the place where it stands: it gives each slot with its place, and goes on behind a lawful one. What
-- stands behind an unlawful slot is told from the next place on. Assumes nothing.
use Rattle.std.specs.Prelude.{◌≡◌, ℕ, ◌+◌, ◌<◌, ◌≤◌, min, List, take, drop, Option, MatchOption}
use Rattle.bar.specs.declared.Slot.{Slot}
use Rattle.bar.specs.declared.SlotWalk.{SlotWalk}
use Rattle.bar.specs.Bar.{slot_here, span}

-- at the set's start
abbrev pub walk_of : List ℕ → ℕ → SlotWalk
walk_of set n = record { set = set; n = n; next = 0 }

-- a call from s gave this place and slot and left t
pub record Gave (s t : SlotWalk) (place : ℕ) (slot : Slot) : Type 0 where
  pub inside : s.next < min s.n 6
  pub stands : place ≡ s.next
  pub is : slot ≡ slot_here (drop s.next (take s.n s.set))
  pub set : t.set ≡ s.set
  pub n : t.n ≡ s.n
  pub next : t.next ≡ s.next + span slot

abbrev pub StepsTo : SlotWalk → Option (ℕ × Slot) → SlotWalk → Type 0
StepsTo s r t = MatchOption r ((min s.n 6 ≤ s.next) × (t ≡ s)) (λ p. Gave s t p.0 p.1)
