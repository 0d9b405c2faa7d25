-- One turn of a loop over a walk, in the words of the set that it walks over. Assumes nothing.
use Rattle.std.specs.Prelude.{◌≡◌, ℕ, ◌+◌, ◌<◌, ◌≤◌, min, Bool, true, false, cond, List, take, drop}
use Rattle.std.proofs.Common.{◌∙◌, sym, ap, arith}
use Rattle.bar.specs.declared.Slot.{Slot}
use Rattle.bar.specs.declared.SlotWalk.{SlotWalk}
use Rattle.bar.specs.Bar.{slot_here, takes_next, span}
use Rattle.bar.specs.Walk.{walk_of, Gave}

-- a walk over the first n of this set
pub record Over (set : List ℕ) (n : ℕ) (s : SlotWalk) : Type 0 where
  pub same_set : s.set ≡ set
  pub same_n : s.n ≡ n

-- where a loop over it begins
pub record Begun (set : List ℕ) (n : ℕ) (s : SlotWalk) : Type 0 where
  pub over : Over set n s
  pub next : s.next ≡ 0

pub begun : {set : List ℕ} {n : ℕ} {s t : SlotWalk} → t ≡ walk_of set n → s ≡ t → Begun set n s
begun e f = record {
  over = record { same_set = ap (λ (x : SlotWalk). x.set) (f ∙ e); same_n = ap (λ (x : SlotWalk). x.n) (f ∙ e) };
  next = ap (λ (x : SlotWalk). x.next) (f ∙ e);
}

-- it stood at this place, where this slot is, and goes on behind it
pub record Turn (set : List ℕ) (n : ℕ) (s t : SlotWalk) (place : ℕ) (slot : Slot) : Type 0 where
  pub inside : place < min n 6
  pub stood : s.next ≡ place
  pub is : slot ≡ slot_here (drop place (take n set))
  pub next : t.next ≡ place + span slot
  pub further : place < t.next
  pub over : Over set n t

some : (b : Bool) → 0 < cond b 2 1
some true = omega arith
some false = omega arith

pub turn : {set : List ℕ} {n : ℕ} {s t : SlotWalk} {place : ℕ} {slot : Slot} → Over set n s → Gave s t place slot → Turn set n s t place slot
turn {set} {n} {s} {t} {place} {slot} o g = record {
  inside = omega (arith, o.same_n, g.inside, g.stands);
  stood = sym g.stands;
  is = rw (← o.same_set, ← o.same_n, g.stands) g.is;
  next = rw g.stands g.next;
  further = omega (arith, g.stands, g.next, some (takes_next slot));
  over = record { same_set = g.set ∙ o.same_set; same_n = g.n ∙ o.same_n };
}

pub walked : {set : List ℕ} {n : ℕ} {s t : SlotWalk} → Over set n s → (min s.n 6 ≤ s.next) × (t ≡ s) → min n 6 ≤ s.next
walked o e = omega (arith, o.same_n, e.0)
