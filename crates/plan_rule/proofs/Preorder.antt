-- Depth-first order in the document's words: a parent is the host, the record before if it is a bridge, or a bridge above the record
-- before. A board's check that climbs from the record before is `AtOrAbove`, and is the same as the order that numbering and placing go by.
-- Assumes nothing.
use Rattle.std.specs.Prelude.{◌≡◌, ◌⊎◌, ◌↔◌, Bool, true, ℕ, zero, suc, ◌≤◌, ◌<◌, get_or, drop}
use Rattle.std.proofs.Math.Path.{refl, subst}
use Rattle.std.proofs.Common.{sym, ap, inl, inr, arith, length-drop}
use Rattle.std.proofs.Math.Logic.{⊎_elim}
use mathlib.Core.List.{List, [], ◌∷◌, cons≢nil, head-eq_of_cons-eq}
use Rattle.std.proofs.Math.ListN.{length}
use borrow.Author.Tests.{eqb-true, eq-eqb}
use Rattle.arith.specs.Order.{eq_or_ne}
use Rattle.lists.specs.ListLaws.{drop_suc}
use Rattle.plan_rule.specs.Records.{Function, DepthFirst, parents_after, only_host}
use Rattle.plan_rule.proofs.RecordLaws.{parent_cases, parent_new, parent_kept}
use Rattle.plan_rule.specs.Preorder.{no_function, parent_of}

-- The host or a bridge
abbrev pub IsBus : List Function → ℕ → Type 0
IsBus fs zero = Unit {0}
IsBus fs (suc i) = (get_or fs i no_function).bridge ≡ true

-- j is record k, or above it
pub data AtOrAbove (fs : List Function) (j : ℕ) : ℕ → Type 0 where
  at : {k : ℕ} → j ≡ k → AtOrAbove fs j k
  above : {k : ℕ} → AtOrAbove fs j (parent_of fs k) → AtOrAbove fs j k

-- The parent of record i + 1 is record i, the host or a bridge, or is above record i
pub record ParentLawful (fs : List Function) (i : ℕ) : Type 0 where
  pub before : AtOrAbove fs (parent_of fs (suc i)) i
  pub bridge : parent_of fs (suc i) ≡ i → IsBus fs i

pub at_or_above_trans : {fs : List Function} {j k m : ℕ} → AtOrAbove fs j k → AtOrAbove fs k m → AtOrAbove fs j m
at_or_above_trans {fs} {j} {k} {m} p (at e) = subst (AtOrAbove fs j) e p
at_or_above_trans p (above q) = above (at_or_above_trans p q)

-- An element and what follows it, by index
at_drop : (i : ℕ) (l : List Function) (f : Function) (fs : List Function) → drop i l ≡ f ∷ fs → (i < length l) × (get_or l i no_function ≡ f)
at_drop zero [] f fs e = absurd (cons≢nil (sym e))
at_drop zero (g ∷ l) f fs e = (omega arith, head-eq_of_cons-eq e)
at_drop (suc i) [] f fs e = absurd (cons≢nil (sym e))
at_drop (suc i) (g ∷ l) f fs e = let h = at_drop i l f fs e in (omega (arith, h.0), h.1)

none_at_drop : (i : ℕ) (l : List Function) → drop i l ≡ [] → length l ≤ i
none_at_drop i l e = omega (arith, length-drop i l, ap length e)

module _ (fs : List Function) where
  -- Up to record k parents come earlier
  abbrev Falls : ℕ → Type 0
  Falls k = (m : ℕ) → m < k → parent_of fs (suc m) ≤ m

  parent_le : (k : ℕ) → Falls k → parent_of fs k ≤ k
  parent_le zero h = omega arith
  parent_le (suc m) h = omega (arith, h m (omega arith))

  falls_le : (k n : ℕ) → n ≤ k → Falls k → Falls n
  falls_le k n l h m g = h m (omega arith)

  at_or_above_le : {j k : ℕ} → Falls k → AtOrAbove fs j k → j ≤ k
  at_or_above_le h (at e) = omega arith
  at_or_above_le h (above {k} q) =
      let l = parent_le k h in
      omega (arith, at_or_above_le (falls_le k (parent_of fs k) l h) q)

  -- Of two records at or above a third, the earlier is at or above the later
  at_or_above_linear : {j p k : ℕ} → Falls k → AtOrAbove fs p k → AtOrAbove fs j k → j ≤ p → AtOrAbove fs j p
  at_or_above_linear {j} h (at e) r l = subst (AtOrAbove fs j) (sym e) r
  at_or_above_linear {j} {p} h (above {k} q) r l =
      let up = parent_le k h in
      let below = falls_le k (parent_of fs k) up h in
      ⊎_elim
      (λ (e : j ≡ k). at (omega (arith, at_or_above_le below q)))
      (λ s. at_or_above_linear below q s l)
      (cases r)
    where
      cases : {k j : ℕ} → AtOrAbove fs j k → (j ≡ k) ⊎ AtOrAbove fs j (parent_of fs k)
      cases (at e) = inl e
      cases (above s) = inr s

  -- The record before, with what it may be a parent of: by climbing, and by the set
  Climbs : (ℕ → Bool) → ℕ → Type 0
  Climbs ok i = (j : ℕ) → AtOrAbove fs j i → (j ≡ i → IsBus fs i) → ok j ≡ true

  Climbed : (ℕ → Bool) → ℕ → Type 0
  Climbed ok i = (j : ℕ) → ok j ≡ true → AtOrAbove fs j i × (j ≡ i → IsBus fs i)

  falls_suc : (i : ℕ) → Falls i → AtOrAbove fs (parent_of fs (suc i)) i → Falls (suc i)
  falls_suc i h a m l =
      ⊎_elim
      (λ (e : m ≡ i). subst (λ (n : ℕ). parent_of fs (suc n) ≤ n) (sym e) (at_or_above_le h a))
      (λ n. h m (omega arith))
      (eq_or_ne m i)

  from_climbs : (ok : ℕ → Bool) (i : ℕ) (gs : List Function) → drop i fs ≡ gs → Falls i → Climbs ok i
      → ((m : ℕ) → i ≤ m → m < length fs → ParentLawful fs m) → DepthFirst ok (suc i) gs
  unfolding Climbs
  from_climbs ok i [] e h c all = tt
  from_climbs ok i (f ∷ gs) e h c all = (
    subst (λ (p : ℕ). ok p ≡ true) up (c (parent_of fs (suc i)) this.before this.bridge),
    from_climbs (parents_after ok (suc i) f) (suc i) gs (drop_suc i fs f gs e) (falls_suc i h this.before) next
        (λ m l. all m (omega arith)),
  )
    where
      here : (i < length fs) × (get_or fs i no_function ≡ f)
      here = at_drop i fs f gs e

      this : ParentLawful fs i
      this = all i (omega arith) here.0

      up : parent_of fs (suc i) ≡ f.parent
      up = ap (λ (g : Function). g.parent) here.1

      next : Climbs (parents_after ok (suc i) f) (suc i)
      next j (at q) b = parent_new ok (suc i) f j q (subst (λ (g : Function). g.bridge ≡ true) here.1 (b q))
      next j (above q) b =
          let le : j ≤ parent_of fs (suc i) = at_or_above_le (falls_le i (parent_of fs (suc i)) (at_or_above_le h this.before) h) q in
          let pi : parent_of fs (suc i) ≤ i = at_or_above_le h this.before in
          parent_kept ok (suc i) f j (c j (at_or_above_trans q this.before) (λ (z : j ≡ i). this.bridge (omega arith)))
          (omega (arith, up))

  to_climbs : (ok : ℕ → Bool) (i : ℕ) (gs : List Function) → drop i fs ≡ gs → DepthFirst ok (suc i) gs → Falls i → Climbed ok i
      → (m : ℕ) → i ≤ m → m < length fs → ParentLawful fs m
  unfolding Climbed
  to_climbs ok i [] e d h c m l n = absurd (omega (arith, none_at_drop i fs e))
  to_climbs ok i (f ∷ gs) e d h c m l n =
      ⊎_elim
      (λ (z : m ≡ i). subst (ParentLawful fs) (sym z) this)
      (λ z. to_climbs (parents_after ok (suc i) f) (suc i) gs (drop_suc i fs f gs e) d.1 (falls_suc i h this.before) next m
      (omega arith) n)
      (eq_or_ne m i)
    where
      here : (i < length fs) × (get_or fs i no_function ≡ f)
      here = at_drop i fs f gs e

      up : parent_of fs (suc i) ≡ f.parent
      up = ap (λ (g : Function). g.parent) here.1

      was : AtOrAbove fs (parent_of fs (suc i)) i × (parent_of fs (suc i) ≡ i → IsBus fs i)
      was = c (parent_of fs (suc i)) (subst (λ (p : ℕ). ok p ≡ true) (sym up) d.0)

      this : ParentLawful fs i
      this = record { before = was.0; bridge = was.1 }

      next : Climbed (parents_after ok (suc i) f) (suc i)
      next j g =
          ⊎_elim
          (λ t. (at t.0, λ _. subst (λ (x : Function). x.bridge ≡ true) (sym here.1) t.1))
          (λ t.
          let le : j ≤ parent_of fs (suc i) = omega (arith, t.1, up) in
          let pi : parent_of fs (suc i) ≤ i = at_or_above_le h this.before in
          (above (at_or_above_linear h this.before (c j t.0).0 le), λ z. absurd (omega arith)))
          (parent_cases ok (suc i) f j g)

  -- The order by the set is the order by climbing, for every record
  pub depth_first_iff : DepthFirst only_host 1 fs ↔ ((i : ℕ) → i < length fs → ParentLawful fs i)
  unfolding Climbs Climbed
  depth_first_iff = (
    λ d m. to_climbs only_host 0 fs refl d (λ n l. absurd (omega arith)) (λ j e. (at (eqb-true j 0 e), λ _. tt)) m (omega arith),
    λ h. from_climbs only_host 0 fs refl (λ n l. absurd (omega arith))
        (λ j a b. eq-eqb j 0 (omega (arith, at_or_above_le (λ n l. absurd (omega arith)) a))) (λ m l. h m),
  )
