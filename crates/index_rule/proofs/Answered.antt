-- What a search among owners may go by, whatever they answer for: addresses of a space, IDs, or both on one line of keys. Assumes nothing.
use Rattle.std.specs.Prelude.{◌≡◌, refl, ◌⊎◌, Bool, true, false, cond, List, ◌++◌, map, ℕ, ◌-◌, ◌≤◌, ◌<◌, ltb}
use Rattle.std.proofs.Common.{sym, ap, ◌∙◌, inl, inr, arith, ltb-false, lt-ltb, le-ltb}
use mathlib.Core.List.Memᴰ
use Rattle.lists.specs.Lists.{◌∈◌}
use Rattle.walk.specs.Walk.{Outcome, delivered, refused, no_owner}
use Rattle.index_rule.specs.Owners.{Owner, Over, moved}

pub record Answered (ys : List Owner) (outcome : ℕ → Outcome) : Type 0 where
  pub of_owner : (a : ℕ) (x : Owner) → x ∈ ys → Over x a → outcome a ≡ delivered x.number x.bridges
  pub of_none : (a : ℕ) → ((x : Owner) → x ∈ ys → Over x a → ⊥) → outcome a ≡ refused no_owner
  pub unique : (a : ℕ) (x y : Owner) → x ∈ ys → y ∈ ys → Over x a → Over y a → x ≡ y

-- the order of the owners does not matter
pub answered_same : {outcome : ℕ → Outcome} (ys zs : List Owner) → Answered ys outcome → ((x : Owner) → x ∈ zs → x ∈ ys)
    → ((x : Owner) → x ∈ ys → x ∈ zs) → Answered zs outcome
answered_same ys zs h into from =
    record {
      of_owner = λ a x m o. h.of_owner a x (into x m) o;
      of_none = λ a none. h.of_none a (λ x m o. none x (from x m) o);
      unique = λ a x y m n o p. h.unique a x y (into x m) (into y n) o p;
    }

-- ## Two lists on one line of keys: the second's after a bound that none of the first's passes

abbrev pub on_line : ℕ → (ℕ → Outcome) → (ℕ → Outcome) → ℕ → Outcome
on_line b first second a = cond (ltb a b) (first a) (second (a - b))

module _ (b : ℕ) {first second : ℕ → Outcome} (ys zs : List Owner) (A : Answered ys first) (B : Answered zs second)
    (inside : (x : Owner) → x ∈ ys → x.stop ≤ b) where
  data Side (x : Owner) : Type 0 where
    left : x ∈ ys → Side x
    right : (z : Owner) → z ∈ zs → moved b z ≡ x → Side x

  side : (x : Owner) → x ∈ ys ++ map (moved b) zs → Side x
  side x m = go (Memᴰ.append_cases ys m)
    where
      go : (x ∈ ys) ⊎ (x ∈ map (moved b) zs) → Side x
      go (inl n) = left n
      go (inr n) = let (z, in_zs, e) = Memᴰ.of_map (moved b) zs n in right z in_zs e

  over_below : (a : ℕ) (x : Owner) → x ∈ ys → Over x a → a < b
  over_below a x m o = omega (arith, inside x m, o.before_stop)

  over_moved : (a : ℕ) (x z : Owner) → moved b z ≡ x → Over x a → (b ≤ a) × Over z (a - b)
  over_moved a x z e o =
      let s = ap (λ (y : Owner). y.start) e in
      let t = ap (λ (y : Owner). y.stop) e in (
        omega (arith, s, o.from_start),
        record { from_start = omega (arith, s, o.from_start); before_stop = omega (arith, s, t, o.from_start, o.before_stop) },
      )

  pub answered_line : Answered (ys ++ map (moved b) zs) (on_line b first second)
  answered_line = record { of_owner = hit; of_none = none; unique = unique }
    where
      hit : (a : ℕ) (x : Owner) → x ∈ ys ++ map (moved b) zs → Over x a → on_line b first second a ≡ delivered x.number x.bridges
      hit a x m o = go (side x m)
        where
          go : Side x → on_line b first second a ≡ delivered x.number x.bridges
          go (left n) = rw (lt-ltb a b (over_below a x n o)) (A.of_owner a x n o)
          go (right z n e) =
              let (past, over) = over_moved a x z e o in
              rw (le-ltb a b past) (B.of_owner (a - b) z n over ∙ ap (λ (y : Owner). delivered y.number y.bridges) e)

      none : (a : ℕ) → ((x : Owner) → x ∈ ys ++ map (moved b) zs → Over x a → ⊥) → on_line b first second a ≡ refused no_owner
      none a nothing = go (ltb a b) refl
        where
          go : (t : Bool) → ltb a b ≡ t → cond t (first a) (second (a - b)) ≡ refused no_owner
          go true e = A.of_none a (λ x m o. nothing x (Memᴰ.append_left (map (moved b) zs) m) o)
          go false e =
              let past = ltb-false a b e in
              B.of_none (a - b)
              (λ z m o.
              nothing (moved b z) (Memᴰ.append_right ys (Memᴰ.map (moved b) m))
              (record { from_start = omega (arith, past, o.from_start); before_stop = omega (arith, past, o.before_stop) }))

      unique : (a : ℕ) (x y : Owner) → x ∈ ys ++ map (moved b) zs → y ∈ ys ++ map (moved b) zs → Over x a → Over y a → x ≡ y
      unique a x y mx my ox oy = go (side x mx) (side y my)
        where
          go : Side x → Side y → x ≡ y
          go (left n) (left m) = A.unique a x y n m ox oy
          go (left n) (right z m e) = absurd (omega (arith, over_below a x n ox, (over_moved a y z e oy).0))
          go (right z n e) (left m) = absurd (omega (arith, over_below a y m oy, (over_moved a x z e ox).0))
          go (right z n e) (right w m f) =
              sym e ∙ ap (moved b) (B.unique (a - b) z w n m (over_moved a x z e ox).1 (over_moved a y w f oy).1) ∙ f
