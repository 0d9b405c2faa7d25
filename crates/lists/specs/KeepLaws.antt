-- The laws of `keep`, `front` and `any`. Assumes nothing.
use Rattle.std.specs.Prelude.{◌≡◌, ◌⊎◌, Bool, ◌&&◌, ◌||◌}
use Rattle.std.proofs.Math.Path.{refl, ap, ap₂}
use Rattle.std.proofs.Common.{sym, ◌∙◌, true≢false}
use Rattle.std.proofs.Math.Logic.{inl, inr}
use Rattle.std.proofs.Math.Bool.{true, false, cond}
use Rattle.std.proofs.lemmas.Bool.{false≢true}
use mathlib.Core.List.Memᴰ
use mathlib.Core.List.{List, [], ◌∷◌, ◌++◌, map, map-append, cons≢nil}
use Prim.Native.Nat.{suc, ◌≤◌}
use native.Mathlib.Omega.{arith}
use Rattle.std.proofs.Math.ListN.{length, take}
use Rattle.lists.specs.Lists.{◌∈◌, All, Some, Pairwise, AtMostOne, keep, front, any}
use Rattle.lists.specs.ListLaws.{all_elim, all_intro}

module _ {A : Type 0} where
  module _ (t : A → Bool) where
    pub keep_yes : (x : A) (xs : List A) → t x ≡ true → keep t (x ∷ xs) ≡ x ∷ keep t xs
    unfolding keep
    keep_yes x xs e = rw e

    pub keep_no : (x : A) (xs : List A) → t x ≡ false → keep t (x ∷ xs) ≡ keep t xs
    unfolding keep
    keep_no x xs e = rw e

    pub keep_append : (xs ys : List A) → keep t (xs ++ ys) ≡ keep t xs ++ keep t ys
    unfolding keep
    keep_append [] ys = refl
    keep_append (x ∷ xs) ys = go (t x) (keep_append xs ys)
      where
        go : (b : Bool) → keep t (xs ++ ys) ≡ keep t xs ++ keep t ys
            → cond b (x ∷ keep t (xs ++ ys)) (keep t (xs ++ ys)) ≡ cond b (x ∷ keep t xs) (keep t xs) ++ keep t ys
        go true e = ap (λ (l : List A). x ∷ l) e
        go false e = e

    pub keep_none : (xs : List A) → All (λ x. t x ≡ false) xs → keep t xs ≡ []
    unfolding keep
    keep_none [] h = refl
    keep_none (x ∷ xs) h = rw h.0 (keep_none xs h.1)

    pub none_of_keep : (xs : List A) → keep t xs ≡ [] → All (λ x. t x ≡ false) xs
    unfolding keep
    none_of_keep [] e = tt
    none_of_keep (x ∷ xs) e = go (t x) refl e (λ k. none_of_keep xs k)
      where
        go : (b : Bool) → t x ≡ b → cond b (x ∷ keep t xs) (keep t xs) ≡ [] → (keep t xs ≡ [] → All (λ y. t y ≡ false) xs)
            → All (λ y. t y ≡ false) (x ∷ xs)
        go true h k on = absurd (cons≢nil k)
        go false h k on = (h, on k)

    pub all_keep : (P : A → Type 0) (xs : List A) → All P xs → All P (keep t xs)
    unfolding keep
    all_keep P [] h = tt
    all_keep P (x ∷ xs) h = go (t x) (all_keep P xs h.1)
      where
        go : (b : Bool) → All P (keep t xs) → All P (cond b (x ∷ keep t xs) (keep t xs))
        go true k = (h.0, k)
        go false k = k

    -- What holds of all that are kept holds of all that pass the test
    pub all_of_keep : (P : A → Type 0) (xs : List A) → All P (keep t xs) → All (λ x. t x ≡ true → P x) xs
    unfolding keep
    all_of_keep P [] h = tt
    all_of_keep P (x ∷ xs) h = go (t x) refl h (λ k. all_of_keep P xs k)
      where
        go : (b : Bool) → t x ≡ b → All P (cond b (x ∷ keep t xs) (keep t xs)) → (All P (keep t xs) → All (λ y. t y ≡ true → P y) xs)
            → All (λ y. t y ≡ true → P y) (x ∷ xs)
        go true e k on = (λ _. k.0, on k.1)
        go false e k on = (λ g. absurd (true≢false (sym g ∙ e)), on k)

    pub any_of_some : (xs : List A) → Some (λ x. t x ≡ true) xs → any t xs ≡ true
    unfolding any
    any_of_some [] h = absurd h
    any_of_some (x ∷ xs) (inl h) = rw h
    any_of_some (x ∷ xs) (inr h) = go (t x) (any_of_some xs h)
      where
        go : (b : Bool) → any t xs ≡ true → (b || any t xs) ≡ true
        go true e = refl
        go false e = e

    pub some_of_any : (xs : List A) → any t xs ≡ true → Some (λ x. t x ≡ true) xs
    unfolding any
    some_of_any [] e = absurd (false≢true e)
    some_of_any (x ∷ xs) e = go (t x) refl e (λ k. some_of_any xs k)
      where
        go : (b : Bool) → t x ≡ b → (b || any t xs) ≡ true → (any t xs ≡ true → Some (λ y. t y ≡ true) xs) → Some (λ y. t y ≡ true) (x ∷ xs)
        go true h k on = inl h
        go false h k on = inr (on k)

    pub all_of_none : (xs : List A) → any t xs ≡ false → All (λ x. t x ≡ false) xs
    unfolding any
    all_of_none [] e = tt
    all_of_none (x ∷ xs) e = go (t x) refl e (λ k. all_of_none xs k)
      where
        go : (b : Bool) → t x ≡ b → (b || any t xs) ≡ false → (any t xs ≡ false → All (λ y. t y ≡ false) xs)
            → All (λ y. t y ≡ false) (x ∷ xs)
        go true h k on = absurd (true≢false k)
        go false h k on = (h, on k)

    pub none_of_all : (xs : List A) → All (λ x. t x ≡ false) xs → any t xs ≡ false
    unfolding any
    none_of_all [] h = refl
    none_of_all (x ∷ xs) h = rw h.0 (none_of_all xs h.1)

    pub any_keep : (u : A → Bool) (xs : List A) → any (λ x. t x && u x) xs ≡ any u (keep t xs)
    unfolding any keep
    any_keep u [] = refl
    any_keep u (x ∷ xs) = go (t x) (any_keep u xs)
      where
        go : (b : Bool) → any (λ y. t y && u y) xs ≡ any u (keep t xs)
            → (b && u x || any (λ y. t y && u y) xs) ≡ any u (cond b (x ∷ keep t xs) (keep t xs))
        go true e = ap (λ (r : Bool). u x || r) e
        go false e = e

    pub front_yes : (x : A) (xs : List A) → t x ≡ true → front t (x ∷ xs) ≡ x ∷ front t xs
    unfolding front
    front_yes x xs e = rw e

    pub front_no : (x : A) (xs : List A) → t x ≡ false → front t (x ∷ xs) ≡ []
    unfolding front
    front_no x xs e = rw e

    pub take_front : (xs : List A) → take (length (front t xs)) xs ≡ front t xs
    unfolding front
    take_front [] = refl
    take_front (x ∷ xs) = go (t x) (take_front xs)
      where
        go : (b : Bool) → take (length (front t xs)) xs ≡ front t xs
            → take (length (cond b (x ∷ front t xs) [])) (x ∷ xs) ≡ cond b (x ∷ front t xs) []
        go true e = ap (λ (l : List A). x ∷ l) e
        go false e = refl

    pub length_front_le : (xs : List A) → length (front t xs) ≤ length xs
    unfolding front
    length_front_le [] = omega arith
    length_front_le (x ∷ xs) = go (t x) (length_front_le xs)
      where
        go : (b : Bool) → length (front t xs) ≤ length xs → length (cond b (x ∷ front t xs) []) ≤ suc (length xs)
        go true h = omega arith
        go false h = omega arith

  -- If those of each class are pairwise in R, then the whole list is, up to the class. `t x` tests for x's own class
  module _ (R : A → A → Type 0) (t : A → A → Bool) (own : (x : A) → t x x ≡ true) where
    pub pairwise_of_keep : (xs : List A) → ((z : A) → Pairwise R (keep (t z) xs)) → Pairwise (λ x y. t x y ≡ true → R x y) xs
    pairwise_of_keep [] h = tt
    pairwise_of_keep (x ∷ xs) h = (all_of_keep (t x) (R x) xs head.0, pairwise_of_keep xs tail)
      where
        head : Pairwise R (x ∷ keep (t x) xs)
        head = rw (keep_yes (t x) x xs (own x)) at (h x)

        tail : (z : A) → Pairwise R (keep (t z) xs)
        tail z = go (t z x) refl
          where
            go : (b : Bool) → t z x ≡ b → Pairwise R (keep (t z) xs)
            go true e = let k : Pairwise R (x ∷ keep (t z) xs) = rw (keep_yes (t z) x xs e) at (h z) in k.1
            go false e = rw (keep_no (t z) x xs e) at (h z)

module _ {A : Type 0} (p : A → Bool) where
  pub keep_nil : keep p [] ≡ []
  unfolding keep
  keep_nil = refl

  pub map_keep_append : {B : Type 0} (g : A → B) (xs ys : List A) → map g (keep p (xs ++ ys)) ≡ map g (keep p xs) ++ map g (keep p ys)
  map_keep_append g xs ys = ap (map g) (keep_append p xs ys) ∙ map-append g (keep p xs) (keep p ys)

  pub keep_agree : (q : A → Bool) (xs : List A) → ((x : A) → x ∈ xs → p x ≡ q x) → keep p xs ≡ keep q xs
  unfolding keep
  keep_agree q [] h = refl
  keep_agree q (x ∷ xs) h =
      ap₂ (λ (b : Bool) (zs : List A). cond b (x ∷ zs) zs) (h x (Memᴰ.head refl)) (keep_agree q xs (λ y m. h y (Memᴰ.tail m)))

  pub keep_intro : {x : A} (xs : List A) → x ∈ xs → p x ≡ true → x ∈ keep p xs
  unfolding keep
  keep_intro [] m e = absurd (Memᴰ.not-nil m)
  keep_intro {x} (y ∷ ys) m e = go (p y) refl (Memᴰ.cases_cons m) (λ m. keep_intro ys m e)
    where
      go : (b : Bool) → p y ≡ b → (x ≡ y) ⊎ (x ∈ ys) → (x ∈ ys → x ∈ keep p ys) → x ∈ cond b (y ∷ keep p ys) (keep p ys)
      go true q (inl same) rest = Memᴰ.head same
      go true q (inr m) rest = Memᴰ.tail (rest m)
      go false q (inl same) rest = absurd (true≢false (sym e ∙ ap p same ∙ q))
      go false q (inr m) rest = rest m

  pub keep_elim : {x : A} (xs : List A) → x ∈ keep p xs → (x ∈ xs) × (p x ≡ true)
  unfolding keep
  keep_elim [] m = absurd (Memᴰ.not-nil m)
  keep_elim {x} (y ∷ ys) m = go (p y) refl m (λ m. keep_elim ys m)
    where
      later : (x ∈ ys) × (p x ≡ true) → (x ∈ y ∷ ys) × (p x ≡ true)
      later h = (Memᴰ.tail h.0, h.1)

      first : p y ≡ true → (x ∈ keep p ys → (x ∈ ys) × (p x ≡ true)) → (x ≡ y) ⊎ (x ∈ keep p ys) → (x ∈ y ∷ ys) × (p x ≡ true)
      first q rest (inl same) = (Memᴰ.head same, ap p same ∙ q)
      first q rest (inr m) = later (rest m)

      go : (b : Bool) → p y ≡ b → x ∈ cond b (y ∷ keep p ys) (keep p ys) → (x ∈ keep p ys → (x ∈ ys) × (p x ≡ true))
          → (x ∈ y ∷ ys) × (p x ≡ true)
      go true q m rest = first q rest (Memᴰ.cases_cons m)
      go false q m rest = later (rest m)

-- Where no two that stand in R pass together, at most one passes.
module _ {A : Type 0} {R : A → A → Type 0} (p : A → Bool) (clash : (x y : A) → R x y → p x ≡ true → p y ≡ true → ⊥) where
  pub keep_few : (xs : List A) → Pairwise R xs → AtMostOne (keep p xs)
  keep_few [] h = inl (keep_nil p)
  keep_few (x ∷ xs) h = go (p x) refl (keep_few xs h.1)
    where
      fails : (y : A) (b : Bool) → p x ≡ true → R x y → p y ≡ b → p y ≡ false
      fails y true e r q = absurd (clash x y r e q)
      fails y false e r q = q

      go : (b : Bool) → p x ≡ b → AtMostOne (keep p xs) → AtMostOne (keep p (x ∷ xs))
      go true e rest =
          let others = all_intro (λ y. p y ≡ false) xs (λ y m. fails y (p y) e (all_elim _ xs h.0 m) refl) in
          inr (x, keep_yes p x xs e ∙ ap (x ∷◌) (keep_none p xs others))
      go false e (inl none) = inl (keep_no p x xs e ∙ none)
      go false e (inr one) = inr (one.0, keep_no p x xs e ∙ one.1)

  pub keep_only : {x : A} (xs : List A) → Pairwise R xs → x ∈ xs → p x ≡ true → keep p xs ≡ x ∷ []
  keep_only {x} xs h m e = go (keep_few xs h)
    where
      passes : x ∈ keep p xs
      passes = keep_intro p xs m e

      same : {y : A} → (x ≡ y) ⊎ (x ∈ []) → x ≡ y
      same (inl e) = e
      same (inr m) = absurd (Memᴰ.not-nil m)

      go : AtMostOne (keep p xs) → keep p xs ≡ x ∷ []
      go (inl none) = absurd (Memᴰ.not-nil (rw none at passes))
      go (inr one) = one.1 ∙ ap (λ (y : A). y ∷ []) (sym (same (Memᴰ.cases_cons (rw one.1 at passes))))

module _ {A : Type 0} (p : A → Bool) where
  pub keep_all : (xs : List A) → All (λ x. p x ≡ true) xs → keep p xs ≡ xs
  unfolding keep
  keep_all [] h = refl
  keep_all (x ∷ xs) h = rw h.0 (ap (x ∷◌) (keep_all xs h.1))

  -- Two tests at once, or one after the other
  pub keep_and : (q : A → Bool) (xs : List A) → keep (λ x. p x && q x) xs ≡ keep q (keep p xs)
  unfolding keep
  keep_and q [] = refl
  keep_and q (x ∷ xs) = go (p x) (keep_and q xs)
    where
      go : (a : Bool) → keep (λ y. p y && q y) xs ≡ keep q (keep p xs)
          → cond (a && q x) (x ∷ keep (λ y. p y && q y) xs) (keep (λ y. p y && q y) xs) ≡ keep q (cond a (x ∷ keep p xs) (keep p xs))
      go true e = ap (λ (zs : List A). cond (q x) (x ∷ zs) zs) e
      go false e = e

  -- A test of what a function gives
  pub map_keep : {B : Type 0} (f : B → A) (xs : List B) → map f (keep (λ x. p (f x)) xs) ≡ keep p (map f xs)
  unfolding keep
  map_keep f [] = refl
  map_keep f (x ∷ xs) = go (p (f x)) (map_keep f xs)
    where
      go : (a : Bool) → map f (keep (λ y. p (f y)) xs) ≡ keep p (map f xs)
          → map f (cond a (x ∷ keep (λ y. p (f y)) xs) (keep (λ y. p (f y)) xs)) ≡ cond a (f x ∷ keep p (map f xs)) (keep p (map f xs))
      go true e = ap (f x ∷◌) e
      go false e = e

module _ {A : Type 0} (R : A → A → Type 0) where
  pub pairwise_keep : (p : A → Bool) (xs : List A) → Pairwise R xs → Pairwise R (keep p xs)
  unfolding keep
  pairwise_keep p [] h = tt
  pairwise_keep p (x ∷ xs) h = go (p x) (pairwise_keep p xs h.1)
    where
      go : (b : Bool) → Pairwise R (keep p xs) → Pairwise R (cond b (x ∷ keep p xs) (keep p xs))
      go true rest = (all_keep p (R x) xs h.0, rest)
      go false rest = rest
