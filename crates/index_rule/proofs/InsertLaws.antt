-- Insertion keeps what was there, adds one, and keeps the order of keys; inserting what things become is inserting the things. Assumes
-- nothing.
use Rattle.std.specs.Prelude.{◌≡◌, ◌⊎◌, Bool, leb}
use Rattle.std.proofs.Math.Path.{refl, ap}
use Rattle.std.proofs.Common.{◌∙◌, leb-true, leb-false}
use Rattle.std.proofs.Math.Logic.{inl, inr}
use Rattle.std.proofs.Math.Bool.{true, false, cond}
use mathlib.Core.List.Memᴰ
use mathlib.Core.List.{List, [], ◌∷◌, map}
use Prim.Native.Nat.{ℕ, suc, ◌+◌, ◌≤◌}
use native.Mathlib.Omega.{arith}
use Rattle.std.proofs.Math.ListN.{length}
use Rattle.lists.specs.Lists.{◌∈◌, Pairwise}
use Rattle.lists.specs.ListLaws.{all_imp, all_elim, all_intro}
use Rattle.index_rule.specs.Insert.{insert, inserted}

module _ {A : Type 0} (key : A → ℕ) where
  abbrev pub Ordered : List A → Type 0
  Ordered xs = Pairwise (λ x y. key x ≤ key y) xs

  insert_elim : (x : A) (ys : List A) {z : A} → z ∈ insert key x ys → (z ≡ x) ⊎ (z ∈ ys)
  unfolding insert
  insert_elim x [] m = Memᴰ.cases_cons m
  insert_elim x (y ∷ ys) {z} m = go (leb (key y) (key x)) m (λ n. insert_elim x ys n)
    where
      later : (z ≡ x) ⊎ (z ∈ ys) → (z ≡ x) ⊎ (z ∈ y ∷ ys)
      later (inl e) = inl e
      later (inr n) = inr (Memᴰ.tail n)

      first : (z ≡ y) ⊎ (z ∈ insert key x ys) → (z ∈ insert key x ys → (z ≡ x) ⊎ (z ∈ ys)) → (z ≡ x) ⊎ (z ∈ y ∷ ys)
      first (inl e) rest = inr (Memᴰ.head e)
      first (inr n) rest = later (rest n)

      go : (t : Bool) → z ∈ cond t (y ∷ insert key x ys) (x ∷ y ∷ ys) → (z ∈ insert key x ys → (z ≡ x) ⊎ (z ∈ ys))
          → (z ≡ x) ⊎ (z ∈ y ∷ ys)
      go true n rest = first (Memᴰ.cases_cons n) rest
      go false n rest = Memᴰ.cases_cons n

  insert_new : (x : A) (ys : List A) → x ∈ insert key x ys
  unfolding insert
  insert_new x [] = Memᴰ.head refl
  insert_new x (y ∷ ys) = go (leb (key y) (key x)) (insert_new x ys)
    where
      go : (t : Bool) → x ∈ insert key x ys → x ∈ cond t (y ∷ insert key x ys) (x ∷ y ∷ ys)
      go true m = Memᴰ.tail m
      go false m = Memᴰ.head refl

  insert_old : (x : A) (ys : List A) {z : A} → z ∈ ys → z ∈ insert key x ys
  unfolding insert
  insert_old x [] m = absurd (Memᴰ.not-nil m)
  insert_old x (y ∷ ys) {z} m = go (leb (key y) (key x)) (Memᴰ.cases_cons m) (λ n. insert_old x ys n)
    where
      go : (t : Bool) → (z ≡ y) ⊎ (z ∈ ys) → (z ∈ ys → z ∈ insert key x ys) → z ∈ cond t (y ∷ insert key x ys) (x ∷ y ∷ ys)
      go true (inl e) rest = Memᴰ.head e
      go true (inr n) rest = Memᴰ.tail (rest n)
      go false n rest = Memᴰ.tail m

  insert_ordered : (x : A) (ys : List A) → Ordered ys → Ordered (insert key x ys)
  unfolding insert
  insert_ordered x [] h = (tt, tt)
  insert_ordered x (y ∷ ys) h = go (leb (key y) (key x)) refl (insert_ordered x ys h.1)
    where
      at_least : (z : A) → key y ≤ key x → (z ≡ x) ⊎ (z ∈ ys) → key y ≤ key z
      at_least z l (inl e) = omega (arith, l, ap key e)
      at_least z l (inr n) = all_elim _ ys h.0 n

      go : (t : Bool) → leb (key y) (key x) ≡ t → Ordered (insert key x ys) → Ordered (cond t (y ∷ insert key x ys) (x ∷ y ∷ ys))
      go true e rest = (all_intro _ (insert key x ys) (λ z n. at_least z (leb-true _ _ e) (insert_elim x ys n)), rest)
      go false e rest =
          let l = leb-false (key y) (key x) e in
          ((omega (arith, l), all_imp _ _ ys h.0 (λ z k. omega (arith, l, k))), h)

  length_insert : (x : A) (ys : List A) → length (insert key x ys) ≡ suc (length ys)
  unfolding insert
  length_insert x [] = refl
  length_insert x (y ∷ ys) = go (leb (key y) (key x)) (length_insert x ys)
    where
      go : (t : Bool) → length (insert key x ys) ≡ suc (length ys)
          → length (cond t (y ∷ insert key x ys) (x ∷ y ∷ ys)) ≡ suc (suc (length ys))
      go true h = ap suc h
      go false h = refl

  -- ## One after the other

  pub inserted_elim : (ys xs : List A) {z : A} → z ∈ inserted key ys xs → (z ∈ ys) ⊎ (z ∈ xs)
  unfolding inserted
  inserted_elim ys [] m = inl m
  inserted_elim ys (x ∷ xs) {z} m = go (inserted_elim (insert key x ys) xs m)
    where
      was : (z ≡ x) ⊎ (z ∈ ys) → (z ∈ ys) ⊎ (z ∈ x ∷ xs)
      was (inl e) = inr (Memᴰ.head e)
      was (inr n) = inl n

      go : (z ∈ insert key x ys) ⊎ (z ∈ xs) → (z ∈ ys) ⊎ (z ∈ x ∷ xs)
      go (inl n) = was (insert_elim x ys n)
      go (inr n) = inr (Memᴰ.tail n)

  pub inserted_old : (ys xs : List A) {z : A} → z ∈ ys → z ∈ inserted key ys xs
  unfolding inserted
  inserted_old ys [] m = m
  inserted_old ys (x ∷ xs) m = inserted_old (insert key x ys) xs (insert_old x ys m)

  pub inserted_new : (ys xs : List A) {z : A} → z ∈ xs → z ∈ inserted key ys xs
  unfolding inserted
  inserted_new ys [] m = absurd (Memᴰ.not-nil m)
  inserted_new ys (x ∷ xs) {z} m = go (Memᴰ.cases_cons m) (λ n. inserted_new (insert key x ys) xs n)
    where
      here : z ≡ x → z ∈ insert key x ys
      here e = rw e (insert_new x ys)

      go : (z ≡ x) ⊎ (z ∈ xs) → (z ∈ xs → z ∈ inserted key (insert key x ys) xs) → z ∈ inserted key (insert key x ys) xs
      go (inl e) rest = inserted_old (insert key x ys) xs (here e)
      go (inr n) rest = rest n

  pub inserted_ordered : (ys xs : List A) → Ordered ys → Ordered (inserted key ys xs)
  unfolding inserted
  inserted_ordered ys [] h = h
  inserted_ordered ys (x ∷ xs) h = inserted_ordered (insert key x ys) xs (insert_ordered x ys h)

  pub length_inserted : (ys xs : List A) → length (inserted key ys xs) ≡ length ys + length xs
  unfolding inserted
  length_inserted ys [] = omega arith
  length_inserted ys (x ∷ xs) = omega (arith, length_inserted (insert key x ys) xs, length_insert x ys)

-- ## What things become

module _ {A B : Type 0} (f : A → B) (key : B → ℕ) where
  pub map_insert : (x : A) (ys : List A) → map f (insert (λ (y : A). key (f y)) x ys) ≡ insert key (f x) (map f ys)
  unfolding insert
  map_insert x [] = refl
  map_insert x (y ∷ ys) = go (leb (key (f y)) (key (f x))) (map_insert x ys)
    where
      go : (t : Bool) → map f (insert (λ (z : A). key (f z)) x ys) ≡ insert key (f x) (map f ys)
          → map f (cond t (y ∷ insert (λ (z : A). key (f z)) x ys) (x ∷ y ∷ ys))
          ≡ cond t (f y ∷ insert key (f x) (map f ys)) (f x ∷ f y ∷ map f ys)
      go true h = ap (λ (t : List B). f y ∷ t) h
      go false h = refl

  pub map_inserted : (ys xs : List A) → map f (inserted (λ (y : A). key (f y)) ys xs) ≡ inserted key (map f ys) (map f xs)
  unfolding inserted
  map_inserted ys [] = refl
  map_inserted ys (x ∷ xs) =
      map_inserted (insert (λ (y : A). key (f y)) x ys) xs ∙ ap (λ (zs : List B). inserted key zs (map f xs)) (map_insert x ys)

-- an insertion defined elsewhere, with the same two equations, is this one
module _ {A : Type 0} (key : A → ℕ) (put : A → List A → List A) (onto_none : (x : A) → put x [] ≡ x ∷ [])
    (onto : (x y : A) (ys : List A) → put x (y ∷ ys) ≡ cond (leb (key y) (key x)) (y ∷ put x ys) (x ∷ y ∷ ys)) where
  pub insert_is : (x : A) (ys : List A) → put x ys ≡ insert key x ys
  unfolding insert
  insert_is x [] = onto_none x
  insert_is x (y ∷ ys) = onto x y ys ∙ ap (λ (zs : List A). cond (leb (key y) (key x)) (y ∷ zs) (x ∷ y ∷ ys)) (insert_is x ys)
