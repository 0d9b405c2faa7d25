-- The laws of `All`, `Some` and `Pairwise`, element by element and by membership. `-intro` builds and `-elim` takes apart. Assumes nothing.
use Rattle.std.specs.Prelude.{◌≡◌, refl, ◌⊎◌, Bool, true, false, cond, ℕ, zero, suc, drop}
use Rattle.std.proofs.Common.{sym, subst, ◌∙◌, inl, inr}
use mathlib.Core.List.Memᴰ
use mathlib.Core.List.{List, [], ◌∷◌, ◌++◌, cons≢nil, tail-eq_of_cons-eq}
use mathlib.Core.List.{flat_map, map}
use Rattle.lists.specs.Lists.{◌∈◌, All, Some, Pairwise}

module _ {A : Type 0} where
  -- In use the predicates are mostly told by the rest: `all_imp _ _ xs h f`
  pub all_imp : (P Q : A → Type 0) (xs : List A) → All P xs → ((x : A) → P x → Q x) → All Q xs
  all_imp P Q [] h f = tt
  all_imp P Q (x ∷ xs) h f = (f x h.0, all_imp P Q xs h.1 f)

  pub all_imp₂ : (P Q R : A → Type 0) (xs : List A) → All P xs → All Q xs → ((x : A) → P x → Q x → R x) → All R xs
  all_imp₂ P Q R [] h k f = tt
  all_imp₂ P Q R (x ∷ xs) h k f = (f x h.0 k.0, all_imp₂ P Q R xs h.1 k.1 f)

  pub all_and : (P Q : A → Type 0) (xs : List A) → All P xs → All Q xs → All (λ x. P x × Q x) xs
  all_and P Q [] h k = tt
  all_and P Q (x ∷ xs) h k = ((h.0, k.0), all_and P Q xs h.1 k.1)

  pub all_forall : {B : Type 0} (P : B → A → Type 0) (xs : List A) → ((b : B) → All (P b) xs) → All (λ x. (b : B) → P b x) xs
  all_forall P [] h = tt
  all_forall P (x ∷ xs) h = (λ b. (h b).0, all_forall P xs (λ b. (h b).1))

  module _ (P : A → Type 0) where
    pub all_of : ((x : A) → P x) → (xs : List A) → All P xs
    all_of f [] = tt
    all_of f (x ∷ xs) = (f x, all_of f xs)

    pub all_append : (xs ys : List A) → All P xs → All P ys → All P (xs ++ ys)
    all_append [] ys h k = k
    all_append (x ∷ xs) ys h k = (h.0, all_append xs ys h.1 k)

    pub all_left : (xs ys : List A) → All P (xs ++ ys) → All P xs
    all_left [] ys h = tt
    all_left (x ∷ xs) ys h = (h.0, all_left xs ys h.1)

    pub all_right : (xs ys : List A) → All P (xs ++ ys) → All P ys
    all_right [] ys h = h
    all_right (x ∷ xs) ys h = all_right xs ys h.1

    pub all_drop : (i : ℕ) (xs : List A) → All P xs → All P (drop i xs)
    all_drop zero xs h = h
    all_drop (suc i) [] h = tt
    all_drop (suc i) (x ∷ xs) h = all_drop i xs h.1

    pub some_left : (xs ys : List A) → Some P xs → Some P (xs ++ ys)
    some_left [] ys h = absurd h
    some_left (x ∷ xs) ys (inl h) = inl h
    some_left (x ∷ xs) ys (inr h) = inr (some_left xs ys h)

    pub some_right : (xs ys : List A) → Some P ys → Some P (xs ++ ys)
    some_right [] ys h = h
    some_right (x ∷ xs) ys h = inr (some_right xs ys h)

    pub some_elim : {C : Type 0} (xs : List A) → ((x : A) → P x → C) → Some P xs → C
    some_elim [] f h = absurd h
    some_elim (x ∷ xs) f (inl h) = f x h
    some_elim (x ∷ xs) f (inr h) = some_elim xs f h

  pub all_swap : (R : A → A → Type 0) (xs ys : List A) → All (λ x. All (R x) ys) xs → All (λ y. All (λ x. R x y) xs) ys
  all_swap R [] ys h = all_of (λ y. Unit {0}) (λ y. tt) ys
  all_swap R (x ∷ xs) ys h = all_and (R x) (λ y. All (λ z. R z y) xs) ys h.0 (all_swap R xs ys h.1)

  -- What holds of all holds of the one that there is
  pub some_and : (P Q : A → Type 0) (xs : List A) → All P xs → Some Q xs → Some (λ x. P x × Q x) xs
  some_and P Q [] h k = k
  some_and P Q (x ∷ xs) h (inl k) = inl (h.0, k)
  some_and P Q (x ∷ xs) h (inr k) = inr (some_and P Q xs h.1 k)

  pub some_imp : (P Q : A → Type 0) → ((x : A) → P x → Q x) → (xs : List A) → Some P xs → Some Q xs
  some_imp P Q f [] h = h
  some_imp P Q f (x ∷ xs) (inl h) = inl (f x h)
  some_imp P Q f (x ∷ xs) (inr h) = inr (some_imp P Q f xs h)

  pub pairwise_imp : (R S : A → A → Type 0) → ((x y : A) → R x y → S x y) → (xs : List A) → Pairwise R xs → Pairwise S xs
  pairwise_imp R S f [] h = tt
  pairwise_imp R S f (x ∷ xs) h = (all_imp (R x) (S x) xs h.0 (f x), pairwise_imp R S f xs h.1)

  pub pairwise_all : (P : A → Type 0) (R : A → A → Type 0) (xs : List A) → All P xs → Pairwise R xs
      → Pairwise (λ x y. (P x × P y) × R x y) xs
  pairwise_all P R [] h r = tt
  pairwise_all P R (x ∷ xs) h r = (all_imp₂ _ _ _ xs h.1 r.0 (λ y p q. ((h.0, p), q)), pairwise_all P R xs h.1 r.1)

  pub pairwise_append : (R : A → A → Type 0) (xs ys : List A) → Pairwise R xs → Pairwise R ys → All (λ x. All (R x) ys) xs
      → Pairwise R (xs ++ ys)
  pairwise_append R [] ys h k c = k
  pairwise_append R (x ∷ xs) ys h k c = (all_append (R x) xs ys h.0 c.0, pairwise_append R xs ys h.1 k c.1)

  -- A suffix with its first element: one further
  pub drop_suc : (i : ℕ) (l : List A) (x : A) (xs : List A) → drop i l ≡ x ∷ xs → drop (suc i) l ≡ xs
  drop_suc zero [] x xs e = absurd (cons≢nil (sym e))
  drop_suc zero (y ∷ l) x xs e = tail-eq_of_cons-eq e
  drop_suc (suc i) [] x xs e = absurd (cons≢nil (sym e))
  drop_suc (suc i) (y ∷ l) x xs e = drop_suc i l x xs e

module _ {A : Type 0} (P : A → Type 0) where
  pub all_elim : {x : A} (xs : List A) → All P xs → x ∈ xs → P x
  all_elim [] h m = absurd (Memᴰ.not-nil m)
  all_elim (y ∷ ys) h m = go (λ m. all_elim ys h.1 m) (Memᴰ.cases_cons m)
    where
      go : {x : A} → (x ∈ ys → P x) → (x ≡ y) ⊎ (x ∈ ys) → P x
      go rest (inl e) = subst P (sym e) h.0
      go rest (inr m) = rest m

  pub all_intro : (xs : List A) → ((x : A) → x ∈ xs → P x) → All P xs
  all_intro [] h = tt
  all_intro (x ∷ xs) h = (h x (Memᴰ.head refl), all_intro xs (λ y m. h y (Memᴰ.tail m)))

  pub all_map_intro : {B : Type 0} (f : B → A) (xs : List B) → ((x : B) → x ∈ xs → P (f x)) → All P (map f xs)
  all_map_intro f [] h = tt
  all_map_intro f (x ∷ xs) h = (h x (Memᴰ.head refl), all_map_intro f xs (λ y m. h y (Memᴰ.tail m)))

  pub member_of_some : (xs : List A) → Some P xs → (x : A) × (x ∈ xs) × P x
  member_of_some [] h = absurd h
  member_of_some (x ∷ xs) (inl h) = (x, Memᴰ.head refl, h)
  member_of_some (x ∷ xs) (inr h) = let found = member_of_some xs h in (found.0, Memᴰ.tail found.1, found.2)

  pub some_of_member : {x : A} (xs : List A) → x ∈ xs → P x → Some P xs
  some_of_member [] m h = absurd (Memᴰ.not-nil m)
  some_of_member (y ∷ ys) m h = go (λ m. some_of_member ys m h) (Memᴰ.cases_cons m) h
    where
      go : {x : A} → (x ∈ ys → Some P ys) → (x ≡ y) ⊎ (x ∈ ys) → P x → Some P (y ∷ ys)
      go rest (inl e) h = inl (subst P e h)
      go rest (inr m) h = inr (rest m)

-- Something of a list that is there only under a condition
pub mem_cond_elim : {A : Type 0} {x : A} (b : Bool) (xs : List A) → x ∈ cond b xs [] → (b ≡ true) × (x ∈ xs)
mem_cond_elim true xs m = (refl, m)
mem_cond_elim false xs m = absurd (Memᴰ.not-nil m)

module _ {A B : Type 0} (g : A → List B) where
  pub flat_intro : {x : A} {y : B} (xs : List A) → x ∈ xs → y ∈ g x → y ∈ flat_map g xs
  unfolding flat_map
  flat_intro [] m h = absurd (Memᴰ.not-nil m)
  flat_intro {x} {y} (z ∷ zs) m h = go (λ m. flat_intro zs m h) (Memᴰ.cases_cons m)
    where
      go : (x ∈ zs → y ∈ flat_map g zs) → (x ≡ z) ⊎ (x ∈ zs) → y ∈ g z ++ flat_map g zs
      go rest (inl e) = Memᴰ.append_left (flat_map g zs) (subst (λ (w : A). y ∈ g w) e h)
      go rest (inr m) = Memᴰ.append_right (g z) (rest m)

  pub flat_elim : {y : B} (xs : List A) → y ∈ flat_map g xs → (x : A) × (x ∈ xs) × (y ∈ g x)
  unfolding flat_map
  flat_elim [] m = absurd (Memᴰ.not-nil m)
  flat_elim {y} (x ∷ xs) m = go (λ m. flat_elim xs m) (Memᴰ.append_cases (g x) m)
    where
      later : (z : A) × (z ∈ xs) × (y ∈ g z) → (z : A) × (z ∈ x ∷ xs) × (y ∈ g z)
      later found = (found.0, Memᴰ.tail found.1, found.2)

      go : (y ∈ flat_map g xs → (z : A) × (z ∈ xs) × (y ∈ g z)) → (y ∈ g x) ⊎ (y ∈ flat_map g xs) → (z : A) × (z ∈ x ∷ xs) × (y ∈ g z)
      go rest (inl h) = (x, Memᴰ.head refl, h)
      go rest (inr m) = later (rest m)

module _ {A : Type 0} (R : A → A → Type 0) where
  -- Each part by itself, and each two of two parts
  pub pairwise_flat : {B : Type 0} (g : B → List A) (xs : List B) → All (λ x. Pairwise R (g x)) xs
      → Pairwise (λ x y. (i j : A) → i ∈ g x → j ∈ g y → R i j) xs → Pairwise R (flat_map g xs)
  unfolding flat_map
  pairwise_flat g [] h k = tt
  pairwise_flat {B} g (x ∷ xs) h k =
      pairwise_append R (g x) (flat_map g xs) h.0 (pairwise_flat g xs h.1 k.1)
      (all_intro _ (g x) (λ i m. all_intro (R i) (flat_map g xs) (λ j n. across i j m n)))
    where
      across : (i j : A) → i ∈ g x → j ∈ flat_map g xs → R i j
      across i j m n = let (y, in_xs, in_part) = flat_elim g xs n in all_elim _ xs k.0 in_xs i j m in_part

  pub pairwise_map : {B : Type 0} (f : B → A) (xs : List B) → Pairwise (λ x y. R (f x) (f y)) xs → Pairwise R (map f xs)
  pairwise_map f [] h = tt
  pairwise_map f (x ∷ xs) h = (all_map_intro _ f xs (λ y m. all_elim _ xs h.0 m), pairwise_map f xs h.1)

  pub pairwise_imp_members : (S : A → A → Type 0) (xs : List A) → ((x y : A) → x ∈ xs → y ∈ xs → R x y → S x y) → Pairwise R xs
      → Pairwise S xs
  pairwise_imp_members S [] f h = tt
  pairwise_imp_members S (x ∷ xs) f h = (
    all_intro _ xs (λ y m. f x y (Memᴰ.head refl) (Memᴰ.tail m) (all_elim _ xs h.0 m)),
    pairwise_imp_members S xs (λ y z m n. f y z (Memᴰ.tail m) (Memᴰ.tail n)) h.1,
  )

  pub pairwise_both : (S : A → A → Type 0) (xs : List A) → Pairwise R xs → Pairwise S xs → Pairwise (λ x y. R x y × S x y) xs
  pairwise_both S [] h k = tt
  pairwise_both S (x ∷ xs) h k =
      (all_intro _ xs (λ y m. (all_elim _ xs h.0 m, all_elim _ xs k.0 m)), pairwise_both S xs h.1 k.1)

  -- Two members are one, or stand in R one way round or the other
  pub pairwise_members : {x y : A} (xs : List A) → Pairwise R xs → x ∈ xs → y ∈ xs → (x ≡ y) ⊎ (R x y ⊎ R y x)
  pairwise_members [] h m n = absurd (Memᴰ.not-nil m)
  pairwise_members {x} {y} (z ∷ zs) h m n = go (Memᴰ.cases_cons m) (Memᴰ.cases_cons n) (λ a b. pairwise_members zs h.1 a b)
    where
      later : {w : A} → w ∈ zs → R z w
      later m = all_elim (R z) zs h.0 m

      go : (x ≡ z) ⊎ (x ∈ zs) → (y ≡ z) ⊎ (y ∈ zs) → (x ∈ zs → y ∈ zs → (x ≡ y) ⊎ (R x y ⊎ R y x)) → (x ≡ y) ⊎ (R x y ⊎ R y x)
      go (inl e) (inl g) rest = inl (e ∙ sym g)
      go (inl e) (inr b) rest = inr (inl (subst (λ w. R w y) (sym e) (later b)))
      go (inr a) (inl g) rest = inr (inr (subst (λ w. R w x) (sym g) (later a)))
      go (inr a) (inr b) rest = rest a b
