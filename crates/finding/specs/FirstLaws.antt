-- The laws of `first`: an element that passes, before which none does; one step of a search; two lists joined. Assumes nothing.
use Rattle.std.specs.Prelude.{◌≡◌, Bool, ◌||◌}
use Rattle.std.proofs.Math.Path.{refl, ap}
use Rattle.std.proofs.Common.{sym, ◌∙◌}
use Rattle.std.proofs.Math.Bool.{true, false, cond}
use Rattle.std.proofs.lemmas.Bool.{false≢true}
use mathlib.Core.List.{List, [], ◌∷◌, ◌++◌, map}
use Rattle.lists.specs.Lists.{◌∈◌, All, any}
use mathlib.Core.List.Memᴰ
use Rattle.finding.specs.First.{first}

-- An element that passes, and none before it does.
pub record FirstOf {A : Type 0} (t : A → Bool) (xs : List A) : Type 0 where
  pub one : A
  pub before : List A
  pub after : List A
  pub splits : xs ≡ before ++ one ∷ after
  pub passes : t one ≡ true
  pub none_before : All (λ x. t x ≡ false) before

module _ {A : Type 0} (t : A → Bool) where
  pub first_of_any : (xs : List A) → any t xs ≡ true → FirstOf t xs
  unfolding any
  first_of_any [] e = absurd (false≢true e)
  first_of_any (x ∷ xs) e = go (t x) refl e (λ h. first_of_any xs h)
    where
      go : (b : Bool) → t x ≡ b → (b || any t xs) ≡ true → (any t xs ≡ true → FirstOf t xs) → FirstOf t (x ∷ xs)
      go true h e later = record { one = x; before = []; after = xs; splits = refl; passes = h; none_before = tt }
      go false h e later =
          let f = later e in
          record {
            one = f.one;
            before = x ∷ f.before;
            after = f.after;
            splits = ap (x ∷◌) f.splits;
            passes = f.passes;
            none_before = (h, f.none_before);
          }

  pub member_of_first : (xs : List A) (f : FirstOf t xs) → f.one ∈ xs
  member_of_first xs f = rw f.splits (Memᴰ.append_right f.before (Memᴰ.head refl))

module _ {A B : Type 0} (t : A → Bool) (say : A → B) (e : B) where
  pub first_hit : (x : A) (xs : List A) → t x ≡ true → first t say e (x ∷ xs) ≡ say x
  unfolding first
  first_hit x xs h = rw h

  pub first_miss : (x : A) (xs : List A) → t x ≡ false → first t say e (x ∷ xs) ≡ first t say e xs
  unfolding first
  first_miss x xs h = rw h

  pub first_nil : first t say e [] ≡ e
  unfolding first
  first_nil = refl

  pub first_none : (xs : List A) → any t xs ≡ false → first t say e xs ≡ e
  unfolding first any
  first_none [] h = refl
  first_none (x ∷ xs) h = go (t x) h (λ k. first_none xs k)
    where
      go : (b : Bool) → (b || any t xs) ≡ false → (any t xs ≡ false → first t say e xs ≡ e) → cond b (say x) (first t say e xs) ≡ e
      go true k later = absurd (false≢true (sym k))
      go false k later = later k

  first_past : (before : List A) (x : A) (after : List A) → All (λ y. t y ≡ false) before → t x ≡ true
      → first t say e (before ++ x ∷ after) ≡ say x
  first_past [] x after none passes = first_hit x after passes
  first_past (y ∷ before) x after none passes =
      first_miss y (before ++ x ∷ after) none.0 ∙ first_past before x after none.1 passes

  pub first_is : (xs : List A) (f : FirstOf t xs) → first t say e xs ≡ say f.one
  first_is xs f = ap (first t say e) f.splits ∙ first_past f.before f.one f.after f.none_before f.passes

  -- of two lists, one after the other
  pub first_append : (xs ys : List A) → first t say e (xs ++ ys) ≡ first t say (first t say e ys) xs
  unfolding first
  first_append [] ys = refl
  first_append (x ∷ xs) ys = ap (cond (t x) (say x)) (first_append xs ys)

-- of images
pub first_map : {A B C : Type 0} (t : A → Bool) (say : A → B) (e : B) (f : C → A) (xs : List C)
    → first t say e (map f xs) ≡ first (λ x. t (f x)) (λ x. say (f x)) e xs
unfolding first
first_map t say e f [] = refl
first_map t say e f (x ∷ xs) = ap (cond (t (f x)) (say (f x))) (first_map t say e f xs)

-- of what is said of every element
pub first_same : {A B : Type 0} (t : A → Bool) (b : B) (xs : List A) → first t (λ x. b) b xs ≡ b
unfolding first
first_same t b [] = refl
first_same {A} {B} t b (x ∷ xs) = go (t x) (first_same t b xs)
  where
    go : (c : Bool) → first t (λ y. b) b xs ≡ b → cond c b (first t (λ y. b) b xs) ≡ b
    go true e = refl
    go false e = e

-- by two tests that agree
pub first_agree : {A B : Type 0} (t u : A → Bool) (say : A → B) (b : B) (xs : List A) → All (λ x. t x ≡ u x) xs
    → first t say b xs ≡ first u say b xs
unfolding first
first_agree t u say b [] h = refl
first_agree t u say b (x ∷ xs) h = rw (h.0, first_agree t u say b xs h.1)
