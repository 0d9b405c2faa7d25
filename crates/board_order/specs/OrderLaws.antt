-- What a function that is not misplaced keeps, and the laws of the bridges above and of those that may be parents. Assumes nothing.
use Rattle.std.specs.Prelude.{◌≡◌, refl, Bool, true, false, cond, not, ◌||◌, List, [], ◌∷◌, ◌++◌, ℕ, zero, suc, ◌≤◌, ◌<◌, length, drop, eqb, ltb}
use Rattle.std.proofs.Common.{sym, ap, ◌∙◌, true≢false, arith, eqb-true, eq-eqb, ne_eqb, ltb-false}
use Rattle.std.proofs.lemmas.Bool.{false≢true, eqb-false}
use Rattle.lists.specs.Lists.{All, any}
use Rattle.lists.specs.ListLaws.{all_imp, all_append}
use Rattle.records.specs.Limits.{most_above}
use Rattle.board_record.specs.declared.Function.{Function}
use Rattle.board_record.specs.Function.{is_bridge}
use Rattle.board_order.specs.Order.{above, parents, last_sibling, has_function_zero, misplaced, any_misplaced, first_misplaced}

-- ---- what 23 leaves true of a function and the records before it

pub record Placed (n : ℕ) (before : List Function) (f : Function) : Type 0 where
  pub parent_open : any (eqb f.parent) (parents n before) ≡ true
  pub rising : last_sibling f.parent before ≤ f.devfn
  pub shallow : length (above n f.parent before) ≤ most_above
  pub function_zero : has_function_zero before f ≡ true

pub placed_of_not_misplaced : (n : ℕ) (before : List Function) (f : Function) → misplaced n before f ≡ false → Placed n before f
unfolding misplaced
placed_of_not_misplaced n before f e =
    go (any (eqb f.parent) (parents n before)) refl (ltb f.devfn (last_sibling f.parent before)) refl
    (ltb most_above (length (above n f.parent before))) refl (has_function_zero before f) refl e
  where
    go : (p : Bool) → any (eqb f.parent) (parents n before) ≡ p
        → (r : Bool) → ltb f.devfn (last_sibling f.parent before) ≡ r
        → (s : Bool) → ltb most_above (length (above n f.parent before)) ≡ s
        → (z : Bool) → has_function_zero before f ≡ z
        → (not p || r || s || not z) ≡ false
        → Placed n before f
    go false p r q s t z u e = absurd (true≢false e)
    go true p true q s t z u e = absurd (true≢false e)
    go true p false q true t z u e = absurd (true≢false e)
    go true p false q false t false u e = absurd (true≢false e)
    go true p false q false t true u e =
        record { parent_open = p; rising = ltb-false _ _ q; shallow = ltb-false _ _ t; function_zero = u }

-- some function is misplaced where there is a first one
pub any_misplaced_agree : (n : ℕ) (before fs : List Function) → any_misplaced n before fs ≡ not (eqb (first_misplaced n before fs) 0)
unfolding any_misplaced first_misplaced
any_misplaced_agree n before [] = refl
any_misplaced_agree n before (f ∷ fs) = go (misplaced n before f) (any_misplaced_agree (suc n) (f ∷ before) fs)
  where
    go : (t : Bool) → any_misplaced (suc n) (f ∷ before) fs ≡ not (eqb (first_misplaced (suc n) (f ∷ before) fs) 0)
        → (t || any_misplaced (suc n) (f ∷ before) fs) ≡ not (eqb (cond t (suc n) (first_misplaced (suc n) (f ∷ before) fs)) 0)
    go true on = sym (ap not (ne_eqb (suc n) 0 (λ e. omega arith)))
    go false on = on

-- the records before a function, each in its place
abbrev pub Ordered : List Function → Type 0
Ordered [] = Unit {0}
Ordered (g ∷ before) = Placed (length before) before g × Ordered before

-- ---- the bridges above

module _ (n p : ℕ) (g : Function) (before : List Function) where
  pub above_here : eqb p (suc n) ≡ true → above (suc n) p (g ∷ before) ≡ p ∷ above n g.parent before
  unfolding above
  above_here e = rw e

  pub above_later : eqb p (suc n) ≡ false → above (suc n) p (g ∷ before) ≡ above n p before
  unfolding above
  above_later e = rw e

-- records above are no later than the nearest
le_of_above : (n p : ℕ) (before : List Function) → All (λ b. b ≤ n) (above n p before)
unfolding above
le_of_above zero p before = tt
le_of_above (suc n) p [] = tt
le_of_above (suc n) p (g ∷ before) = go (eqb p (suc n)) refl (le_of_above n g.parent before) (le_of_above n p before)
  where
    later : (xs : List ℕ) → All (λ b. b ≤ n) xs → All (λ b. b ≤ suc n) xs
    later xs h = all_imp (λ b. b ≤ n) (λ b. b ≤ suc n) xs h (λ b l. omega arith)

    go : (t : Bool) → eqb p (suc n) ≡ t → All (λ b. b ≤ n) (above n g.parent before) → All (λ b. b ≤ n) (above n p before)
        → All (λ b. b ≤ suc n) (above (suc n) p (g ∷ before))
    go true e up on = rw (above_here n p g before e) (omega (arith, eqb-true p (suc n) e), later (above n g.parent before) up)
    go false e up on = rw (above_later n p g before e) (later (above n p before) on)

-- the bridges above, and the host
abbrev pub up_to_host : ℕ → ℕ → List Function → List ℕ
up_to_host n p before = above n p before ++ 0 ∷ []

le_up_to_host : (n p : ℕ) (before : List Function) → All (λ b. b ≤ n) (up_to_host n p before)
le_up_to_host n p before = all_append (λ b. b ≤ n) (above n p before) (0 ∷ []) (le_of_above n p before) (omega arith, tt)

-- each comes before those below it
pub lt_up_to_host : (n p : ℕ) (before : List Function) → All (λ b. b < p) (drop 1 (up_to_host n p before))
unfolding above
lt_up_to_host zero p before = tt
lt_up_to_host (suc n) p [] = tt
lt_up_to_host (suc n) p (g ∷ before) = go (eqb p (suc n)) refl (lt_up_to_host n p before)
  where
    go : (t : Bool) → eqb p (suc n) ≡ t → All (λ b. b < p) (drop 1 (up_to_host n p before))
        → All (λ b. b < p) (drop 1 (up_to_host (suc n) p (g ∷ before)))
    go true e on =
        rw (above_here n p g before e)
        (all_imp (λ b. b ≤ n) (λ b. b < p) (up_to_host n g.parent before) (le_up_to_host n g.parent before)
        (λ b l. omega (arith, eqb-true p (suc n) e)))
    go false e on = rw (above_later n p g before e) on

-- ---- a list of numbers from p on

unfoldable pub from_on : ℕ → List ℕ → List ℕ
from_on p [] = []
from_on p (x ∷ xs) = let later = from_on p xs in cond (eqb p x) (x ∷ xs) later

from_on_here : (p x : ℕ) (xs : List ℕ) → eqb p x ≡ true → from_on p (x ∷ xs) ≡ x ∷ xs
unfolding from_on
from_on_here p x xs e = rw e

from_on_later : (p x : ℕ) (xs : List ℕ) → eqb p x ≡ false → from_on p (x ∷ xs) ≡ from_on p xs
unfolding from_on
from_on_later p x xs e = rw e

pub any_later : (p x : ℕ) (xs : List ℕ) → eqb p x ≡ false → any (eqb p) (x ∷ xs) ≡ true → any (eqb p) xs ≡ true
unfolding any
any_later p x xs e h = rw e at h

pub from_on_none : (p : ℕ) (xs : List ℕ) → any (eqb p) xs ≡ false → from_on p xs ≡ []
unfolding any from_on
from_on_none p [] e = refl
from_on_none p (x ∷ xs) e = go (eqb p x) refl e (from_on_none p xs)
  where
    go : (t : Bool) → eqb p x ≡ t → (t || any (eqb p) xs) ≡ false → (any (eqb p) xs ≡ false → from_on p xs ≡ [])
        → from_on p (x ∷ xs) ≡ []
    go true h e on = absurd (true≢false e)
    go false h e on = rw h (on e)

pub le_of_any : (m p : ℕ) (xs : List ℕ) → All (λ b. b ≤ m) xs → any (eqb p) xs ≡ true → p ≤ m
unfolding any
le_of_any m p [] h e = absurd (false≢true e)
le_of_any m p (x ∷ xs) h e = go (eqb p x) refl e (le_of_any m p xs h.1)
  where
    go : (t : Bool) → eqb p x ≡ t → (t || any (eqb p) xs) ≡ true → (any (eqb p) xs ≡ true → p ≤ m) → p ≤ m
    go true e₁ e on = omega (arith, eqb-true p x e₁, h.0)
    go false e₁ e on = on e

from_on_host : (p : ℕ) → any (eqb p) (0 ∷ []) ≡ true → from_on p (0 ∷ []) ≡ 0 ∷ []
unfolding any from_on
from_on_host p e = go (eqb p 0) refl e
  where
    go : (t : Bool) → eqb p 0 ≡ t → (t || false) ≡ true → from_on p (0 ∷ []) ≡ 0 ∷ []
    go true h e = rw h
    go false h e = absurd (false≢true e)

-- what stands above a record that stands above is above it
from_on_up_to_host : (n q p : ℕ) (before : List Function)
    → any (eqb p) (up_to_host n q before) ≡ true → from_on p (up_to_host n q before) ≡ up_to_host n p before
unfolding above
from_on_up_to_host zero q p before e = from_on_host p e
from_on_up_to_host (suc n) q p [] e = from_on_host p e
from_on_up_to_host (suc n) q p (g ∷ before) e =
    go (eqb q (suc n)) refl (from_on_up_to_host n g.parent p before) (from_on_up_to_host n q p before)
  where
    past : eqb p (suc n) ≡ false → up_to_host n p before ≡ up_to_host (suc n) p (g ∷ before)
    past h = ap (λ (xs : List ℕ). xs ++ 0 ∷ []) (sym (above_later n p g before h))

    found : eqb q (suc n) ≡ true → (t : Bool) → eqb p q ≡ t
        → (any (eqb p) (up_to_host n g.parent before) ≡ true → from_on p (up_to_host n g.parent before) ≡ up_to_host n p before)
        → any (eqb p) (q ∷ up_to_host n g.parent before) ≡ true
        → from_on p (q ∷ up_to_host n g.parent before) ≡ up_to_host (suc n) p (g ∷ before)
    found h true r up m =
        from_on_here p q _ r
        ∙ ap (λ (k : ℕ). k ∷ up_to_host n g.parent before) (sym (eqb-true p q r))
        ∙ ap (λ (xs : List ℕ). xs ++ 0 ∷ []) (sym (above_here n p g before (eq-eqb p (suc n) (eqb-true p q r ∙ eqb-true q (suc n) h))))
    found h false r up m =
        from_on_later p q _ r
        ∙ up (any_later p q _ r m)
        ∙ past (ne_eqb p (suc n) (λ x. eqb-false p q r (x ∙ sym (eqb-true q (suc n) h))))

    go : (t : Bool) → eqb q (suc n) ≡ t
        → (any (eqb p) (up_to_host n g.parent before) ≡ true → from_on p (up_to_host n g.parent before) ≡ up_to_host n p before)
        → (any (eqb p) (up_to_host n q before) ≡ true → from_on p (up_to_host n q before) ≡ up_to_host n p before)
        → from_on p (up_to_host (suc n) q (g ∷ before)) ≡ up_to_host (suc n) p (g ∷ before)
    go true h up on =
        let a = above_here n q g before h in
        ap (λ (xs : List ℕ). from_on p (xs ++ 0 ∷ [])) a
        ∙ found h (eqb p q) refl up (sym (ap (λ (xs : List ℕ). any (eqb p) (xs ++ 0 ∷ [])) a) ∙ e)
    go false h up on =
        let a = above_later n q g before h in
        let m = sym (ap (λ (xs : List ℕ). any (eqb p) (xs ++ 0 ∷ [])) a) ∙ e in
        let l = le_of_any n p (up_to_host n q before) (le_up_to_host n q before) m in
        ap (λ (xs : List ℕ). from_on p (xs ++ 0 ∷ [])) a ∙ on m ∙ past (ne_eqb p (suc n) (λ x. omega arith))

-- ---- those that may be parents

pub parents_bridge : (n : ℕ) (g : Function) (before : List Function)
    → is_bridge g ≡ true → parents (suc n) (g ∷ before) ≡ suc n ∷ up_to_host n g.parent before
unfolding parents
parents_bridge n g before e = rw e

pub parents_end : (n : ℕ) (g : Function) (before : List Function)
    → is_bridge g ≡ false → parents (suc n) (g ∷ before) ≡ up_to_host n g.parent before
unfolding parents
parents_end n g before e = rw e

-- what may be a parent still, once p is one: p, the bridges above it, and the host
pub from_on_parents : (n p : ℕ) (before : List Function) → any (eqb p) (parents n before) ≡ true → from_on p (parents n before)
    ≡ up_to_host n p before
unfolding parents above
from_on_parents zero p before e = from_on_host p e
from_on_parents (suc n) p [] e = from_on_host p e
from_on_parents (suc n) p (g ∷ before) e = go (is_bridge g) refl
  where
    past : p ≤ n → up_to_host n p before ≡ up_to_host (suc n) p (g ∷ before)
    past l = ap (λ (xs : List ℕ). xs ++ 0 ∷ []) (sym (above_later n p g before (ne_eqb p (suc n) (λ x. omega arith))))

    deeper : any (eqb p) (up_to_host n g.parent before) ≡ true
        → from_on p (up_to_host n g.parent before) ≡ up_to_host (suc n) p (g ∷ before)
    deeper m =
        from_on_up_to_host n g.parent p before m
        ∙ past (le_of_any n p (up_to_host n g.parent before) (le_up_to_host n g.parent before) m)

    found : (t : Bool) → eqb p (suc n) ≡ t → any (eqb p) (suc n ∷ up_to_host n g.parent before) ≡ true
        → from_on p (suc n ∷ up_to_host n g.parent before) ≡ up_to_host (suc n) p (g ∷ before)
    found true r m =
        from_on_here p (suc n) _ r
        ∙ ap (λ (k : ℕ). k ∷ up_to_host n g.parent before) (sym (eqb-true p (suc n) r))
        ∙ ap (λ (xs : List ℕ). xs ++ 0 ∷ []) (sym (above_here n p g before r))
    found false r m = from_on_later p (suc n) _ r ∙ deeper (any_later p (suc n) _ r m)

    go : (t : Bool) → is_bridge g ≡ t → from_on p (parents (suc n) (g ∷ before)) ≡ up_to_host (suc n) p (g ∷ before)
    go true b =
        ap (from_on p) (parents_bridge n g before b)
        ∙ found (eqb p (suc n)) refl (sym (ap (any (eqb p)) (parents_bridge n g before b)) ∙ e)
    go false b =
        ap (from_on p) (parents_end n g before b) ∙ deeper (sym (ap (any (eqb p)) (parents_end n g before b)) ∙ e)

pub le_of_parent : (n p : ℕ) (before : List Function) → any (eqb p) (parents n before) ≡ true → p ≤ n
unfolding parents
le_of_parent zero p before e = le_of_any 0 p (0 ∷ []) (omega arith, tt) e
le_of_parent (suc n) p [] e = le_of_any (suc n) p (0 ∷ []) (omega arith, tt) e
le_of_parent (suc n) p (g ∷ before) e = le_of_any (suc n) p (parents (suc n) (g ∷ before)) (go (is_bridge g) refl) e
  where
    later : All (λ b. b ≤ suc n) (up_to_host n g.parent before)
    later = all_imp (λ b. b ≤ n) (λ b. b ≤ suc n) (up_to_host n g.parent before) (le_up_to_host n g.parent before) (λ b l. omega arith)

    go : (t : Bool) → is_bridge g ≡ t → All (λ b. b ≤ suc n) (parents (suc n) (g ∷ before))
    go true b = rw (parents_bridge n g before b) (omega arith, later)
    go false b = rw (parents_end n g before b) later
