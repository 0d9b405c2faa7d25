-- The open buses tell 23 as document 01 does: `first_unplaced` from the host's bus on is `first_misplaced`. Assumes nothing.
use Rattle.std.specs.Prelude.{◌≡◌, refl, Bool, true, false, cond, not, ◌&&◌, ◌||◌, List, [], ◌∷◌, map, ℕ, suc, ◌/◌, ◌≤◌, ◌<◌, length, drop, eqb, ltb}
use Rattle.std.proofs.Common.{sym, ap, ap₂, ◌∙◌, arith, length-append, eqb-true, eq-eqb, ne_eqb, ltb-false}
use Rattle.std.proofs.lemmas.Bool.{false≢true, eqb-false}
use Rattle.std.proofs.lemmas.List.{length-map}
use Rattle.std.proofs.Math.Dec.{eqb-zero-suc, eqb-suc-suc}
use Rattle.lists.specs.Lists.{All, any}
use Rattle.records.specs.Limits.{most_above}
use Rattle.board_record.specs.declared.Function.{Function}
use Rattle.board_record.specs.Function.{is_bridge}
use Rattle.board_order.specs.Order.{above, parents, last_sibling, is_shared, is_function_zero, has_function_zero, misplaced}
use Rattle.board_order.specs.Order.{first_misplaced}
use Rattle.board_order.specs.OrderLaws.{Placed, placed_of_not_misplaced, Ordered, up_to_host, lt_up_to_host, from_on, from_on_none}
use Rattle.board_order.specs.OrderLaws.{from_on_parents, le_of_parent, parents_bridge, parents_end}
use Rattle.board_order.specs.Stack.{Level, fresh, close_to, unplaced_at, unplaced, entered, opened, enter, shared_after}
use Rattle.board_order.specs.Stack.{first_unplaced}

-- ---- what the records before say of a bus

-- one more than the device of its last shared function 0
unfoldable pub last_shared : ℕ → List Function → ℕ
last_shared p [] = 0
last_shared p (g ∷ before) = let earlier = last_shared p before in cond (eqb g.parent p) (shared_after earlier g) earlier

abbrev pub level_of : List Function → ℕ → Level
level_of before b = record { bus = b; next = last_sibling b before; shared = last_shared b before }

abbrev pub levels : List Function → List Level
levels before = map (level_of before) (parents (length before) before)

module _ (b : ℕ) (g : Function) (before : List Function) where
  level_same : eqb g.parent b ≡ true → level_of (g ∷ before) b ≡ entered g (level_of before b)
  unfolding last_sibling last_shared
  level_same e = rw e

  level_other : eqb g.parent b ≡ false → level_of (g ∷ before) b ≡ level_of before b
  unfolding last_sibling last_shared
  level_other e = rw e

-- a record that comes later is nobody's parent yet
level_fresh : (b : ℕ) (before : List Function) → Ordered before → length before < b → level_of before b ≡ fresh b
unfolding last_sibling last_shared
level_fresh b [] o h = refl
level_fresh b (g ∷ before) o h =
    level_other b g before
    (ne_eqb g.parent b (λ x. omega (arith, le_of_parent (length before) g.parent before o.0.parent_open)))
    ∙ level_fresh b before o.1 (omega arith)

close_to_levels : (p : ℕ) (before : List Function) (bs : List ℕ)
    → close_to p (map (level_of before) bs) ≡ map (level_of before) (from_on p bs)
unfolding close_to from_on
close_to_levels p before [] = refl
close_to_levels p before (b ∷ bs) = go (eqb p b) refl (close_to_levels p before bs)
  where
    go : (t : Bool) → eqb p b ≡ t → close_to p (map (level_of before) bs) ≡ map (level_of before) (from_on p bs)
        → close_to p (map (level_of before) (b ∷ bs)) ≡ map (level_of before) (from_on p (b ∷ bs))
    go true e on = rw e
    go false e on = rw e on

-- ---- function 0: among rising siblings only the last shared one can be of the last device

zero_test : (p d : ℕ) (g : Function) (before : List Function) (a b c : Bool) → eqb g.parent p ≡ a → eqb (g.devfn / 8) d ≡ b
    → is_shared g ≡ c
    → any (is_function_zero p d) (g ∷ before) ≡ (a && b && c || any (is_function_zero p d) before)
unfolding any
zero_test p d g before a b c e h k = rw (e, h, k)

sibling_same : (p : ℕ) (g : Function) (before : List Function) → eqb g.parent p ≡ true → last_sibling p (g ∷ before) ≡ suc g.devfn
sibling_same p g before e = ap (λ (l : Level). l.next) (level_same p g before e)

sibling_other : (p : ℕ) (g : Function) (before : List Function) → eqb g.parent p ≡ false → last_sibling p (g ∷ before)
    ≡ last_sibling p before
sibling_other p g before e = ap (λ (l : Level). l.next) (level_other p g before e)

-- none of a device above all siblings
no_zero : (p d y : ℕ) (before : List Function) → Ordered before → last_sibling p before ≤ y → y / 8 < d
    → any (is_function_zero p d) before ≡ false
unfolding any
no_zero p d y [] o l h = refl
no_zero p d y (g ∷ before) o l h = go (eqb g.parent p) refl (no_zero p d y before o.1)
  where
    go : (t : Bool) → eqb g.parent p ≡ t → (last_sibling p before ≤ y → y / 8 < d → any (is_function_zero p d) before ≡ false)
        → any (is_function_zero p d) (g ∷ before) ≡ false
    go true e on =
        let s : suc g.devfn ≤ y = omega (arith, sibling_same p g before e) in
        let r : last_sibling p before ≤ g.devfn = rw (eqb-true g.parent p e) at o.0.rising in
        zero_test p d g before true false (is_shared g) e (ne_eqb (g.devfn / 8) d (λ x. omega arith)) refl ∙ on (omega arith) h
    go false e on =
        zero_test p d g before false (eqb (g.devfn / 8) d) (is_shared g) e refl refl ∙ on (omega (arith, sibling_other p g before e)) h

last_zero : (p x : ℕ) (before : List Function) → Ordered before → last_sibling p before ≤ x
    → any (is_function_zero p (x / 8)) before ≡ eqb (last_shared p before) (suc (x / 8))
unfolding any last_shared
last_zero p x [] o l = sym (eqb-zero-suc (x / 8))
last_zero p x (g ∷ before) o l = go (eqb g.parent p) refl (last_zero p x before o.1)
  where
    same : eqb g.parent p ≡ true → (b c : Bool) → eqb (g.devfn / 8) (x / 8) ≡ b → is_shared g ≡ c
        → (last_sibling p before ≤ x → any (is_function_zero p (x / 8)) before ≡ eqb (last_shared p before) (suc (x / 8)))
        → any (is_function_zero p (x / 8)) (g ∷ before) ≡ eqb (shared_after (last_shared p before) g) (suc (x / 8))
    same e true true h k on = zero_test p (x / 8) g before true true true e h k ∙ sym (rw (k, eqb-suc-suc (g.devfn / 8) (x / 8), h))
    same e false true h k on =
        let s : suc g.devfn ≤ x = omega (arith, sibling_same p g before e) in
        let r : last_sibling p before ≤ g.devfn = rw (eqb-true g.parent p e) at o.0.rising in
        zero_test p (x / 8) g before true false true e h k
        ∙ no_zero p (x / 8) g.devfn before o.1 r (omega (arith, eqb-false (g.devfn / 8) (x / 8) h))
        ∙ sym (rw (k, eqb-suc-suc (g.devfn / 8) (x / 8), h))
    same e true false h k on =
        let s : suc g.devfn ≤ x = omega (arith, sibling_same p g before e) in
        let r : last_sibling p before ≤ g.devfn = rw (eqb-true g.parent p e) at o.0.rising in
        zero_test p (x / 8) g before true true false e h k ∙ on (omega arith) ∙ sym (rw k)
    same e false false h k on =
        let s : suc g.devfn ≤ x = omega (arith, sibling_same p g before e) in
        let r : last_sibling p before ≤ g.devfn = rw (eqb-true g.parent p e) at o.0.rising in
        zero_test p (x / 8) g before true false false e h k ∙ on (omega arith) ∙ sym (rw k)

    go : (t : Bool) → eqb g.parent p ≡ t
        → (last_sibling p before ≤ x → any (is_function_zero p (x / 8)) before ≡ eqb (last_shared p before) (suc (x / 8)))
        → any (is_function_zero p (x / 8)) (g ∷ before) ≡ eqb (last_shared p (g ∷ before)) (suc (x / 8))
    go true e on = same e (eqb (g.devfn / 8) (x / 8)) (is_shared g) refl refl on ∙ sym (rw e)
    go false e on =
        zero_test p (x / 8) g before false (eqb (g.devfn / 8) (x / 8)) (is_shared g) e refl refl
        ∙ on (omega (arith, sibling_other p g before e)) ∙ sym (rw e)

-- ---- one function

-- the buses above p's, the host's among them
abbrev pub outer : ℕ → List Function → List ℕ
outer p before = drop 1 (up_to_host (length before) p before)

from_on_cons : (p : ℕ) (xs : List ℕ) → any (eqb p) xs ≡ true → from_on p xs ≡ p ∷ drop 1 (from_on p xs)
unfolding any from_on
from_on_cons p [] e = absurd (false≢true e)
from_on_cons p (x ∷ xs) e = go (eqb p x) refl e (from_on_cons p xs)
  where
    go : (t : Bool) → eqb p x ≡ t → (t || any (eqb p) xs) ≡ true → (any (eqb p) xs ≡ true → from_on p xs ≡ p ∷ drop 1 (from_on p xs))
        → from_on p (x ∷ xs) ≡ p ∷ drop 1 (from_on p (x ∷ xs))
    go true h e on = rw h (ap (λ (k : ℕ). k ∷ xs) (sym (eqb-true p x h)))
    go false h e on = rw h (on e)

module _ (p : ℕ) (before : List Function) (e : any (eqb p) (parents (length before) before) ≡ true) where
  pub up_cons : up_to_host (length before) p before ≡ p ∷ outer p before
  up_cons =
      let u = from_on_parents (length before) p before e in
      sym u ∙ from_on_cons p (parents (length before) before) e ∙ ap (λ (xs : List ℕ). p ∷ drop 1 xs) u

  close_to_open : close_to p (levels before) ≡ level_of before p ∷ map (level_of before) (outer p before)
  close_to_open =
      close_to_levels p before (parents (length before) before)
      ∙ ap (map (level_of before)) (from_on_parents (length before) p before e ∙ up_cons)

  length_outer : length (map (level_of before) (outer p before)) ≡ length (above (length before) p before)
  length_outer =
      length-map (outer p before) (level_of before)
      ∙ omega (arith, ap length up_cons, length-append (above (length before) p before) (0 ∷ []))

-- the deepest open bus tells whether a function is misplaced
unplaced_agree : (before : List Function) (f : Function) → Ordered before
    → unplaced (close_to f.parent (levels before)) f ≡ misplaced (length before) before f
unfolding misplaced
unplaced_agree before f o = go (any (eqb f.parent) (parents (length before) before)) refl
  where
    judged : (r : Bool) → ltb f.devfn (last_sibling f.parent before) ≡ r → (depth : ℕ)
        → unplaced_at (last_sibling f.parent before) (last_shared f.parent before) depth f
        ≡ (r || ltb most_above depth || not (has_function_zero before f))
    judged true e depth = rw e
    judged false e depth = rw (e, last_zero f.parent f.devfn before o (ltb-false f.devfn (last_sibling f.parent before) e))

    go : (t : Bool) → any (eqb f.parent) (parents (length before) before) ≡ t
        → unplaced (close_to f.parent (levels before)) f ≡ misplaced (length before) before f
    go true e =
        ap (λ (ls : List Level). unplaced ls f) (close_to_open f.parent before e)
        ∙ judged (ltb f.devfn (last_sibling f.parent before)) refl (length (map (level_of before) (outer f.parent before)))
        ∙ rw (length_outer f.parent before e, e)
    go false e =
        ap (λ (ls : List Level). unplaced ls f)
        (close_to_levels f.parent before (parents (length before) before)
        ∙ ap (map (level_of before)) (from_on_none f.parent (parents (length before) before) e))
        ∙ rw e

-- a function in its place leaves the open buses as the records then say
enter_levels : (before : List Function) (f : Function) → Ordered before → Placed (length before) before f
    → enter (suc (length before)) f (close_to f.parent (levels before)) ≡ levels (f ∷ before)
enter_levels before f o h =
    ap (enter (suc n) f) (close_to_open p before h.parent_open) ∙ go (is_bridge f) refl
  where
    n : ℕ
    n = length before

    p : ℕ
    p = f.parent

    others : (bs : List ℕ) → All (λ b. b < f.parent) bs → map (level_of (f ∷ before)) bs ≡ map (level_of before) bs
    others [] a = refl
    others (b ∷ bs) a = ap₂ ◌∷◌ (level_other b f before (ne_eqb f.parent b (λ x. omega (arith, a.0)))) (others bs a.1)

    kept : map (level_of (f ∷ before)) (up_to_host (length before) f.parent before)
        ≡ entered f (level_of before f.parent) ∷ map (level_of before) (outer f.parent before)
    kept =
        ap (map (level_of (f ∷ before))) (up_cons f.parent before h.parent_open)
        ∙ ap₂ ◌∷◌ (level_same f.parent f before (eq-eqb f.parent f.parent refl))
        (others (outer f.parent before) (lt_up_to_host (length before) f.parent before))

    new : level_of (f ∷ before) (suc (length before)) ≡ fresh (suc (length before))
    new =
        level_other (suc (length before)) f before
        (ne_eqb f.parent (suc (length before)) (λ x. omega (arith, le_of_parent (length before) f.parent before h.parent_open)))
        ∙ level_fresh (suc (length before)) before o (omega arith)

    go : (t : Bool) → is_bridge f ≡ t
        → opened (suc (length before)) f (entered f (level_of before f.parent) ∷ map (level_of before) (outer f.parent before))
        ≡ levels (f ∷ before)
    go true e = rw e (sym (ap (map (level_of (f ∷ before))) (parents_bridge (length before) f before e) ∙ ap₂ ◌∷◌ new kept))
    go false e = rw e (sym (ap (map (level_of (f ∷ before))) (parents_end (length before) f before e) ∙ kept))

-- ---- all functions

first_unplaced_agree : (fs before : List Function) → Ordered before
    → first_unplaced (length before) (levels before) fs ≡ first_misplaced (length before) before fs
unfolding first_unplaced first_misplaced
first_unplaced_agree [] before o = refl
first_unplaced_agree (f ∷ fs) before o = go (misplaced (length before) before f) refl (first_unplaced_agree fs (f ∷ before))
  where
    go : (t : Bool) → misplaced (length before) before f ≡ t
        → (Ordered (f ∷ before) → first_unplaced (suc (length before)) (levels (f ∷ before)) fs
        ≡ first_misplaced (suc (length before)) (f ∷ before) fs)
        → first_unplaced (length before) (levels before) (f ∷ fs) ≡ first_misplaced (length before) before (f ∷ fs)
    go true e on = rw (unplaced_agree before f o, e)
    go false e on =
        let h = placed_of_not_misplaced (length before) before f e in
        rw (unplaced_agree before f o, e, enter_levels before f o h) (on (h, o))

-- from the host's bus on
pub first_unplaced_host : (fs : List Function) → first_unplaced 0 (fresh 0 ∷ []) fs ≡ first_misplaced 0 [] fs
unfolding parents last_sibling last_shared
first_unplaced_host fs = first_unplaced_agree fs [] tt
