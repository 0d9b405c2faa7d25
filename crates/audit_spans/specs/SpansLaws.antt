-- One range more among the spans, in the words of the code. Assumes nothing.
use Rattle.std.specs.Prelude.{◌≡◌, ◌⊎◌, Bool, true, false, ◌&&◌, ℕ, suc, ◌+◌, ◌*◌, ◌≤◌, ◌<◌, eqb, leb, length, get_or, set}
use Rattle.std.proofs.Math.Path.{refl, subst}
use Rattle.std.proofs.Common.{sym, ◌∙◌, inl, inr, true≢false, arith, get_or-set_other, eqb-true, eq-eqb, leb-false}
use Rattle.std.proofs.Math.Bool.{and-eq-true_iff}
use mathlib.Core.List.{List, [], ◌∷◌, flat_map}
use Rattle.std.proofs.lemmas.Bool.{eqb-false}
use Rattle.lists.specs.ListLaws.{all_imp}
use Rattle.sheet.specs.Sheet.{entries_of}
use Rattle.sheet_ranges.specs.declared.Item.{Item}
use Rattle.sheet_ranges.specs.Items.{item_at}
use Rattle.sheet_ranges.specs.ItemsLaws.{stored, stored_is}
use Rattle.audit_rule.specs.Audit.{not_disjoint}
use Rattle.audit_rising.specs.Rising.{Spot, spot, Beside, Clear}
use Rattle.audit_rising.specs.Spots.{spots_of}
use Rattle.audit_rising.specs.SpotsLaws.{disjoint_of_clear}
use Rattle.audit_spans.specs.Spans.{span_of, Free, Spread, Held, Grown}

-- ## Which spans it meets

-- the span at i, told by a test
pub beside_test : (xs : List ℕ) (i key first last : ℕ)
    → (eqb (get_or xs (3 * i) 0) key && (leb (get_or xs (3 * i + 1) 0) last && leb first (get_or xs (3 * i + 2) 0))) ≡ false
    → Beside (span_of (item_at xs i)) (spot key first last true)
beside_test xs i key first last e same = go (leb a last) (leb first b) refl refl meets
  where
    a : ℕ
    a = get_or xs (3 * i + 1) 0

    b : ℕ
    b = get_or xs (3 * i + 2) 0

    meets : (leb a last && leb first b) ≡ false
    meets = rw (eq-eqb (get_or xs (3 * i) 0) key same) at e

    go : (p q : Bool) → leb a last ≡ p → leb first b ≡ q → (p && q) ≡ false → (suc b ≤ first) ⊎ (suc last ≤ a)
    go false q f g n = inr (leb-false a last f)
    go true false f g n = inl (leb-false first b g)
    go true true f g n = absurd (true≢false n)

pub free_none : (xs : List ℕ) (y : Spot) → Free xs 0 y
free_none xs y i h = absurd (omega (arith, h))

pub free_turn : (xs : List ℕ) (n : ℕ) (y : Spot) → Free xs n y → Beside (span_of (item_at xs n)) y → Free xs (n + 1) y
free_turn xs n y f b i h = go (eqb i n) refl
  where
    go : (t : Bool) → eqb i n ≡ t → Beside (span_of (item_at xs i)) y
    go true e = subst (λ (j : ℕ). Beside (span_of (item_at xs j)) y) (sym (eqb-true i n e)) b
    go false e = f i (omega (arith, h, eqb-false i n e))

-- the key of one that it touches, told by a test
pub key_test : (a key : ℕ) (b : Bool) → (eqb a key && b) ≡ true → a ≡ key
key_test a key b e = eqb-true a key ((and-eq-true_iff (eqb a key) b).0 e).0

-- ## A range taken

pub held_one : (xs : List ℕ) (n : ℕ) (us : List ℕ) (m : ℕ) (x : Spot) → x.told ≡ true → Free xs n x → Grown xs n x us m
    → Held xs n (x ∷ []) us m
unfolding Spread Grown
held_one xs n us m x told free grown ys s = (
  (all_imp _ (Clear x) ys s.1 (λ y p. (told, p.0, (grown y p.1).1)), s.0),
  ((told, free), all_imp _ _ ys s.1 (λ y p. (p.0, (grown y p.1).0))),
)

-- what is beside a span is beside all in it
in_span : (key lo hi k first last : ℕ) (y : Spot) → k ≡ key → lo ≤ first → last ≤ hi → Beside (spot key lo hi true) y
    → Beside (spot k first last true) y
in_span key lo hi k first last y e a b beside same = go (beside (sym e ∙ same))
  where
    go : (suc hi ≤ y.start) ⊎ (y.stop ≤ lo) → (suc last ≤ y.start) ⊎ (y.stop ≤ first)
    go (inl h) = inl (omega arith)
    go (inr h) = inr (omega arith)

module _ (xs : List ℕ) (i : ℕ) (x : Item) (fits : 3 * i + 3 ≤ length xs) where
  number_other : (k : ℕ) → (k ≡ 3 * i → ⊥) → (k ≡ 3 * i + 1 → ⊥) → (k ≡ 3 * i + 2 → ⊥) → get_or (stored xs i x) k 0 ≡ get_or xs k 0
  number_other k a b c =
      get_or-set_other (set (set xs (3 * i) x.pool) (3 * i + 1) x.first) (3 * i + 2) k x.last 0 c
      ∙ get_or-set_other (set xs (3 * i) x.pool) (3 * i + 1) k x.first 0 b
      ∙ get_or-set_other xs (3 * i) k x.pool 0 a

  item_other : (j : ℕ) → (j ≡ i → ⊥) → item_at (stored xs i x) j ≡ item_at xs j
  item_other j d = λ t. record { pool = p t; first = f t; last = l t }
    where
      p : get_or (stored xs i x) (3 * j) 0 ≡ get_or xs (3 * j) 0
      p = number_other (3 * j) (λ e. d (omega arith)) (λ e. omega arith) (λ e. omega arith)

      f : get_or (stored xs i x) (3 * j + 1) 0 ≡ get_or xs (3 * j + 1) 0
      f = number_other (3 * j + 1) (λ e. omega arith) (λ e. d (omega arith)) (λ e. omega arith)

      l : get_or (stored xs i x) (3 * j + 2) 0 ≡ get_or xs (3 * j + 2) 0
      l = number_other (3 * j + 2) (λ e. omega arith) (λ e. omega arith) (λ e. d (omega arith))

  abbrev us : List ℕ
  us = stored xs i x

  beside_stored : (m : ℕ) (y : Spot) → i < m → Free us m y → Beside (span_of x) y
  beside_stored m y h f = subst (λ (z : Item). Beside (span_of z) y) (stored_is xs i x fits) (f i h)

  beside_other : (m : ℕ) (y : Spot) → Free us m y → (j : ℕ) → j < m → (j ≡ i → ⊥) → Beside (span_of (item_at xs j)) y
  beside_other m y f j h d = subst (λ (z : Item). Beside (span_of z) y) (item_other j d) (f j h)

-- ## In the words of the code: us is what is stored

-- a span of its own
pub grown_put : (xs : List ℕ) (n key first last : ℕ) → 3 * n + 3 ≤ length xs → (us : List ℕ)
    → us ≡ stored xs n (record { pool = key; first = first; last = last }) → Grown xs n (spot key first last true) us (n + 1)
unfolding Grown
grown_put xs n key first last fits us e y f = (
  λ j h. beside_other xs n (record { pool = key; first = first; last = last }) fits (n + 1) y new j (omega arith) (λ q. omega arith),
  beside_stored xs n (record { pool = key; first = first; last = last }) fits (n + 1) y (omega arith) new,
)
  where
    new : Free (stored xs n (record { pool = key; first = first; last = last })) (n + 1) y
    new = subst (λ (vs : List ℕ). Free vs (n + 1) y) e f

-- the span at i, widened from lo to hi
module _ (xs : List ℕ) (n i key first last lo hi : ℕ) (fits : 3 * i + 3 ≤ length xs) (inside : i < n) (own : get_or xs (3 * i) 0 ≡ key)
    (a : lo ≤ get_or xs (3 * i + 1) 0) (b : lo ≤ first) (c : get_or xs (3 * i + 2) 0 ≤ hi) (d : last ≤ hi) where
  pub grown_wide : (us : List ℕ) → us ≡ stored xs i (record { pool = key; first = lo; last = hi })
      → Grown xs n (spot key first last true) us n
  unfolding Grown
  grown_wide us e y f = (λ j h. go j h (eqb j i) refl, in_span key lo hi key first last y refl b d wide)
    where
      new : Free (stored xs i (record { pool = key; first = lo; last = hi })) n y
      new = subst (λ (vs : List ℕ). Free vs n y) e f

      wide : Beside (spot key lo hi true) y
      wide = beside_stored xs i (record { pool = key; first = lo; last = hi }) fits n y inside new

      go : (j : ℕ) → j < n → (t : Bool) → eqb j i ≡ t → Beside (span_of (item_at xs j)) y
      go j h true q =
          subst (λ (k : ℕ). Beside (span_of (item_at xs k)) y) (sym (eqb-true j i q))
          (in_span key lo hi (get_or xs (3 * i) 0) (get_or xs (3 * i + 1) 0) (get_or xs (3 * i + 2) 0) y own a c wide)
      go j h false q = beside_other xs i (record { pool = key; first = lo; last = hi }) fits n y new j h (eqb-false j i q)

-- ## All of them

pub spread_none : (xs : List ℕ) (n : ℕ) → Spread (xs, n) []
unfolding Spread
spread_none xs n = (tt, tt)

pub ranges_told : (s xs : List ℕ) (n : ℕ) → Spread (xs, n) (flat_map spots_of (entries_of s)) → not_disjoint (entries_of s) ≡ false
unfolding Spread
ranges_told s xs n r = disjoint_of_clear (entries_of s) r.0
