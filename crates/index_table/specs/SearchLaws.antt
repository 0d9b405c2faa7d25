-- The search's loops in their words; and on keys in order what it finds is the last that is not above the address. Assumes nothing.
use Rattle.std.specs.Prelude.{◌≡◌, ℕ, zero, suc, ◌+◌, ◌-◌, ◌*◌, ◌/◌, ◌%◌, ◌<◌, ◌≤◌, Bool, true, false, cond, ltb, leb, ◌⊎◌, nat_le, nat_lt}
use Rattle.std.proofs.Math.Path.{refl}
use Rattle.std.proofs.Common.{ap, ap₂, ◌∙◌, inl, inr}
use native.Mathlib.Omega.{arith}
use borrow.Author.Tests.{leb-true, leb-false, ltb-true, ltb-false, le-leb, lt-leb, lt-ltb, le-ltb}
use Rattle.index_layout.specs.Keys.{no_key}
use Rattle.index_table.specs.Search.{cut, count_from, onward, last_in, Last}
use Rattle.index_table.specs.TableLaws.{Leads}

-- ---- a key, without a branch

pub cut_small : (a k : ℕ) → k ≤ 9223372036854775808 → cut a k ≡ k
unfolding cut
cut_small a k h = let e : ltb (a + 9223372036854775808) k ≡ false = le-ltb (a + 9223372036854775808) k (omega (arith, h)) in rw e refl

pub bit_leb : (r k a : ℕ) → (r + k) % 18446744073709551616 ≡ a + 9223372036854775808 → r < 18446744073709551616 → k < 18446744073709551616
    → a < no_key → r / 9223372036854775808 ≡ cond (nat_le (cut a k) a) 1 0
unfolding cut
bit_leb r k a w f h l = go (nat_lt (a + 9223372036854775808) k) refl
  where
    near : (t : Bool) → nat_le k a ≡ t → k ≤ a + 9223372036854775808 → r / 9223372036854775808 ≡ cond t 1 0
    near true e g = let d = leb-true k a e in omega (arith, d, g, w, f, h, l)
    near false e g = let d = leb-false k a e in omega (arith, d, g, w, f, h, l)

    go : (t : Bool) → nat_lt (a + 9223372036854775808) k ≡ t → r / 9223372036854775808 ≡ cond (nat_le (cond t 0 k) a) 1 0
    go true e =
        let d = ltb-true (a + 9223372036854775808) k e in
        let z : leb 0 a ≡ true = le-leb 0 a (omega arith) in
        rw z (omega (arith, d, w, f, h, l))
    go false e = near (nat_le k a) refl (ltb-false (a + 9223372036854775808) k e)

-- ---- the count's turns

pub count_start : (k : ℕ) (key : ℕ → ℕ) (a from : ℕ) → 0 + count_from (k - 0) key a (from + 0 + 1) ≡ count_from k key a (from + 1)
count_start k key a from =
    let d : k - 0 ≡ k = omega arith in
    let z : from + 0 + 1 ≡ from + 1 = omega arith in
    let y : 0 + count_from (k - 0) key a (from + 0 + 1) ≡ count_from (k - 0) key a (from + 0 + 1) = omega arith in
    y ∙ rw (d, z) refl

pub count_turn : {r : ℕ} (k : ℕ) (key : ℕ → ℕ) (a from i c : ℕ) → i < k → r ≡ cond (nat_le (key (from + i + 1)) a) 1 0
    → c + r + count_from (k - (i + 1)) key a (from + (i + 1) + 1) ≡ c + count_from (k - i) key a (from + i + 1)
unfolding count_from
count_turn {r} k key a from i c h e =
    let d : k - i ≡ suc (k - (i + 1)) = omega arith in
    let z : from + (i + 1) + 1 ≡ from + i + 1 + 1 = omega arith in
    rw (d, z, ← e) (omega arith)

pub count_end : (k : ℕ) (key : ℕ → ℕ) (a from i c : ℕ) → k ≤ i → c + count_from (k - i) key a (from + i + 1) ≡ c
unfolding count_from
count_end k key a from i c h = let d : k - i ≡ 0 = omega arith in rw d (omega arith)

-- ---- the quartering's turns

pub onward_times : {r s t : ℕ} (key : ℕ → ℕ) (a lo q : ℕ) → r ≡ cond (nat_le (key (lo + q)) a) 1 0
    → s ≡ cond (nat_le (key (lo + 2 * q)) a) 1 0 → t ≡ cond (nat_le (key (lo + 3 * q)) a) 1 0 → lo + q * (r + s + t) ≡ onward key a lo q
unfolding onward
onward_times key a lo q d e f = rw (d, e, f)

pub onward_le : (key : ℕ → ℕ) (a lo q : ℕ) → onward key a lo q ≤ lo + 3 * q
unfolding onward
onward_le key a lo q = go (nat_le (key (lo + q)) a) (nat_le (key (lo + 2 * q)) a) (nat_le (key (lo + 3 * q)) a)
  where
    go : (r s t : Bool) → lo + q * (cond r 1 0 + cond s 1 0 + cond t 1 0) ≤ lo + 3 * q
    go true true true = omega arith
    go true true false = omega arith
    go true false true = omega arith
    go true false false = omega arith
    go false true true = omega arith
    go false true false = omega arith
    go false false true = omega arith
    go false false false = omega arith

-- quartering ends by itself: more turns allowed change nothing
enough : (f g : ℕ) (key : ℕ → ℕ) (a lo k : ℕ) → k ≤ f → k ≤ g → last_in f key a lo k ≡ last_in g key a lo k
unfolding last_in
enough zero zero key a lo k h l = refl
enough zero (suc g) key a lo k h l = let e : ltb 16 k ≡ false = le-ltb 16 k (omega (arith, h)) in rw e
enough (suc f) zero key a lo k h l = let e : ltb 16 k ≡ false = le-ltb 16 k (omega (arith, l)) in rw e
enough (suc f) (suc g) key a lo k h l =
    go (nat_lt 16 k) refl
    (λ many. enough f g key a (onward key a lo (k / 4)) (k - 3 * (k / 4)) (omega (arith, h, many)) (omega (arith, l, many)))
  where
    next : ℕ
    next = onward key a lo (k / 4)

    go : (t : Bool) → nat_lt 16 k ≡ t
        → (16 < k → last_in f key a next (k - 3 * (k / 4)) ≡ last_in g key a next (k - 3 * (k / 4)))
        → cond t (last_in f key a next (k - 3 * (k / 4))) (lo + count_from k key a (lo + 1))
        ≡ cond t (last_in g key a next (k - 3 * (k / 4))) (lo + count_from k key a (lo + 1))
    go true e on = on (ltb-true 16 k e)
    go false e on = refl

pub last_turn : {r : ℕ} (key : ℕ → ℕ) (a lo k : ℕ) → 16 < k → r ≡ onward key a lo (k / 4)
    → last_in (k - 3 * (k / 4)) key a r (k - 3 * (k / 4)) ≡ last_in k key a lo k
unfolding last_in
last_turn key a lo zero h e = absurd (omega (arith, h))
last_turn {r} key a lo (suc k) h e =
    let t : ltb 16 (suc k) ≡ true = lt-ltb 16 (suc k) h in
    rw (t, ← e) (enough (suc k - 3 * (suc k / 4)) k key a r (suc k - 3 * (suc k / 4)) (omega arith) (omega arith))

pub last_end : {r : ℕ} (key : ℕ → ℕ) (a lo k : ℕ) → k ≤ 16 → r ≡ lo + count_from k key a (lo + 1) → r ≡ last_in k key a lo k
unfolding last_in
last_end key a lo zero h e = e
last_end key a lo (suc k) h e = let t : ltb 16 (suc k) ≡ false = le-ltb 16 (suc k) h in e ∙ rw t

-- ---- on keys in order

abbrev pub Rises : (ℕ → ℕ) → ℕ → Type 0
Rises key m = (i j : ℕ) → i ≤ j → j < m → key i ≤ key j

count_none : (key : ℕ → ℕ) (a k i : ℕ) → ((q : ℕ) → i ≤ q → q < i + k → a < key q) → count_from k key a i ≡ 0
unfolding count_from
count_none key a zero i above = refl
count_none key a (suc k) i above =
    let first : leb (key i) a ≡ false = lt-leb (key i) a (above i (omega arith) (omega arith)) in
    let rest = count_none key a k (i + 1) (λ q h l. above q (omega arith) (omega arith)) in
    rw first (omega (arith, rest))

module _ (key : ℕ → ℕ) (m a : ℕ) (rises : Rises key m) where
  pub count_last : (k lo : ℕ) → lo + k < m → key lo ≤ a → ((q : ℕ) → lo + k < q → q < m → a < key q)
      → Last key m a (lo + count_from k key a (lo + 1))
  unfolding count_from
  count_last zero lo fits low high =
      let z : lo + 0 ≡ lo = omega arith in
      rw z (record { inside = omega arith; not_above = low; then_above = λ q h l. high q (omega arith) l })
  count_last (suc k) lo fits low high =
      go (nat_le (key (lo + 1)) a) refl
      (λ low2. count_last k (lo + 1) (omega arith) low2 (λ q h l. high q (omega arith) l))
    where
      go : (t : Bool) → nat_le (key (lo + 1)) a ≡ t
          → (key (lo + 1) ≤ a → Last key m a (lo + 1 + count_from k key a (lo + 1 + 1)))
          → Last key m a (lo + (cond t 1 0 + count_from k key a (lo + 1 + 1)))
      go true e on =
          let z : lo + (1 + count_from k key a (lo + 1 + 1)) ≡ lo + 1 + count_from k key a (lo + 1 + 1) = omega arith in
          rw z (on (leb-true (key (lo + 1)) a e))
      go false e on =
          let l = leb-false (key (lo + 1)) a e in
          let above : (q : ℕ) → lo < q → q < m → a < key q = λ q h i. let r = rises (lo + 1) q (omega arith) i in omega (arith, l, r) in
          let none : count_from k key a (lo + 1 + 1) ≡ 0 =
          count_none key a k (lo + 1 + 1) (λ q h i. above q (omega arith) (omega (arith, fits))) in
          let z : lo + (0 + count_from k key a (lo + 1 + 1)) ≡ lo = omega (arith, none) in
          rw z (record { inside = omega arith; not_above = low; then_above = above })

  -- where a search goes on: the key there is not above the address, and q positions behind it one is
  onward_in : (k lo : ℕ) → lo + k < m → key lo ≤ a → ((q : ℕ) → lo + k < q → q < m → a < key q)
      → (key (onward key a lo (k / 4)) ≤ a)
      × ((q : ℕ) → onward key a lo (k / 4) + (k - 3 * (k / 4)) < q → q < m → a < key q)
  unfolding onward
  onward_in k lo fits low high =
      go (nat_le (key (lo + k / 4)) a) (nat_le (key (lo + 2 * (k / 4))) a) (nat_le (key (lo + 3 * (k / 4))) a) refl refl refl
    where
      step : ℕ
      step = k / 4

      -- i runs past
      at : (i n : ℕ) → lo + step * i ≡ n → key n ≤ a → ((q : ℕ) → n + (k - 3 * step) < q → q < m → a < key q)
          → (key (lo + step * i) ≤ a) × ((q : ℕ) → lo + step * i + (k - 3 * step) < q → q < m → a < key q)
      at i n e l h = rw e (l, h)

      past : (n : ℕ) → n < m → nat_le (key n) a ≡ false → (q : ℕ) → n ≤ q → q < m → a < key q
      past n f e q h l = let above = leb-false (key n) a e in omega (arith, above, rises n q h l)

      clash : {A : Type 0} (n o : ℕ) → n ≤ o → o < m → nat_le (key n) a ≡ false → nat_le (key o) a ≡ true → A
      clash n o h l e f = absurd (omega (arith, leb-false (key n) a e, leb-true (key o) a f, rises n o h l))

      go : (r s t : Bool) → nat_le (key (lo + step)) a ≡ r → nat_le (key (lo + 2 * step)) a ≡ s → nat_le (key (lo + 3 * step)) a ≡ t
          → (key (lo + step * (cond r 1 0 + cond s 1 0 + cond t 1 0)) ≤ a)
          × ((q : ℕ) → lo + step * (cond r 1 0 + cond s 1 0 + cond t 1 0) + (k - 3 * step) < q → q < m → a < key q)
      go true true true d e f =
          at 3 (lo + 3 * step) (omega arith) (leb-true (key (lo + 3 * step)) a f) (λ q h l. high q (omega (arith, h)) l)
      go true true false d e f =
          at 2 (lo + 2 * step) (omega arith) (leb-true (key (lo + 2 * step)) a e)
          (λ q h l. past (lo + 3 * step) (omega (arith, fits)) f q (omega (arith, h)) l)
      go true false false d e f =
          at 1 (lo + step) (omega arith) (leb-true (key (lo + step)) a d)
          (λ q h l. past (lo + 2 * step) (omega (arith, fits)) e q (omega (arith, h)) l)
      go false false false d e f =
          at 0 lo (omega arith) low (λ q h l. past (lo + step) (omega (arith, fits)) d q (omega (arith, h)) l)
      go false true t d e f = clash (lo + step) (lo + 2 * step) (omega arith) (omega (arith, fits)) d e
      go false false true d e f = clash (lo + step) (lo + 3 * step) (omega arith) (omega (arith, fits)) d f
      go true false true d e f = clash (lo + 2 * step) (lo + 3 * step) (omega arith) (omega (arith, fits)) e f

  pub in_last : (f k lo : ℕ) → lo + k < m → key lo ≤ a → ((q : ℕ) → lo + k < q → q < m → a < key q) → Last key m a (last_in f key a lo k)
  unfolding last_in
  in_last zero k lo fits low high = count_last k lo fits low high
  in_last (suc f) k lo fits low high = go (nat_lt 16 k) (in_last f (k - 3 * (k / 4)) next)
    where
      next : ℕ
      next = onward key a lo (k / 4)

      there : (key next ≤ a) × ((q : ℕ) → next + (k - 3 * (k / 4)) < q → q < m → a < key q)
      there = onward_in k lo fits low high

      go : (s : Bool)
          → (next + (k - 3 * (k / 4)) < m → key next ≤ a → ((q : ℕ) → next + (k - 3 * (k / 4)) < q → q < m → a < key q)
          → Last key m a (last_in f key a next (k - 3 * (k / 4))))
          → Last key m a (cond s (last_in f key a next (k - 3 * (k / 4))) (lo + count_from k key a (lo + 1)))
      go true on = on (omega (arith, fits, onward_le key a lo (k / 4))) there.0 there.1
      go false on = count_last k lo fits low high

-- any way of sharing keys out among buckets will do, if greater keys are in no earlier bucket
module _ (key bucket : ℕ → ℕ) (m a : ℕ) (rises : Rises key m) (monotone : (x y : ℕ) → x ≤ y → bucket x ≤ bucket y) where
  pub bucket_last : (f k t : ℕ) → Leads key bucket m k (bucket a) t → Last key m a (last_in f key a t k)
  bucket_last f k t l = in_last key m a rises f k t l.fits (low l.before) high
    where
      low : (key t ≡ 0) ⊎ (bucket (key t) < bucket a) → key t ≤ a
      low (inl e) = omega (arith, e)
      low (inr b) = go (nat_le (key t) a) refl
        where
          go : (c : Bool) → nat_le (key t) a ≡ c → key t ≤ a
          go true e = leb-true (key t) a e
          go false e = let f = leb-false (key t) a e in absurd (omega (arith, b, monotone a (key t) (omega (arith, f))))

      high : (q : ℕ) → t + k < q → q < m → a < key q
      high q h i = go (nat_le (key q) a) refl
        where
          go : (c : Bool) → nat_le (key q) a ≡ c → a < key q
          go true e = absurd (omega (arith, l.after q h i, monotone (key q) a (leb-true (key q) a e)))
          go false e = let f = leb-false (key q) a e in omega (arith, f)

-- keys that are the same where they are looked at
count_agree : (k : ℕ) (key line : ℕ → ℕ) (a i : ℕ) → ((j : ℕ) → i ≤ j → j < i + k → key j ≡ line j)
    → count_from k key a i ≡ count_from k line a i
unfolding count_from
count_agree zero key line a i h = refl
count_agree (suc k) key line a i h =
    ap₂ (λ (x y : ℕ). cond (nat_le x a) 1 0 + y) (h i (omega arith) (omega arith))
    (count_agree k key line a (i + 1) (λ j p q. h j (omega arith) (omega arith)))

onward_agree : (key line : ℕ → ℕ) (a lo q : ℕ) → ((j : ℕ) → lo ≤ j → j ≤ lo + 3 * q → key j ≡ line j)
    → onward key a lo q ≡ onward line a lo q
unfolding onward
onward_agree key line a lo q h =
    rw (h (lo + q) (omega arith) (omega arith), h (lo + 2 * q) (omega arith) (omega arith), h (lo + 3 * q) (omega arith) (omega arith))

onward_ge : (key : ℕ → ℕ) (a lo q : ℕ) → lo ≤ onward key a lo q
unfolding onward
onward_ge key a lo q = omega arith

pub last_agree : (f : ℕ) (key line : ℕ → ℕ) (a lo k : ℕ) → ((j : ℕ) → lo ≤ j → j ≤ lo + k → key j ≡ line j)
    → last_in f key a lo k ≡ last_in f line a lo k
unfolding last_in
last_agree zero key line a lo k h = ap (λ (c : ℕ). lo + c) (count_agree k key line a (lo + 1) (λ j p q. h j (omega arith) (omega arith)))
last_agree (suc f) key line a lo k h =
    go (nat_lt 16 k)
    (last_agree f key line a next (k - 3 * (k / 4))
    (λ j u v. h j (omega (arith, u, onward_ge key a lo (k / 4))) (omega (arith, v, onward_le key a lo (k / 4)))))
  where
    next : ℕ
    next = onward key a lo (k / 4)

    same : next ≡ onward line a lo (k / 4)
    same = onward_agree key line a lo (k / 4) (λ j p q. h j p (omega (arith, q)))

    go : (s : Bool) → last_in f key a next (k - 3 * (k / 4)) ≡ last_in f line a next (k - 3 * (k / 4))
        → cond s (last_in f key a next (k - 3 * (k / 4))) (lo + count_from k key a (lo + 1))
        ≡ cond s (last_in f line a (onward line a lo (k / 4)) (k - 3 * (k / 4))) (lo + count_from k line a (lo + 1))
    go true on = on ∙ ap (λ (n : ℕ). last_in f line a n (k - 3 * (k / 4))) same
    go false on = ap (λ (c : ℕ). lo + c) (count_agree k key line a (lo + 1) (λ j p q. h j (omega arith) (omega arith)))
