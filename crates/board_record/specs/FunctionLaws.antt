-- What a function record whose header type passed its check keeps, and both checks of one function by what the code looks at. Assumes
-- nothing.
use Rattle.std.specs.Prelude.{◌≡◌, Bool, cond, not, ◌&&◌, ◌||◌, List, [], ◌∷◌, set, take, drop, eqb}
use Rattle.std.proofs.Math.Path.{refl}
use Rattle.std.proofs.Common.{sym, ap, ap₂, ◌∙◌, true≢false, arith, add-one, drop_of_length-le, drop-cons}
use Rattle.std.proofs.Math.Bool.{true, false, and-true, and-false, and-eq-true_iff}
use Prim.Native.Nat.{ℕ, zero, suc, ◌+◌, ◌*◌, ◌≤◌, ◌<◌}
use Rattle.std.proofs.Math.ListN.{length, get_or, get_or-eq_default}
use Rattle.std.proofs.lemmas.List.Edits.{sets}
use Rattle.std.proofs.Math.Dec.{leb}
use borrow.Author.Tests.{eqb-true, ne_eqb, not-false, leb-true, leb-false}
use Rattle.arith.specs.BoolLaws.{false_of_or}
use Rattle.endian.specs.Endian.{be}
use Rattle.bar.specs.Bar.{slots, any_bad}
use Rattle.bar.specs.Header.{header_type, is_bridge as is_bridge_header, slot_count as slot_count_for}
use Rattle.board_record.specs.Function.{bridge_length, length_for, readbacks_for, spares_for, function_of_part, wrong_for, wrong_in}
use Rattle.board_record.specs.Function.{header_wrong, is_bridge, slot_count, end_length, plain_bridge, bridge_with_spares, spares_at}
use Rattle.board_record.specs.Function.{readbacks_wrong}

pub length_of_version : (version : ℕ) (p : List ℕ) → wrong_in version p ≡ false → length p ≡ length_for version (get_or p 3 0)
unfolding wrong_in
length_of_version version p e =
    let header = get_or p 3 0 in
    let right = eqb (length p) (length_for version header) in
    let tests = false_of_or (not (eqb (header_type header) 0) && not (is_bridge_header header)) (not right) e in
    eqb-true (length p) (length_for version header) (not-false right tests.1)

-- a record of some version has 30 bytes, or is a bridge of 14 or 17
header_elim : {P : Type 0} (p : List ℕ) → header_wrong p ≡ false → (is_bridge_header (get_or p 3 0) ≡ false → length p ≡ end_length → P)
    → (is_bridge_header (get_or p 3 0) ≡ true → length p ≡ plain_bridge → P)
    → (is_bridge_header (get_or p 3 0) ≡ true → length p ≡ bridge_with_spares → P) → P
unfolding header_wrong
header_elim {P} p e other first second = either (wrong_in 1 p) (wrong_in 2 p) refl refl e
  where
    in_first : wrong_in 1 p ≡ false → (t : Bool) → is_bridge_header (get_or p 3 0) ≡ t → P
    in_first w true b = first b (rw b at (length_of_version 1 p w))
    in_first w false b = other b (rw b at (length_of_version 1 p w))

    in_second : wrong_in 2 p ≡ false → (t : Bool) → is_bridge_header (get_or p 3 0) ≡ t → P
    in_second w true b = second b (rw b at (length_of_version 2 p w))
    in_second w false b = other b (rw b at (length_of_version 2 p w))

    either : (s t : Bool) → wrong_in 1 p ≡ s → wrong_in 2 p ≡ t → s && t ≡ false → P
    either false t w u h = in_first w (is_bridge_header (get_or p 3 0)) refl
    either true false w u h = in_second u (is_bridge_header (get_or p 3 0)) refl
    either true true w u h = absurd (true≢false h)

pub length_of_end : (p : List ℕ) → header_wrong p ≡ false → is_bridge_header (get_or p 3 0) ≡ false → length p ≡ end_length
length_of_end p e b =
    header_elim p e (λ _ l. l) (λ t _. absurd (true≢false (sym t ∙ b))) (λ t _. absurd (true≢false (sym t ∙ b)))

pub le_length : (p : List ℕ) → header_wrong p ≡ false → plain_bridge ≤ length p
le_length p e = header_elim p e (λ _ l. omega arith) (λ _ l. omega arith) (λ _ l. omega arith)

pub length_le : (p : List ℕ) → header_wrong p ≡ false → length p ≤ end_length
length_le p e = header_elim p e (λ _ l. omega arith) (λ _ l. omega arith) (λ _ l. omega arith)

-- what is right on a board of any version is a record of some version
pub right_of_version : (version : ℕ) (p : List ℕ) → wrong_in version p ≡ false → header_wrong p ≡ false
unfolding header_wrong wrong_in
right_of_version version p e = go (eqb version 1) refl
  where
    go : (t : Bool) → eqb version 1 ≡ t → header_wrong p ≡ false
    go true v = ap (λ (x : Bool). x && wrong_in 2 p) (rw v at e)
    go false v = ap (λ (x : Bool). wrong_in 1 p && x) (rw v at e) ∙ and-false (wrong_in 1 p)

-- ---- the spares

-- a record that ends before them has none
pub spares_none : (p : List ℕ) → length p ≤ spares_at → be 3 p spares_at ≡ 0
unfolding be
spares_none p h =
    let a : get_or p 14 0 ≡ 0 = get_or-eq_default p 0 {n = 14} (omega arith) in
    let b : get_or p 15 0 ≡ 0 = get_or-eq_default p 0 {n = 15} (omega arith) in
    let c : get_or p 16 0 ≡ 0 = get_or-eq_default p 0 {n = 16} (omega arith) in
    rw (a, b, c)

pub spares_bytes : (p : List ℕ) → be 3 p spares_at ≡ get_or p spares_at 0 * 65536 + be 2 p (spares_at + 1)
unfolding be
spares_bytes p = refl

-- in the words of the code
module _ (p : List ℕ) where
  pub spares_short : header_wrong p ≡ false → is_bridge_header (get_or p 3 0) ≡ true → length p < bridge_with_spares → 0 ≡ spares_for (get_or p 3 0) p
  spares_short e b l =
      rw b (sym (spares_none p (header_elim p e (λ t _. absurd (true≢false (sym b ∙ t))) (λ _ m. omega arith) (λ _ m. omega arith))))

  pub spares_whole : is_bridge_header (get_or p 3 0) ≡ true → get_or p spares_at 0 * 65536 + be 2 p (spares_at + 1) ≡ spares_for (get_or p 3 0) p
  spares_whole b = rw b (sym (spares_bytes p))

  pub spares_other : is_bridge_header (get_or p 3 0) ≡ false → 0 ≡ spares_for (get_or p 3 0) p
  spares_other b = rw b

module _ (p : List ℕ) where
  -- one byte of spare buses and two of spare memory, on a bridge
  pub spares_of_bridge : is_bridge_header (get_or p 3 0) ≡ true → (function_of_part p).spares ≡ be 3 p spares_at
  unfolding function_of_part
  spares_of_bridge b = rw b

  pub spares_of_end : is_bridge_header (get_or p 3 0) ≡ false → (function_of_part p).spares ≡ 0
  unfolding function_of_part
  spares_of_end b = rw b

-- a function record gives six read-backs
pub length_readbacks : (p : List ℕ) → length (function_of_part p).readbacks ≡ 6
unfolding function_of_part
length_readbacks p = go (is_bridge_header (get_or p 3 0))
  where
    go : (t : Bool)
        → length (cond t (be 4 p 6 ∷ be 4 p 10 ∷ 0 ∷ 0 ∷ 0 ∷ 0 ∷ [])
        (be 4 p 6 ∷ be 4 p 10 ∷ be 4 p 14 ∷ be 4 p 18 ∷ be 4 p 22 ∷ be 4 p 26 ∷ [])) ≡ 6
    go true = refl
    go false = refl

-- ---- 24 by length and type

pub header_wrong_short : (version : ℕ) (p : List ℕ) → length p < 4 → wrong_in version p ≡ true
unfolding wrong_in
header_wrong_short version p h =
    let d : get_or p 3 0 ≡ 0 = get_or-eq_default p 0 {n = 3} (omega arith) in
    rw (d, ne_eqb (length p) end_length (λ e. omega arith))

module _ (version n header : ℕ) where
  pub wrong_bridge : {k : ℕ} → k ≡ bridge_length version → is_bridge_header header ≡ true → wrong_for version n header ≡ not (eqb n k)
  wrong_bridge e h = rw (h, and-false (not (eqb (header_type header) 0)), e)

  pub wrong_end : is_bridge_header header ≡ false → wrong_for version n header ≡ (not (eqb (header_type header) 0) || not (eqb n end_length))
  wrong_end h = rw (h, and-true (not (eqb (header_type header) 0)))

-- ---- 25 by the slots

pub readbacks_wrong_lem : (p : List ℕ) (set : List ℕ) (n : ℕ) (r : Bool) → set ≡ readbacks_for (get_or p 3 0) p → n ≡ slot_count (function_of_part p)
    → r ≡ not (any_bad (slots (take n set))) → not r ≡ readbacks_wrong (function_of_part p)
unfolding readbacks_wrong function_of_part
readbacks_wrong_lem p set n r s e h =
    ap not h ∙ twice (any_bad (slots (take n set))) ∙ ap₂ (λ (k : ℕ) (l : List ℕ). any_bad (slots (take k l))) e s
  where
    twice : (t : Bool) → not (not t) ≡ t
    twice true = refl
    twice false = refl

-- ---- the read-backs one by one: a bridge has two

pub readback_none : (p : List ℕ) (j : ℕ) (b : Bool) → b ≡ is_bridge (function_of_part p) → leb 2 j && b ≡ true → j < 6
    → 0 ≡ get_or (function_of_part p).readbacks j 0
unfolding function_of_part
readback_none p j b q e h =
    let both = (and-eq-true_iff (leb 2 j) b).0 e in
    rw (sym q ∙ both.1) (zeros j (leb-true 2 j both.0) h)
  where
    zeros : (k : ℕ) → 2 ≤ k → k < 6 → 0 ≡ get_or (be 4 p 6 ∷ be 4 p 10 ∷ 0 ∷ 0 ∷ 0 ∷ 0 ∷ []) k 0
    zeros zero l u = absurd (omega arith)
    zeros (suc zero) l u = absurd (omega arith)
    zeros (suc (suc zero)) l u = refl
    zeros (suc (suc (suc zero))) l u = refl
    zeros (suc (suc (suc (suc zero)))) l u = refl
    zeros (suc (suc (suc (suc (suc zero))))) l u = refl
    zeros (suc (suc (suc (suc (suc (suc k)))))) l u = absurd (omega arith)

module _ (p : List ℕ) (j : ℕ) (b : Bool) (q : b ≡ is_bridge (function_of_part p)) (e : leb 2 j && b ≡ false) (h : j < 6) where
  pub readback_read : be 4 p (6 + 4 * j) ≡ get_or (function_of_part p).readbacks j 0
  unfolding function_of_part
  readback_read = go b q e
    where
      two : (k : ℕ) → k < 2 → be 4 p (6 + 4 * k) ≡ get_or (be 4 p 6 ∷ be 4 p 10 ∷ 0 ∷ 0 ∷ 0 ∷ 0 ∷ []) k 0
      two zero u = refl
      two (suc zero) u = refl
      two (suc (suc k)) u = absurd (omega arith)

      six : (k : ℕ) → k < 6 → be 4 p (6 + 4 * k) ≡ get_or (be 4 p 6 ∷ be 4 p 10 ∷ be 4 p 14 ∷ be 4 p 18 ∷ be 4 p 22 ∷ be 4 p 26 ∷ []) k 0
      six zero u = refl
      six (suc zero) u = refl
      six (suc (suc zero)) u = refl
      six (suc (suc (suc zero))) u = refl
      six (suc (suc (suc (suc zero)))) u = refl
      six (suc (suc (suc (suc (suc zero))))) u = refl
      six (suc (suc (suc (suc (suc (suc k)))))) u = absurd (omega arith)

      go : (t : Bool) → t ≡ is_bridge_header (get_or p 3 0) → leb 2 j && t ≡ false
          → be 4 p (6 + 4 * j) ≡ get_or (readbacks_for (get_or p 3 0) p) j 0
      go true s f = rw (sym s) (two j (leb-false 2 j (sym (and-true (leb 2 j)) ∙ f)))
      go false s f = rw (sym s) (six j h)

  pub readback_fits : header_wrong p ≡ false → 6 + 4 * j + 4 ≤ length p
  unfolding function_of_part
  readback_fits w = go b q e
    where
      go : (t : Bool) → t ≡ is_bridge_header (get_or p 3 0) → leb 2 j && t ≡ false → 6 + 4 * j + 4 ≤ length p
      go true s f = omega (arith, le_length p w, leb-false 2 j (sym (and-true (leb 2 j)) ∙ f))
      go false s f = omega (arith, length_of_end p w (sym s))

-- ---- the read-backs stored in a loop over those that count

-- those that count
abbrev pub counted_for : ℕ → List ℕ → List ℕ
counted_for header p =
    cond (is_bridge_header header)
    (be 4 p 6 ∷ be 4 p 10 ∷ [])
    (be 4 p 6 ∷ be 4 p 10 ∷ be 4 p 14 ∷ be 4 p 18 ∷ be 4 p 22 ∷ be 4 p 26 ∷ [])

module _ (header : ℕ) (p : List ℕ) where
  pub length_counted : length (counted_for header p) ≡ slot_count_for header
  length_counted = go (is_bridge_header header)
    where
      go : (t : Bool)
          → length (cond t (be 4 p 6 ∷ be 4 p 10 ∷ []) (be 4 p 6 ∷ be 4 p 10 ∷ be 4 p 14 ∷ be 4 p 18 ∷ be 4 p 22 ∷ be 4 p 26 ∷ []))
          ≡ cond t 2 6
      go true = refl
      go false = refl

  -- stored over zeros they are all six
  pub counted_start : sets (0 ∷ 0 ∷ 0 ∷ 0 ∷ 0 ∷ 0 ∷ []) 0 (counted_for header p) ≡ readbacks_for header p
  counted_start = go (is_bridge_header header)
    where
      go : (t : Bool)
          → sets (0 ∷ 0 ∷ 0 ∷ 0 ∷ 0 ∷ 0 ∷ []) 0
          (cond t (be 4 p 6 ∷ be 4 p 10 ∷ []) (be 4 p 6 ∷ be 4 p 10 ∷ be 4 p 14 ∷ be 4 p 18 ∷ be 4 p 22 ∷ be 4 p 26 ∷ []))
          ≡ cond t (be 4 p 6 ∷ be 4 p 10 ∷ 0 ∷ 0 ∷ 0 ∷ 0 ∷ [])
          (be 4 p 6 ∷ be 4 p 10 ∷ be 4 p 14 ∷ be 4 p 18 ∷ be 4 p 22 ∷ be 4 p 26 ∷ [])
      go true = refl
      go false = refl

  pub counted_read : (j : ℕ) → j < slot_count_for header → be 4 p (6 + 4 * j) ≡ get_or (counted_for header p) j 0
  counted_read j h = go (is_bridge_header header) h
    where
      two : (k : ℕ) → k < 2 → be 4 p (6 + 4 * k) ≡ get_or (be 4 p 6 ∷ be 4 p 10 ∷ []) k 0
      two zero u = refl
      two (suc zero) u = refl
      two (suc (suc k)) u = absurd (omega arith)

      six : (k : ℕ) → k < 6 → be 4 p (6 + 4 * k) ≡ get_or (be 4 p 6 ∷ be 4 p 10 ∷ be 4 p 14 ∷ be 4 p 18 ∷ be 4 p 22 ∷ be 4 p 26 ∷ []) k 0
      six zero u = refl
      six (suc zero) u = refl
      six (suc (suc zero)) u = refl
      six (suc (suc (suc zero))) u = refl
      six (suc (suc (suc (suc zero)))) u = refl
      six (suc (suc (suc (suc (suc zero))))) u = refl
      six (suc (suc (suc (suc (suc (suc k)))))) u = absurd (omega arith)

      go : (t : Bool) → j < cond t 2 6
          → be 4 p (6 + 4 * j)
          ≡ get_or (cond t (be 4 p 6 ∷ be 4 p 10 ∷ []) (be 4 p 6 ∷ be 4 p 10 ∷ be 4 p 14 ∷ be 4 p 18 ∷ be 4 p 22 ∷ be 4 p 26 ∷ [])) j 0
      go true u = two j u
      go false u = six j u

pub counted_fits : (p : List ℕ) (j : ℕ) → header_wrong p ≡ false → j < slot_count_for (get_or p 3 0) → 6 + 4 * j + 4 ≤ length p
counted_fits p j w = go (is_bridge_header (get_or p 3 0)) refl
  where
    go : (t : Bool) → is_bridge_header (get_or p 3 0) ≡ t → j < cond t 2 6 → 6 + 4 * j + 4 ≤ length p
    go true s u = omega (arith, le_length p w)
    go false s u = omega (arith, length_of_end p w s)

-- storing the rest of a list, one more of it stored, and all of it
module _ (o vs r : List ℕ) (j : ℕ) (e : sets o j (drop j vs) ≡ r) where
  pub rest_turn : {v : ℕ} → v ≡ get_or vs j 0 → j < length vs → sets (set o j v) (j + 1) (drop (j + 1) vs) ≡ r
  rest_turn q h =
      let more : drop j vs ≡ get_or vs j 0 ∷ drop (suc j) vs = drop-cons vs j 0 h in
      rw (q, add-one j) (rw more at e)

  pub rest_end : length vs ≤ j → o ≡ r
  rest_end h = rw (drop_of_length-le vs {i = j} h) at e
