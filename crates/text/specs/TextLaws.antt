-- Texts put one after the other, and how the digits of a number go on. Assumes nothing.
use Rattle.std.specs.Prelude.{◌≡◌, refl, ℕ, zero, suc, ◌+◌, ◌-◌, ◌*◌, ◌/◌, ◌%◌, ◌≤◌, ◌<◌, min, Bool, true, false, cond, List, [], ◌∷◌, ◌++◌, length, get_or, take, drop, set, ltb, leb}
use Rattle.std.proofs.Common.{sym, ap, ◌∙◌, zero-add, add-zero, add-one, arith, length-append, length-take, take-suc, take-append-drop, lt-ltb, le-ltb, ltb-true, ltb-false, leb-true, leb-false}
use Rattle.std.proofs.Math.Nat.{min-eq_left, min-eq_right, div-div-eq-div-mul}
use Rattle.std.proofs.lemmas.List.Edits.{sets, sets-eq}
use Rattle.std.proofs.Math.Seq.{set_out, length-sets}
use Rattle.endian.specs.SetsLaws.{sets_sets, sets_comm}
use Rattle.text.specs.Text.{Put, ascii, digit, hexadecimal, decimal_over, decimal, refusal_text}

-- stores past the end change nothing
sets_out : (o : List ℕ) (i : ℕ) (vs : List ℕ) → length o ≤ i → sets o i vs ≡ o
sets_out o i [] h = refl
sets_out o i (v ∷ vs) h = rw (set_out o i v h) (sets_out o (suc i) vs (omega arith))

-- stores from the end on are stores from any place past it
pub sets_min : (o : List ℕ) (i : ℕ) (vs : List ℕ) → sets o (min i (length o)) vs ≡ sets o i vs
sets_min o i vs = go (leb i (length o)) refl
  where
    go : (b : Bool) → leb i (length o) ≡ b → sets o (min i (length o)) vs ≡ sets o i vs
    go true e = ap (λ (k : ℕ). sets o k vs) (min-eq_left (leb-true _ _ e))
    go false e =
        let h : length o ≤ i = omega (arith, leb-false i (length o) e) in
        ap (λ (k : ℕ). sets o k vs) (min-eq_right h) ∙ sets_out o (length o) vs (omega arith) ∙ sym (sets_out o i vs h)

-- a text put leaves as many bytes
pub put_length : {o o₁ vs : List ℕ} {at r : ℕ} → Put o at vs o₁ r → length o₁ ≡ length o
put_length {o} {o₁} {vs} {at} p = ap length p.stored ∙ length-sets o at vs

-- a text put at the place after another
pub put_append : {o o₁ o₂ vs ws : List ℕ} {at r₁ r₂ : ℕ} → Put o at vs o₁ r₁ → Put o₁ r₁ ws o₂ r₂ → Put o at (vs ++ ws) o₂ r₂
put_append {o} {o₁} {o₂} {vs} {ws} {at} {r₁} {r₂} p q =
    let l : length o₁ ≡ length o = put_length p in
    let e : r₁ ≡ min (at + length vs) (length o₁) = omega arith in
    record {
      stored = q.stored ∙ ap (λ (k : ℕ). sets o₁ k ws) e ∙ sets_min o₁ (at + length vs) ws ∙ rw p.stored (sets_sets o at vs ws);
      place = simp length-append (omega arith);
    }

-- a text that fits from the start on is put whole, and what follows it stays
pub put_whole : {o text after : List ℕ} {r : ℕ} → length text ≤ length o → Put o 0 text after r
    → (r ≡ length text) × (after ≡ text ++ drop (length text) o)
put_whole {o} {text} {after} {r} h p = (
  omega (arith, p.place),
  p.stored ∙ sets-eq text o 0 (omega arith) ∙ ap (λ (k : ℕ). text ++ drop k o) (zero-add (length text)),
)

-- a text copied byte by byte: one more
pub copied_more : (o text : List ℕ) (start i : ℕ) → i < length text
    → set (sets o start (take i text)) (start + i) (get_or text i 0) ≡ sets o start (take (i + 1) text)
copied_more o text start i h =
    let b = get_or text i 0 ∷ [] in
    let l : start + i ≡ start + length (take i text) = omega (arith, length-take i text) in
    ap (λ (k : ℕ). sets (sets o start (take i text)) k b) l
    ∙ sets_sets o start (take i text) b
    ∙ ap (sets o start) (sym (ap (λ (k : ℕ). take k text) (add-one i) ∙ take-suc text i 0 h))

-- stores that pass the end, of which only the first fit
sets_cut : (o : List ℕ) (i : ℕ) (vs : List ℕ) → i ≤ length o → length o ≤ i + length vs → sets o i (take (length o - i) vs) ≡ sets o i vs
sets_cut o i vs h l =
    let k = length o - i in
    let a = take k vs in
    let n : length a ≡ k = omega (arith, length-take k vs) in
    let out : length (sets o i a) ≤ i + length a = omega (arith, length-sets o i a) in
    sym (ap (sets o i) (sym (take-append-drop k vs)) ∙ sym (sets_sets o i a (drop k vs)) ∙ sets_out (sets o i a) (i + length a) (drop k vs) out)

module _ {o text after : List ℕ} {at start : ℕ} (p : Put o at [] o start) where
  -- a text copied to the place where it goes
  pub put_copied : start + length text ≤ length o → after ≡ sets o start text → Put o at text after (start + length text)
  put_copied h e = put_append p (record { stored = e; place = omega arith })

  -- and one that passes the end: what fits of it
  pub put_cut : start ≤ length o → length o - start ≤ length text → after ≡ sets o start (take (length o - start) text)
      → Put o at text after (length after)
  put_cut h l e =
      let s : after ≡ sets o start text = e ∙ sets_cut o start text h (omega arith) in
      put_append p (record { stored = s; place = rw s (omega (arith, length-sets o start text)) })

-- the last hexadecimal digit, and those in front of it
pub hexadecimal_more : (width n : ℕ) → (width ≡ 0 → ⊥) → hexadecimal width n ≡ hexadecimal (width - 1) (n / 16) ++ (digit (n % 16) ∷ [])
unfolding hexadecimal
hexadecimal_more zero n h = absurd (h refl)
hexadecimal_more (suc width) n h = let e : suc width - 1 ≡ width = omega arith in rw e

-- any bound above n does for its digits
enough : (j k n : ℕ) → n < j → n < k → decimal_over j n ≡ decimal_over k n
unfolding decimal_over
enough zero k n p q = absurd (omega arith)
enough (suc j) zero n p q = absurd (omega arith)
enough (suc j) (suc k) n p q = go (ltb n 10) refl (λ h. enough j k (n / 10) (omega arith) (omega arith))
  where
    go : (b : Bool) → ltb n 10 ≡ b → (10 ≤ n → decimal_over j (n / 10) ≡ decimal_over k (n / 10)) → decimal_over (suc j) n
        ≡ decimal_over (suc k) n
    go true e more = rw e
    go false e more = rw e (ap (λ (r : List ℕ). r ++ (digit (n % 10) ∷ [])) (more (ltb-false _ _ e)))

-- a number of one digit, and the last digit of a longer one with those in front of it
pub decimal_one : (n : ℕ) → n < 10 → decimal n ≡ digit n ∷ []
unfolding decimal decimal_over
decimal_one n h = ap (λ (b : Bool). cond b (digit n ∷ []) (decimal_over n (n / 10) ++ (digit (n % 10) ∷ []))) (lt-ltb n 10 h)

pub decimal_more : (n : ℕ) → 10 ≤ n → decimal n ≡ decimal (n / 10) ++ (digit (n % 10) ∷ [])
unfolding decimal decimal_over
decimal_more n h =
    ap (λ (b : Bool). cond b (digit n ∷ []) (decimal_over n (n / 10) ++ (digit (n % 10) ∷ []))) (le-ltb n 10 h)
    ∙ ap (λ (r : List ℕ). r ++ (digit (n % 10) ∷ [])) (enough n (suc (n / 10)) (n / 10) (omega arith) (omega arith))

-- ## How many digits

one_more : (n : ℕ) → 10 ≤ n → length (decimal n) ≡ length (decimal (n / 10)) + 1
one_more n h = ap length (decimal_more n h) ∙ length-append (decimal (n / 10)) (digit (n % 10) ∷ [])

-- 10 to the power d
unfoldable pub tens : ℕ → ℕ
tens zero = 1
tens (suc d) = 10 * tens d

tens_positive : (d : ℕ) → 0 < tens d
unfolding tens
tens_positive zero = omega arith
tens_positive (suc d) = omega (arith, tens_positive d)

pub one_digit : (n : ℕ) → n < 10 → 1 ≡ length (decimal n)
one_digit n h = sym (ap length (decimal_one n h))

some_digit : (n : ℕ) → 0 < length (decimal n)
some_digit n = go (ltb n 10) refl
  where
    go : (b : Bool) → ltb n 10 ≡ b → 0 < length (decimal n)
    go true e = omega (arith, one_digit n (ltb-true n 10 e))
    go false e = omega (arith, one_more n (ltb-false n 10 e))

-- how many digits say whether there is more than one
pub one_of_digits : (n : ℕ) → length (decimal n) ≤ 1 → n < 10
one_of_digits n h = go (ltb n 10) refl
  where
    go : (b : Bool) → ltb n 10 ≡ b → n < 10
    go true e = ltb-true n 10 e
    go false e = absurd (omega (arith, one_more n (ltb-false n 10 e), some_digit (n / 10)))

pub more_of_digits : (n : ℕ) → 1 < length (decimal n) → 10 ≤ n
more_of_digits n h = go (ltb n 10) refl
  where
    go : (b : Bool) → ltb n 10 ≡ b → 10 ≤ n
    go true e = absurd (omega (arith, one_digit n (ltb-true n 10 e)))
    go false e = ltb-false n 10 e

-- a number from 10 to the power d on, and below ten times that
pub digits_between : (d n : ℕ) → tens d ≤ n → n < tens (suc d) → suc d ≡ length (decimal n)
unfolding tens
digits_between zero n low high = one_digit n (omega arith)
digits_between (suc d) n low high =
    omega (arith, one_more n (omega (arith, tens_positive d)), digits_between d (n / 10) (omega arith) (omega arith))

-- k digits more
digits_more : (k n : ℕ) → tens k ≤ n → length (decimal n) ≡ length (decimal (n / tens k)) + k
unfolding tens
digits_more zero n h = let e : n ≡ n / 1 = omega arith in ap (λ (m : ℕ). length (decimal m)) e ∙ sym (add-zero _)
digits_more (suc k) n h =
    let t = tens_positive k in
    let e : n / 10 / tens k ≡ n / (10 * tens k) = div-div-eq-div-mul n 10 (tens k) in
    omega (
      arith,
      one_more n (omega arith),
      digits_more k (n / 10) (omega arith),
      ap (λ (m : ℕ). length (decimal m)) e,
    )

pub eight_more : (n : ℕ) → 100000000 ≤ n → length (decimal n) ≡ length (decimal (n / 100000000)) + 8
unfolding tens
eight_more n h = digits_more 8 n h

-- below 10 to the power d + 1
pub digits_le : (d n : ℕ) → n < tens (suc d) → length (decimal n) ≤ suc d
unfolding tens
digits_le zero n h = omega (arith, one_digit n (omega arith))
digits_le (suc d) n h = go (ltb n 10) refl (digits_le d (n / 10) (omega arith))
  where
    go : (b : Bool) → ltb n 10 ≡ b → length (decimal (n / 10)) ≤ suc d → length (decimal n) ≤ suc (suc d)
    go true e on = omega (arith, one_digit n (ltb-true n 10 e))
    go false e on = omega (arith, one_more n (ltb-false n 10 e), on)

pub three_digits : (n : ℕ) → n < 1000 → length (decimal n) ≤ 3
unfolding tens
three_digits n h = digits_le 2 n h

pub refusal_short : (n : ℕ) → n < 1000 → length (refusal_text n) ≤ 12
unfolding refusal_text ascii
refusal_short n few =
    let word : List ℕ = ascii "refused " in
    omega (arith, length-append (word ++ decimal n) (ascii "\n"), length-append word (decimal n), three_digits n few)

-- ## Digits stored from the last on

module _ (o : List ℕ) (start left : ℕ) (more : 10 ≤ left) where
  -- the last digit stands where those in front of it end
  pub last_place : start + length (decimal left) ≡ start + length (decimal (left / 10)) + 1
  last_place = omega (arith, one_more left more)

  pub last_stored : sets (set o (start + length (decimal (left / 10))) (digit (left % 10))) start (decimal (left / 10))
      ≡ sets o start (decimal left)
  last_stored =
      let front = decimal (left / 10) in
      sym
      (ap (sets o start) (decimal_more left more)
      ∙ sym (sets_sets o start front (digit (left % 10) ∷ []))
      ∙ sets_comm o start front (start + length front) (digit (left % 10) ∷ []) (omega arith))

pub first_stored : (o : List ℕ) (start left : ℕ) → left < 10 → set o start (digit left) ≡ sets o start (decimal left)
first_stored o start left h = ap (sets o start) (sym (decimal_one left h))
