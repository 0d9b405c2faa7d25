-- Six numbers, place by place, in the words of the code. Assumes nothing.
use Rattle.std.specs.Prelude.{ℕ, zero, suc, ◌<◌, ◌≤◌, ◌≡◌, refl, Bool, true, false, cond, ◌||◌, List, length, get_or, replicate, ltb, leb, eqb, Result, Ok, Err}
use Rattle.std.proofs.Common.{arith, sym, ap, subst, ◌∙◌, true≢false, lt-ltb, le-ltb, ltb-true, ltb-false, leb-true, eqb-true, ne_eqb}
use Rattle.std.proofs.Math.Bool.{or-false}
use Rattle.std.proofs.lemmas.List.Edits.{sets}
use Rattle.arith.specs.BoolLaws.{both_of_and}
use Rattle.endian.specs.Endian.{be_bytes}
use Rattle.endian.specs.SetsLaws.{sets_append}
use Rattle.trace.specs.declared.Trace.{Trace}
use Rattle.trace.specs.Annotated.{front_length}
use Rattle.trace_numbers.specs.Numbers.{numbers_of}
use Rattle.trace_numbers.specs.Parsing.{size, is_stage, is_state, state_at, head_at, Parsed, Accepted, Refused, trace_of, taken_as, number_in, state_in}

-- ## What the tests say

no_value : (v : ℕ) → (eqb v 0 || false || false) ≡ true → v ≡ 0
no_value v e = eqb-true v 0 (sym (or-false (eqb v 0)) ∙ sym (or-false (eqb v 0 || false)) ∙ e)

no_stage : (n v : ℕ) → 5 ≤ n → is_stage n v ≡ false
no_stage n v h = rw (le-ltb n 3 (omega arith), ne_eqb n 3 (λ e. omega arith), ne_eqb n 4 (λ e. omega arith))

-- the number of each stage, with its values
pub stage_elim : (P : ℕ → ℕ → Type 0) → P 0 0 → P 1 0 → P 2 0 → ((v : ℕ) → v ≤ 255 → P 3 v) → ((v : ℕ) → 0 < v → v ≤ 65535 → P 4 v)
    → (number value : ℕ) → is_stage number value ≡ true → P number value
stage_elim P start other between half inside zero v e = subst (P 0) (sym (no_value v e)) start
stage_elim P start other between half inside (suc zero) v e = subst (P 1) (sym (no_value v e)) other
stage_elim P start other between half inside (suc (suc zero)) v e = subst (P 2) (sym (no_value v e)) between
stage_elim P start other between half inside (suc (suc (suc zero))) v e = half v (leb-true v 255 (sym (or-false (leb v 255)) ∙ e))
stage_elim P start other between half inside (suc (suc (suc (suc zero)))) v e =
    let both = both_of_and (ltb 0 v) (leb v 65535) e in
    inside v (ltb-true 0 v both.0) (leb-true v 65535 both.1)
stage_elim P start other between half inside (suc (suc (suc (suc (suc n))))) v e =
    absurd (true≢false (sym e ∙ no_stage (suc (suc (suc (suc (suc n))))) v (omega arith)))

-- a length's first byte is a byte
pub byte_of_length : (number value : ℕ) → is_stage number value ≡ true → number ≡ 3 → value ≤ 255
byte_of_length =
    stage_elim (λ n v. n ≡ 3 → v ≤ 255) (λ e. omega arith) (λ e. omega arith) (λ e. omega arith) (λ v h e. h) (λ v low high e. omega arith)

-- past a length the stage is inside a record
pub record Inner (number value : ℕ) : Type 0 where
  pub last : number ≡ 4
  pub word : value ≤ 65535

pub inner_of_stage : (number value : ℕ) → is_stage number value ≡ true → 3 < number → Inner number value
inner_of_stage =
    stage_elim (λ n v. 3 < n → Inner n v) (λ h. absurd (omega arith)) (λ h. absurd (omega arith)) (λ h. absurd (omega arith))
    (λ v b h. absurd (omega arith))
    (λ v low high h. record { last = refl; word = high })

-- the two tests of a state
pub stage_of_state : (ns : List ℕ) → is_state ns ≡ true → is_stage (get_or ns 0 0) (get_or ns 1 0) ≡ true
unfolding is_state
stage_of_state ns e = (both_of_and (is_stage (get_or ns 0 0) (get_or ns 1 0)) (leb (get_or ns 3 0) front_length) e).0

pub kept_of_state : (ns : List ℕ) → is_state ns ≡ true → get_or ns 3 0 ≤ front_length
unfolding is_state
kept_of_state ns e =
    leb-true (get_or ns 3 0) front_length (both_of_and (is_stage (get_or ns 0 0) (get_or ns 1 0)) (leb (get_or ns 3 0) front_length) e).1

-- ## The six numbers

pub length_numbers_of : (t : Trace) → length (numbers_of t) ≡ size
unfolding numbers_of
length_numbers_of t = refl

-- ## The kept bytes

pub length_head_at : (first second : ℕ) → length (head_at first second) ≡ 16
unfolding head_at be_bytes
length_head_at first second = refl

-- two stores fill the front
pub head_stored : {o₁ o₂ : List ℕ} (first second : ℕ) → o₁ ≡ sets (replicate 16 0) 0 (be_bytes 8 first) → o₂ ≡ sets o₁ 8 (be_bytes 8 second)
    → o₂ ≡ head_at first second
unfolding head_at be_bytes
head_stored first second p q =
    sets_append (replicate 16 0) 0 8 (be_bytes 8 first) (be_bytes 8 second) refl p q

-- ## In order

module _ (ns : List ℕ) where
  pub too_few : length ns < size → Refused 11 ≡ trace_of ns
  unfolding trace_of
  too_few h = rw (lt-ltb (length ns) size h)

  module _ (enough : size ≤ length ns) where
    pub no_state : is_state ns ≡ false → Refused 10 ≡ trace_of ns
    unfolding trace_of
    no_state e = rw (le-ltb (length ns) size enough, e)

    pub some_state : is_state ns ≡ true → Accepted (state_at ns) ≡ trace_of ns
    unfolding trace_of
    some_state e = rw (le-ltb (length ns) size enough, e)

-- a test that stood between a refusal and a state
pub passed : (b : Bool) (n : ℕ) (q : Parsed) (t : Trace) → cond b (Refused n) q ≡ Accepted t → (b ≡ false) × (q ≡ Accepted t)
passed true n q t e = absurd (let z : ◌≡◌ {A = ℕ} 0 1 = cc in omega arith)
passed false n q t e = (refl, e)

pub enough_of_accepted : (ns : List ℕ) (t : Trace) → trace_of ns ≡ Accepted t → size ≤ length ns
unfolding trace_of
enough_of_accepted ns t e =
    ltb-false (length ns) size (passed (ltb (length ns) size) 11 (cond (is_state ns) (Accepted (state_at ns)) (Refused 10)) t e).0

-- ## What is answered

-- no refusal has the number 0
abbrev pub NumberedParsed : Parsed → Type 0
NumberedParsed (Accepted t) = Unit
NumberedParsed (Refused n) = 0 < n

pub numbered_trace_of : (ns : List ℕ) → NumberedParsed (trace_of ns)
unfolding trace_of
numbered_trace_of ns = go (ltb (length ns) size) (is_state ns)
  where
    go : (short state : Bool) → NumberedParsed (cond short (Refused 11) (cond state (Accepted (state_at ns)) (Refused 10)))
    go true state = omega arith
    go false true = tt
    go false false = omega arith

module _ (ns : List ℕ) where
  pub accepted_of_ok : (t : Trace) → Ok t ≡ taken_as (trace_of ns) → trace_of ns ≡ Accepted t
  accepted_of_ok t answered = go (trace_of ns) answered
    where
      go : (q : Parsed) → Ok t ≡ taken_as q → q ≡ Accepted t
      go (Accepted u) e = cc
      go (Refused n) e = cc

  pub refused_of_err : (n : ℕ) → Err n ≡ taken_as (trace_of ns) → trace_of ns ≡ Refused n
  refused_of_err n answered = go (trace_of ns) answered
    where
      go : (q : Parsed) → Err n ≡ taken_as q → q ≡ Refused n
      go (Accepted t) e = cc
      go (Refused m) e = cc

module _ (ns : List ℕ) (u : Result Trace ℕ) (answered : u ≡ taken_as (trace_of ns)) where
  pub accepted_of_zero : number_in u ≡ 0 → trace_of ns ≡ Accepted (state_in u)
  accepted_of_zero z = go (trace_of ns) (numbered_trace_of ns) answered
    where
      go : (q : Parsed) → NumberedParsed q → u ≡ taken_as q → q ≡ Accepted (state_in u)
      go (Accepted t) h e = ap (λ (x : Result Trace ℕ). Accepted (state_in x)) (sym e)
      go (Refused n) h e = absurd (omega (arith, h, z, ap number_in e))

  pub refused_of_number : ¬ (number_in u ≡ 0) → trace_of ns ≡ Refused (number_in u)
  refused_of_number other = go (trace_of ns) answered
    where
      go : (q : Parsed) → u ≡ taken_as q → q ≡ Refused (number_in u)
      go (Accepted t) e = absurd (other (ap number_in e))
      go (Refused n) e = ap (λ (x : Result Trace ℕ). Refused (number_in x)) (sym e)
