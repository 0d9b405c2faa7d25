-- A state within its bounds comes back from its numbers, numbers that are taken for a state are its numbers, and a state stays within its
-- bounds as it is fed, so that what a call left is taken by the next. Assumes nothing.
use Rattle.std.specs.Prelude.{ℕ, zero, suc, ◌+◌, ◌<◌, ◌≤◌, ◌≡◌, refl, Bool, true, false, cond, List, [], ◌∷◌, ◌++◌, length, get_or, take, drop, set, replicate, ltb, leb, eqb}
use Rattle.std.proofs.Common.{mod-eq_of_lt, arith, sym, ap, ap₂, ◌∙◌, length-drop, length-set, take-append-drop, take_all, leb-true, le-ltb, lt-ltb, le-leb}
use Rattle.std.proofs.Math.Bool.{or-false}
use Rattle.std.proofs.lemmas.Bool.{eqb-false}
use Rattle.arith.specs.BoolLaws.{both_of_and}
use Rattle.endian.specs.Endian.{Bytes, be, be_bytes}
use Rattle.endian.specs.EndianLaws.{be_append, be_append_add, be_be_bytes, be_bytes_be, length_be_bytes, bytes_be_bytes}
use Rattle.endian.specs.BytesLaws.{bytes_append, bytes_set}
use Rattle.records.specs.declared.frame.Stage.{Stage}
use Rattle.records.specs.declared.frame.Stage.TheVariants.{Start, Other, Between, Length, Inside}
use Rattle.records.specs.declared.frame.Event.{Event}
use Rattle.records.specs.declared.frame.Event.TheVariants.{Version, Foreign, Passed, Half, Begins, Byte}
use Rattle.records.specs.Frame.{version_of, event_of, inside_of, stage_after, stage_of, heard_of}
use Rattle.trace.specs.declared.Trace.{Trace}
use Rattle.trace.specs.Annotated.{front_length}
use Rattle.trace.specs.declared.Emits.{Emits}
use Rattle.trace.specs.declared.Emits.TheVariants.{Nothing, Refusal, Line}
use Rattle.trace.specs.Trace.{fresh, line_at, kept_after, head_after, Account, account_of, heard_by, state_of}
use Rattle.trace_numbers.specs.Numbers.{stage_number, stage_value, numbers_of}
use Rattle.trace_numbers.specs.Parsing.{size, is_stage, stages, stage_at, head_at, state_at, is_state, Accepted, Refused, trace_of}
use Rattle.trace_numbers.specs.NumbersLaws.{stage_elim, stage_of_state, kept_of_state, length_head_at, passed}
use Rattle.trace_numbers.specs.NumbersLaws.{enough_of_accepted}

-- ## Bounds

-- a stage has a value that its number allows
abbrev pub Staged : Stage → Type 0
Staged g = is_stage (stage_number g) (stage_value g) ≡ true

pub record Bounded (t : Trace) : Type 0 where
  pub staged : Staged t.stage
  pub kept_most : t.kept ≤ front_length
  pub sixteen : length t.head ≡ front_length
  pub bytes : Bytes t.head

-- what the numbers' type says
abbrev pub Qwords : List ℕ → Type 0
Qwords ns = (i : ℕ) → get_or ns i 0 < 18446744073709551616

-- ## A state's numbers are taken for the state

pub fresh_numbers : numbers_of fresh ≡ replicate size 0
unfolding numbers_of be
fresh_numbers = refl

stage_read : (g : Stage) → stage_at (stage_number g) (stage_value g) ≡ g
unfolding stage_at stages
stage_read Start = refl
stage_read Other = refl
stage_read Between = refl
stage_read (Length high) = refl
stage_read (Inside left) = refl

head_read : (h : List ℕ) → length h ≡ front_length → Bytes h → head_at (be 8 h 0) (be 8 h 8) ≡ h
unfolding head_at
head_read h l b =
    ap₂ ◌++◌ (be_bytes_be 8 h 0 b (omega arith))
    (be_bytes_be 8 h 8 b (omega arith) ∙ take_all 8 (drop 8 h) (omega (arith, length-drop 8 h)))
    ∙ take-append-drop 8 h

state_read : (t : Trace) (rest : List ℕ) → Bounded t → state_at (numbers_of t ++ rest) ≡ t
unfolding numbers_of state_at
state_read t rest b = rw (stage_read t.stage, head_read t.head b.sixteen b.bytes)

state_taken : (t : Trace) (rest : List ℕ) → Bounded t → is_state (numbers_of t ++ rest) ≡ true
unfolding numbers_of is_state
state_taken t rest b = rw (b.staged, le-leb t.kept front_length b.kept_most)

-- whatever follows them
pub trace_of_numbers : (t : Trace) (rest : List ℕ) → Bounded t → trace_of (numbers_of t ++ rest) ≡ Accepted t
unfolding numbers_of trace_of
trace_of_numbers t rest b =
    rw (le-ltb (length (numbers_of t ++ rest)) size (omega arith), state_taken t rest b, state_read t rest b)

bytes_zeros : (n : ℕ) → Bytes (replicate n 0)
bytes_zeros zero i = omega arith
bytes_zeros (suc n) zero = omega arith
bytes_zeros (suc n) (suc i) = bytes_zeros n i

pub fresh_bounded : Bounded fresh
fresh_bounded = record { staged = refl; kept_most = omega arith; sixteen = refl; bytes = bytes_zeros front_length }

-- zeros are fresh
pub fresh_of_zeros : (rest : List ℕ) → trace_of (replicate size 0 ++ rest) ≡ Accepted fresh
fresh_of_zeros rest = ap (λ (ns : List ℕ). trace_of (ns ++ rest)) (sym fresh_numbers) ∙ trace_of_numbers fresh rest fresh_bounded

-- ## Numbers that are taken for a state are its numbers

stage_written : (number value : ℕ) → is_stage number value ≡ true
    → (stage_number (stage_at number value) ≡ number) × (stage_value (stage_at number value) ≡ value)
unfolding stage_at stages
stage_written =
    stage_elim (λ (n v : ℕ). (stage_number (stage_at n v) ≡ n) × (stage_value (stage_at n v) ≡ v)) (refl, refl) (refl, refl) (refl, refl)
    (λ v byte. (refl, refl))
    (λ v some word. (refl, refl))

first_written : (first second : ℕ) → first < 18446744073709551616 → be 8 (head_at first second) 0 ≡ first
unfolding head_at
first_written first second h =
    be_append 8 (be_bytes 8 first) (be_bytes 8 second) 0 (omega (arith, length_be_bytes 8 first)) ∙ be_be_bytes 8 first ∙ mod-eq_of_lt h

second_written : (first second : ℕ) → second < 18446744073709551616 → be 8 (head_at first second) 8 ≡ second
unfolding head_at
second_written first second h =
    let at : 8 ≡ length (be_bytes 8 first) + 0 = omega (arith, length_be_bytes 8 first) in
    ap (be 8 (be_bytes 8 first ++ be_bytes 8 second)) at
    ∙ be_append_add 8 (be_bytes 8 first) (be_bytes 8 second) 0
    ∙ be_be_bytes 8 second
    ∙ mod-eq_of_lt h

bytes_head_at : (first second : ℕ) → Bytes (head_at first second)
unfolding head_at
bytes_head_at first second = bytes_append (be_bytes 8 first) (be_bytes 8 second) (bytes_be_bytes 8 first) (bytes_be_bytes 8 second)

abbrev six : List ℕ → List ℕ
six ns = get_or ns 0 0 ∷ get_or ns 1 0 ∷ get_or ns 2 0 ∷ get_or ns 3 0 ∷ get_or ns 4 0 ∷ get_or ns 5 0 ∷ []

take_six : (ns : List ℕ) → size ≤ length ns → take size ns ≡ six ns
take_six [] h = absurd (omega arith)
take_six (a ∷ []) h = absurd (omega arith)
take_six (a ∷ b ∷ []) h = absurd (omega arith)
take_six (a ∷ b ∷ c ∷ []) h = absurd (omega arith)
take_six (a ∷ b ∷ c ∷ d ∷ []) h = absurd (omega arith)
take_six (a ∷ b ∷ c ∷ d ∷ e ∷ []) h = absurd (omega arith)
take_six (a ∷ b ∷ c ∷ d ∷ e ∷ f ∷ ns) h = refl

state_written : (ns : List ℕ) → Qwords ns → is_state ns ≡ true → numbers_of (state_at ns) ≡ six ns
unfolding numbers_of state_at
state_written ns q e =
    let stage = stage_written (get_or ns 0 0) (get_or ns 1 0) (stage_of_state ns e) in
    rw (stage.0, stage.1, first_written (get_or ns 4 0) (get_or ns 5 0) (q 4), second_written (get_or ns 4 0) (get_or ns 5 0) (q 5))

state_bounded : (ns : List ℕ) → is_state ns ≡ true → Bounded (state_at ns)
unfolding state_at
state_bounded ns e =
    let staged = stage_of_state ns e in
    let stage = stage_written (get_or ns 0 0) (get_or ns 1 0) staged in
    record {
      staged = ap₂ is_stage stage.0 stage.1 ∙ staged;
      kept_most = kept_of_state ns e;
      sixteen = length_head_at (get_or ns 4 0) (get_or ns 5 0);
      bytes = bytes_head_at (get_or ns 4 0) (get_or ns 5 0);
    }

-- a test that stood between a state and a refusal
taken : (b : Bool) (n : ℕ) (u t : Trace) → cond b (Accepted u) (Refused n) ≡ Accepted t → (b ≡ true) × (u ≡ t)
taken true n u t e = (refl, cc)
taken false n u t e = absurd (let z : ◌≡◌ {A = ℕ} 0 1 = cc in omega arith)

pub record NumbersOf (ns : List ℕ) (t : Trace) : Type 0 where
  pub enough : size ≤ length ns
  pub own : numbers_of t ≡ take size ns
  pub bounded : Bounded t

pub numbers_of_trace : (ns : List ℕ) (t : Trace) → Qwords ns → trace_of ns ≡ Accepted t → NumbersOf ns t
unfolding trace_of
numbers_of_trace ns t q e =
    let long = passed (ltb (length ns) size) 11 (cond (is_state ns) (Accepted (state_at ns)) (Refused 10)) t e in
    let state = taken (is_state ns) 10 (state_at ns) t long.1 in
    let enough = enough_of_accepted ns t e in
    record {
      enough = enough;
      own = ap numbers_of (sym state.1) ∙ state_written ns q state.0 ∙ sym (take_six ns enough);
      bounded = rw (← state.1) (state_bounded ns state.0);
    }

-- ## Feeding keeps a state within its bounds

abbrev EventFits : Event → Type 0
EventFits Version = Unit
EventFits Foreign = Unit
EventFits Passed = Unit
EventFits (Half high) = high ≤ 255
EventFits (Begins size) = size ≤ 65535
EventFits (Byte byte left) = (byte < 256) × (left ≤ 65535)

event_fits : (g : Stage) (b : ℕ) → Staged g → b < 256 → EventFits (event_of g b)
unfolding version_of
event_fits Start b s h = go (eqb b 1)
  where
    go : (t : Bool) → EventFits (cond t Version Foreign)
    go true = tt
    go false = tt
event_fits Other b s h = tt
event_fits Between b s h = omega arith
event_fits (Length high) b s h = let byte = leb-true high 255 (sym (or-false (leb high 255)) ∙ s) in omega arith
event_fits (Inside left) b s h = let word = leb-true left 65535 (both_of_and (ltb 0 left) (leb left 65535) s).1 in (h, omega arith)

inside_staged : (left : ℕ) → left ≤ 65535 → Staged (inside_of left)
unfolding inside_of
inside_staged left h = go (eqb left 0) refl
  where
    go : (t : Bool) → eqb left 0 ≡ t → Staged (cond t Between (Inside left))
    go true e = refl
    go false e = rw (lt-ltb 0 left (omega (arith, eqb-false left 0 e)), le-leb left 65535 h)

stage_fits : (e : Event) → EventFits e → Staged (stage_after e)
stage_fits Version h = refl
stage_fits Foreign h = refl
stage_fits Passed h = refl
stage_fits (Half high) h = rw (le-leb high 255 h)
stage_fits (Begins size) h = inside_staged size h
stage_fits (Byte byte left) h = inside_staged left h.1

record AccountFits (a : Account) : Type 0 where
  most : a.kept ≤ front_length
  places : length a.head ≡ front_length
  bytes : Bytes a.head

settled_fits : (m : Emits) (n kept : ℕ) (head : List ℕ) → kept ≤ front_length → length head ≡ front_length → Bytes head
    → AccountFits (record { number = n; kept = kept_after m kept; head = head_after m head })
settled_fits Nothing n kept head most places bytes = record { most = most; places = places; bytes = bytes }
settled_fits Refusal n kept head most places bytes = record { most = most; places = places; bytes = bytes }
settled_fits Line n kept head most places bytes = record { most = omega arith; places = refl; bytes = bytes_zeros front_length }

account_fits : (a : Account) (e : Event) → EventFits e → AccountFits a → AccountFits (heard_by a e)
account_fits a Version h f = record { most = f.most; places = f.places; bytes = f.bytes }
account_fits a Foreign h f = record { most = f.most; places = f.places; bytes = f.bytes }
account_fits a Passed h f = record { most = f.most; places = f.places; bytes = f.bytes }
account_fits a (Half high) h f = record { most = f.most; places = f.places; bytes = f.bytes }
account_fits a (Begins size) h f = settled_fits (line_at size) _ 0 a.head (omega arith) f.places f.bytes
account_fits a (Byte byte left) h f =
    settled_fits (line_at left) _ _ (set a.head a.kept byte) (omega (arith, f.places))
    (length-set a.head a.kept byte ∙ f.places)
    (bytes_set a.head a.kept byte f.bytes h.0)

heard_fits : (g : Stage) (a : Account) (s : List ℕ) → Staged g → AccountFits a → Bytes s
    → Staged (stage_of g s) × AccountFits (heard_of heard_by g a s)
unfolding stage_of heard_of
heard_fits g a [] staged f b = (staged, f)
heard_fits g a (x ∷ s) staged f b =
    let e = event_of g x in
    let fits = event_fits g x staged (b 0) in
    heard_fits (stage_after e) (heard_by a e) s (stage_fits e fits) (account_fits a e fits f) (λ i. b (suc i))

pub feeding_keeps_bounds : (t : Trace) (piece : List ℕ) → Bounded t → Bytes piece → Bounded (state_of t piece)
unfolding state_of
feeding_keeps_bounds t piece b bytes =
    let f =
    heard_fits t.stage (account_of t) piece b.staged (record { most = b.kept_most; places = b.sixteen; bytes = b.bytes }) bytes in
    record { staged = f.0; kept_most = f.1.most; sixteen = f.1.places; bytes = f.1.bytes }
