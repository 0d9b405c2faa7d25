-- What the width checks say as bounds on numbers, and back: taking apart (-elim) and building (-intro). Assumes nothing.
use Rattle.std.specs.Prelude.{ℕ, ◌<◌, ◌≤◌, ◌^◌, ◌≡◌, refl, Bool, true, false, not, ◌&&◌, ◌||◌, ltb, eqb}
use Rattle.std.proofs.Math.Bool.{and-eq-true_iff}
use Rattle.std.proofs.Common.{ltb-true, lt-ltb, leb-true, le-leb, eq-eqb, eqb-true}
use Rattle.arith.specs.BoolLaws.{both_of_and}
use Rattle.packet.specs.declared.Head.{Head}
use Rattle.packet.specs.declared.Enables.{Enables}
use Rattle.packet.specs.declared.Target.{Target}
use Rattle.packet.specs.declared.Outcome.{Outcome}
use Rattle.packet.specs.declared.Packet.{Packet}
use Rattle.packet.specs.Fields.{kind_of, head_of, is_posted}
use Rattle.packet.specs.Widths.{head_fits, tag_fits, length_in, length_fits, enables_fit, address_fits}
use Rattle.packet.specs.Widths.{target_fits, outcome_fits, content_fits, body_fits, fields_fit}

pub and_intro : (a b : Bool) → a ≡ true → b ≡ true → a && b ≡ true
and_intro a b p q = (and-eq-true_iff a b).1 (p, q)

pub record HeadBounds (h : Head) : Type 0 where
  pub requester : h.requester < 65536
  pub tc : h.tc < 8
  pub attr : h.attr < 8
  pub «at» : h.at < 4
  pub tag : h.tag < 1024

pub head_bounds_elim : (h : Head) → head_fits h ≡ true → HeadBounds h
head_bounds_elim h e =
    let a = both_of_and _ _ e in
    let b = both_of_and _ _ a.0 in
    let c = both_of_and _ _ b.0 in
    let d = both_of_and _ _ c.0 in
    record {
      requester = ltb-true _ _ d.0;
      tc = ltb-true _ _ d.1;
      attr = ltb-true _ _ c.1;
      «at» = ltb-true _ _ b.1;
      tag = ltb-true _ _ a.1;
    }

pub head_bounds_intro : (h : Head) → HeadBounds h → head_fits h ≡ true
head_bounds_intro h b =
    simp (lt-ltb _ _ b.requester, lt-ltb _ _ b.tc, lt-ltb _ _ b.attr, lt-ltb _ _ b.«at», lt-ltb _ _ b.tag)

pub length_in_elim : (n : ℕ) → length_in n ≡ true → (1 ≤ n) × (n ≤ 1024)
length_in_elim n e = let a = both_of_and _ _ e in (leb-true _ _ a.0, leb-true _ _ a.1)

pub length_in_intro : (n : ℕ) → 1 ≤ n → n ≤ 1024 → length_in n ≡ true
length_in_intro n a b = simp (le-leb _ _ a, le-leb _ _ b)

pub enables_fit_elim : (e : Enables) → enables_fit e ≡ true → (e.last < 16) × (e.first < 16)
enables_fit_elim e q = let a = both_of_and _ _ q in (ltb-true _ _ a.0, ltb-true _ _ a.1)

pub enables_fit_intro : (e : Enables) → e.last < 16 → e.first < 16 → enables_fit e ≡ true
enables_fit_intro e a b = simp (lt-ltb _ _ a, lt-ltb _ _ b)

pub target_fits_elim : (t : Target) → target_fits t ≡ true → (t.id < 65536) × (t.register < 1024)
target_fits_elim t q = let a = both_of_and _ _ q in (ltb-true _ _ a.0, ltb-true _ _ a.1)

pub target_fits_intro : (t : Target) → t.id < 65536 → t.register < 1024 → target_fits t ≡ true
target_fits_intro t a b = simp (lt-ltb _ _ a, lt-ltb _ _ b)

pub record OutcomeBounds (o : Outcome) : Type 0 where
  pub completer : o.completer < 65536
  pub status : o.status < 8
  pub count : o.count < 4096
  pub lower : o.lower < 128

pub outcome_bounds_elim : (o : Outcome) → outcome_fits o ≡ true → OutcomeBounds o
outcome_bounds_elim o e =
    let a = both_of_and _ _ e in
    let b = both_of_and _ _ a.0 in
    let c = both_of_and _ _ b.0 in
    record { completer = ltb-true _ _ c.0; status = ltb-true _ _ c.1; count = ltb-true _ _ b.1; lower = ltb-true _ _ a.1 }

pub outcome_bounds_intro : (o : Outcome) → OutcomeBounds o → outcome_fits o ≡ true
outcome_bounds_intro o b = simp (lt-ltb _ _ b.completer, lt-ltb _ _ b.status, lt-ltb _ _ b.count, lt-ltb _ _ b.lower)

pub content_fits_elim : (code tail : ℕ) → content_fits code tail ≡ true → (code < 256) × (tail < 2 ^ 64)
content_fits_elim code tail q = let a = both_of_and _ _ q in (ltb-true _ _ a.0, ltb-true _ _ a.1)

pub content_fits_intro : (code tail : ℕ) → code < 256 → tail < 2 ^ 64 → content_fits code tail ≡ true
content_fits_intro code tail a b = simp (lt-ltb _ _ a, lt-ltb _ _ b)

-- an address fits 64 bits, and 32 in the three-dword form
pub address_fits_elim : (h : Head) (a : ℕ) → address_fits h a ≡ true → (a < 2 ^ 64) × (h.form ≡ 3 → a < 2 ^ 32)
address_fits_elim h a e =
    let b = both_of_and _ _ e in
    (ltb-true _ _ b.0, λ q. ltb-true _ _ (rw (eq-eqb _ _ q) at b.1))

pub address_fits_intro : (h : Head) (a : ℕ) → a < 2 ^ 64 → (h.form ≡ 3 → a < 2 ^ 32) → address_fits h a ≡ true
address_fits_intro h a w n = and_intro _ _ (lt-ltb _ _ w) (go (eqb h.form 3) refl)
  where
    go : (b : Bool) → eqb h.form 3 ≡ b → not b || ltb a (2 ^ 32) ≡ true
    go true q = lt-ltb _ _ (n (eqb-true _ _ q))
    go false q = refl

-- the three parts of the check
pub record FieldsFit (p : Packet) : Type 0 where
  pub head : head_fits (head_of p) ≡ true
  pub tag : tag_fits p ≡ true
  pub length : length_fits p ≡ true
  pub body : body_fits p ≡ true

pub fields_fit_elim : (p : Packet) → fields_fit p ≡ true → FieldsFit p
unfolding fields_fit
fields_fit_elim p e =
    let a = both_of_and _ _ e in
    let b = both_of_and _ _ a.0 in
    let c = both_of_and _ _ b.0 in
    record { head = c.0; tag = c.1; length = b.1; body = a.1 }

-- a memory write or message has a tag of eight bits
pub tag_fits_elim : (p : Packet) → tag_fits p ≡ true → is_posted (kind_of p) ≡ true → (head_of p).tag < 256
tag_fits_elim p e posted = ltb-true _ _ (rw posted at e)

pub tag_fits_intro : (p : Packet) → (is_posted (kind_of p) ≡ true → (head_of p).tag < 256) → tag_fits p ≡ true
tag_fits_intro p small = go (is_posted (kind_of p)) refl
  where
    go : (b : Bool) → is_posted (kind_of p) ≡ b → not b || ltb (head_of p).tag 256 ≡ true
    go true e = lt-ltb _ _ (small e)
    go false e = refl

pub fields_fit_intro : (p : Packet) → FieldsFit p → fields_fit p ≡ true
unfolding fields_fit
fields_fit_intro p f = simp (f.head, f.tag, f.length, f.body)
