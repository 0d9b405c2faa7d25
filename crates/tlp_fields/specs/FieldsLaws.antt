-- Each field is read back from the bytes that the layout gives it, and each byte of an accepted header is spelled by its fields.
-- Assumes nothing.
use Rattle.std.specs.Prelude.{ℕ, suc, ◌+◌, ◌*◌, ◌-◌, ◌/◌, ◌%◌, ◌^◌, ◌≤◌, ◌<◌, ◌≡◌, Bool, not, ◌&&◌, ◌||◌, ◌⊎◌, List, [], ◌∷◌, ◌++◌, eqb, take, drop}
use Rattle.std.proofs.Math.Path.{refl}
use Rattle.std.proofs.Common.{sym, ap, ap₂, ◌∙◌, inl, inr, div-add-mod', div-one, add-one, drop-cons, drop-drop, take-add}
use Rattle.std.proofs.Math.Bool.{true, false, cond}
use Rattle.std.proofs.Math.Nat.{div-div-eq-div-mul}
use native.Mathlib.Omega.{arith}
use borrow.Author.Tests.{eq-eqb, ne_eqb, eqb-true, eqb-false, not-false}
use Rattle.std.proofs.Math.ListN.{length, get_or}
use Rattle.arith.specs.BoolLaws.{false_of_or}
use Rattle.endian.specs.Endian.{Bytes, be, be_bytes}
use Rattle.endian.specs.EndianLaws.{be_lt, be_be_bytes_at, be_bytes_be}
use Rattle.pairs.specs.declared.Row.{Row}
use Rattle.pairs.specs.declared.CompletionKind.{CompletionKind as Completing}
use Rattle.pairs.specs.declared.CompletionKind.TheVariants.{Cpl, CplD, CplLk, CplDLk}
use Rattle.pairs.specs.declared.MessageKind.{MessageKind as Messaging}
use Rattle.pairs.specs.declared.MessageKind.TheVariants.{Msg, MsgD}
use Rattle.pairs.specs.declared.MessageRouting.{MessageRouting}
use Rattle.packet.specs.declared.Head.{Head}
use Rattle.packet.specs.declared.Enables.{Enables}
use Rattle.packet.specs.declared.Target.{Target}
use Rattle.packet.specs.declared.Outcome.{Outcome}
use Rattle.packet.specs.declared.Packet.TheVariants.{Completion, Message}
use Rattle.packet.specs.Widths.{head_fits, length_in, length_fits, enables_fit, address_fits, target_fits, outcome_fits, content_fits}
use Rattle.packet.proofs.WidthsLaws.{HeadBounds, OutcomeBounds, head_bounds_intro, length_in_intro, length_in_elim, address_fits_elim}
use Rattle.packet.proofs.WidthsLaws.{enables_fit_intro, address_fits_intro, target_fits_intro, outcome_bounds_intro, content_fits_intro}
use Rattle.packet.proofs.VerdictLaws.{RequestBounds}
use Rattle.tlp_layout.specs.LayoutLaws.{bit_le_one}
use Rattle.tlp_layout.specs.Layout.{bit, length_code, front_bytes, request_bytes, address_bytes, target_bytes, outcome_bytes, completion_bytes}
use Rattle.tlp_layout.specs.Layout.{message_bytes}
use Rattle.tlp_fields.specs.Fields.{is_set, code_at, length_of, completion_length, head_at, request_head_at, completion_head_at, enables_at}
use Rattle.tlp_fields.specs.Fields.{tag_with, message_length, message_head_at, message_code_at, address_at, target_at, outcome_at}
use Rattle.tlp_fields.specs.Fields.{unnamed, unnamed_target, unnamed_lower}

-- ## Bits

-- a bit that was written is read
eqb_bit : (b : Bool) (x : ℕ) → x ≡ bit b → eqb x 1 ≡ b
eqb_bit true x e = eq-eqb x 1 e
eqb_bit false x e = ne_eqb x 1 (λ q. omega arith)

-- and a bit that was read is written
bit_eqb : (x : ℕ) → x < 2 → bit (eqb x 1) ≡ x
bit_eqb x below = go (eqb x 1) refl
  where
    go : (b : Bool) → eqb x 1 ≡ b → bit b ≡ x
    go true e = sym (eqb-true x 1 e)
    go false e = let d = eqb-false x 1 e in omega arith

clear_of_zero : (x : ℕ) → x ≡ 0 → eqb x 1 ≡ false
clear_of_zero = eqb_bit false

zero_of_clear : (x : ℕ) → x < 2 → eqb x 1 ≡ false → x ≡ 0
zero_of_clear x below e = let d = eqb-false x 1 e in omega arith

-- ## Byte 2: TD, EP, Attr, AT and the high bits of Length

record Byte2 (byte t e r a : ℕ) : Type 0 where
  td : byte / 128 % 2 ≡ t
  ep : byte / 64 % 2 ≡ e
  attr : byte / 16 % 4 ≡ r
  «at» : byte / 4 % 4 ≡ a

byte2_fields : (h : Head) → h.at < 4
    → let byte = bit h.td * 128 + bit h.ep * 64 + h.attr % 4 * 16 + h.at * 4 + length_code h.length / 256 in
    Byte2 byte (bit h.td) (bit h.ep) (h.attr % 4) h.at
byte2_fields h small =
    let high = length_code h.length / 256 in
    let td = bit_le_one h.td in
    let ep = bit_le_one h.ep in
    parts (bit h.td) (bit h.ep) (h.attr % 4) h.at high td ep (omega arith) small (omega arith)
  where
    -- over plain numbers, as below: omega stops at its bound where it sees the quotients
    parts : (t e r a l : ℕ) → t ≤ 1 → e ≤ 1 → r < 4 → a < 4 → l < 4 → Byte2 (t * 128 + e * 64 + r * 16 + a * 4 + l) t e r a
    parts t e r a l t_le e_le r_lt a_lt l_lt = omega arith

byte2_spelled : (x : ℕ) → x < 256 → x / 128 % 2 * 128 + x / 64 % 2 * 64 + x / 16 % 4 * 16 + x / 4 % 4 * 4 + x % 4 ≡ x
byte2_spelled x below =
    sum x (x / 4) (x / 16) (x / 64) (x / 128 % 2) (x / 64 % 2) (x / 16 % 4) (x / 4 % 4) (x % 4)
    (omega arith) (omega arith) (omega arith) (omega arith)
  where
    sum : (x q₁ q₂ q₃ a b c d e : ℕ) → a * 2 + b ≡ q₃ → q₃ * 4 + c ≡ q₂ → q₂ * 4 + d ≡ q₁ → q₁ * 4 + e ≡ x
        → a * 128 + b * 64 + c * 16 + d * 4 + e ≡ x
    sum x q₁ q₂ q₃ a b c d e h₁ h₂ h₃ h₄ = omega arith

-- ## Byte 1: tag bit 9, TC, tag bit 8 and Attr2

record Byte1 (byte t c e a : ℕ) : Type 0 where
  nine : byte / 128 % 2 ≡ t
  tc : byte / 16 % 8 ≡ c
  eight : byte / 8 % 2 ≡ e
  attr2 : byte / 4 % 2 ≡ a
  one : byte / 2 % 2 ≡ 0
  none : byte / 1 % 2 ≡ 0

byte1_fields : (h : Head) → HeadBounds h
    → Byte1 (h.tag / 512 * 128 + h.tc * 16 + h.tag / 256 % 2 * 8 + h.attr / 4 * 4)
    (h.tag / 512) h.tc (h.tag / 256 % 2) (h.attr / 4)
byte1_fields h b =
    parts (h.tag / 512) h.tc (h.tag / 256 % 2) (h.attr / 4) (omega (arith, b.tag)) b.tc (omega arith) (omega (arith, b.attr))
  where
    parts : (t c e a : ℕ) → t < 2 → c < 8 → e < 2 → a < 2 → Byte1 (t * 128 + c * 16 + e * 8 + a * 4) t c e a
    parts t c e a t_lt c_lt e_lt a_lt =
        record {
          nine = omega arith;
          tc = omega arith;
          eight = omega arith;
          attr2 = omega arith;
          one = omega arith;
          none = omega arith;
        }

byte1_sum : (x : ℕ) → x < 256 → x / 2 % 2 ≡ 0 → x / 1 % 2 ≡ 0
    → x / 128 % 2 * 128 + x / 16 % 8 * 16 + x / 8 % 2 * 8 + x / 4 % 2 * 4 ≡ x
byte1_sum x below one none =
    sum x (x / 2) (x / 4) (x / 8) (x / 16) (x / 128 % 2) (x / 16 % 8) (x / 8 % 2) (x / 4 % 2) (x / 2 % 2) (x / 1 % 2)
    (ap (λ (y : ℕ). y % 2 * 8 + x / 16 % 8) (sym (div-div-eq-div-mul x 16 8)) ∙ top (x / 16) (omega arith))
    (omega arith) (omega arith) (omega arith) (omega (arith, div-one x)) one none
  where
    top : (q : ℕ) → q < 16 → q / 8 % 2 * 8 + q % 8 ≡ q
    top q h = omega arith

    sum : (x q₁ q₂ q₃ q₄ a b c d e f : ℕ) → a * 8 + b ≡ q₄ → q₄ * 2 + c ≡ q₃ → q₃ * 2 + d ≡ q₂ → q₂ * 2 + e ≡ q₁ → q₁ * 2 + f ≡ x
        → e ≡ 0 → f ≡ 0 → a * 128 + b * 16 + c * 8 + d * 4 ≡ x
    sum x q₁ q₂ q₃ q₄ a b c d e f h₁ h₂ h₃ h₄ h₅ z o = omega arith

-- the tag by its two high bits and its low byte, both ways
tag_spelled : (n : ℕ) → n < 1024 → n / 512 * 512 + n / 256 % 2 * 256 + n % 256 ≡ n
tag_spelled n h = omega arith

record TagParts (tag t e l : ℕ) : Type 0 where
  nine : tag / 512 ≡ t
  eight : tag / 256 % 2 ≡ e
  low : tag % 256 ≡ l

tag_parts : (t e l : ℕ) → t < 2 → e < 2 → l < 256 → TagParts (t * 512 + e * 256 + l) t e l
tag_parts t e l t_lt e_lt l_lt = record { nine = omega arith; eight = omega arith; low = omega arith }

-- ## Length and its code

length_of_length_code : (n : ℕ) → 1 ≤ n → n ≤ 1024 → length_of (length_code n) ≡ n
length_of_length_code n low high = go (eqb (n % 1024) 0) refl
  where
    go : (b : Bool) → eqb (n % 1024) 0 ≡ b → cond b 1024 (n % 1024) ≡ n
    go true e = omega (arith, eqb-true (n % 1024) 0 e)
    go false e = let d = eqb-false (n % 1024) 0 e in omega arith

completion_length_length_code : (k : Completing) (h : Head) (o : Outcome) → length_fits (Completion k h o) ≡ true
    → completion_length k (length_code h.length) ≡ h.length
unfolding length_fits
completion_length_length_code Cpl h o f = let z = eqb-true h.length 0 f in omega arith
completion_length_length_code CplD h o f = let n = length_in_elim h.length f in length_of_length_code h.length n.0 n.1
completion_length_length_code CplLk h o f = let z = eqb-true h.length 0 f in omega arith
completion_length_length_code CplDLk h o f = let n = length_in_elim h.length f in length_of_length_code h.length n.0 n.1

message_length_length_code : (k : Messaging) (h : Head) (routing : MessageRouting) (code tail : ℕ)
    → length_fits (Message k h routing code tail) ≡ true → message_length k (length_code h.length) ≡ h.length
unfolding length_fits
message_length_length_code Msg h routing code tail f = let z = eqb-true h.length 0 f in omega arith
message_length_length_code MsgD h routing code tail f =
    let n = length_in_elim h.length f in length_of_length_code h.length n.0 n.1

-- ## A field is read back from the bytes that the layout gives it

module _ (row : Row) (h : Head) (b : HeadBounds h) (t : List ℕ) where
  pub unnamed_front : (posted : Bool) → (posted ≡ true → h.tag < 256) → unnamed posted (front_bytes row h ++ t) ≡ false
  unfolding front_bytes unnamed
  unnamed_front posted small =
      let x = get_or (front_bytes row h ++ t) 1 0 in
      let one = byte1_fields h b in
      let b1 = clear_of_zero (x / 2 % 2) one.one in
      let b0 = clear_of_zero (x / 1 % 2) one.none in
      rw (b1, b0) (by_tag posted small)
    where
      by_tag : (p : Bool) → (p ≡ true → h.tag < 256)
          → let x = h.tag / 512 * 128 + h.tc * 16 + h.tag / 256 % 2 * 8 + h.attr / 4 * 4 in
          (p && (is_set 7 x || is_set 3 x) || false) || false ≡ false
      by_tag true small =
          let below = small refl in
          let b7 = clear_of_zero _ ((byte1_fields h b).nine ∙ (high h.tag below).0) in
          let b3 = clear_of_zero _ ((byte1_fields h b).eight ∙ (high h.tag below).1) in
          rw (b7, b3)
        where
          high : (n : ℕ) → n < 256 → (n / 512 ≡ 0) × (n / 256 % 2 ≡ 0)
          high n below = (omega arith, omega arith)
      by_tag false small = refl

  code_front : code_at (front_bytes row h ++ t) ≡ length_code h.length
  unfolding front_bytes
  code_front = omega arith

  -- the fields that lie outside the front are given by where they are read
  head_at_front : {dwords requester : ℕ} → dwords ≡ h.length → requester ≡ h.requester
      → head_at h.form dwords requester (h.tag % 256) (front_bytes row h ++ t) ≡ h
  unfolding front_bytes head_at
  head_at_front length requester =
      let x = get_or (front_bytes row h ++ t) 1 0 in
      let y = get_or (front_bytes row h ++ t) 2 0 in
      let one = byte1_fields h b in
      let two = byte2_fields h b.«at» in
      let tc = one.tc in
      let attr : x / 4 % 2 * 4 + y / 16 % 4 ≡ h.attr = rw (one.attr2, two.attr) (div-add-mod' h.attr 4) in
      let tag : x / 128 % 2 * 512 + x / 8 % 2 * 256 + h.tag % 256 ≡ h.tag =
      rw (one.nine, one.eight) (tag_spelled h.tag b.tag) in
      let td : is_set 7 y ≡ h.td = eqb_bit h.td (y / 128 % 2) two.td in
      let ep : is_set 6 y ≡ h.ep = eqb_bit h.ep (y / 64 % 2) two.ep in
      let «at» = two.«at» in
      λ i. record {
        form = h.form;
        tc = tc i;
        attr = attr i;
        td = td i;
        ep = ep i;
        at = «at» i;
        length = length i;
        requester = requester i;
        tag = tag i;
      }

module _ (row : Row) (h : Head) (e : Enables) (b : RequestBounds h e) (t : List ℕ) where
  pub request_head_at_request : length_in h.length ≡ true → request_head_at h.form (front_bytes row h ++ (request_bytes h e ++ t)) ≡ h
  unfolding front_bytes request_bytes be_bytes
  request_head_at_request fits =
      let n = length_in_elim h.length fits in
      head_at_front row h b.head (request_bytes h e ++ t)
      (ap length_of (code_front row h b.head (request_bytes h e ++ t)) ∙ length_of_length_code h.length n.0 n.1)
      (be_be_bytes_at 2 h.requester (front_bytes row h) (h.tag % 256 ∷ (e.last * 16 + e.first) ∷ t) b.head.requester)

  pub enables_at_request : enables_at (front_bytes row h ++ (request_bytes h e ++ t)) ≡ e
  unfolding front_bytes request_bytes be_bytes enables_at
  enables_at_request =
      let x = e.last * 16 + e.first in
      let last : x / 16 ≡ e.last = omega (arith, b.first) in
      let first : x % 16 ≡ e.first = omega (arith, b.first) in
      λ i. record { last = last i; first = first i }

module _ (row : Row) (h : Head) (e : Enables) (t : List ℕ) where
  be_address : (n a : ℕ) → a < 256 ^ n → be n (front_bytes row h ++ (request_bytes h e ++ (be_bytes n a ++ t))) 8 ≡ a
  unfolding front_bytes request_bytes be_bytes
  be_address n a below = be_be_bytes_at n a (front_bytes row h ++ request_bytes h e) t below

  pub address_at_address : (a : ℕ) → (h.form ≡ 3) ⊎ (h.form ≡ 4) → address_fits h a ≡ true
      → address_at h.form (front_bytes row h ++ (request_bytes h e ++ (address_bytes h a ++ t))) ≡ a
  unfolding address_bytes address_at
  address_at_address a (inl three) fits = rw (ne_eqb h.form 4 (λ q. omega arith)) (be_address 4 a ((address_fits_elim h a fits).1 three))
  address_at_address a (inr four) fits = rw (eq-eqb h.form 4 four) (be_address 8 a (address_fits_elim h a fits).0)

  module _ (u : Target) (below : u.register < 1024) where
    pub target_at_target : u.id < 65536 → target_at (front_bytes row h ++ (request_bytes h e ++ (target_bytes u ++ t))) ≡ u
    unfolding front_bytes request_bytes target_bytes be_bytes target_at
    target_at_target small =
        let id = be_be_bytes_at 2 u.id (front_bytes row h ++ request_bytes h e) ((u.register / 64) ∷ (u.register % 64 * 4) ∷ t) small in
        let register : u.register / 64 % 16 * 64 + u.register % 64 * 4 / 4 ≡ u.register = omega arith in
        λ i. record { id = id i; register = register i }

    pub unnamed_target_lem : unnamed_target (front_bytes row h ++ (request_bytes h e ++ (target_bytes u ++ t))) ≡ false
    unfolding front_bytes request_bytes target_bytes be_bytes unnamed_target
    unnamed_target_lem = simp (eq-eqb (u.register / 64 / 16) 0 (omega arith), eq-eqb (u.register % 64 * 4 % 4) 0 (omega arith))

module _ (row : Row) (h : Head) (o : Outcome) (b : OutcomeBounds o) (t : List ℕ) where
  pub outcome_at_completion : outcome_at (front_bytes row h ++ (completion_bytes h o ++ t)) ≡ o
  unfolding front_bytes completion_bytes outcome_bytes be_bytes outcome_at
  outcome_at_completion =
      let x = o.status * 32 + bit o.bcm * 16 + o.count / 256 in
      let one = bit_le_one o.bcm in
      let after = x ∷ (o.count % 256) ∷ be_bytes 2 h.requester ++ (h.tag % 256 ∷ o.lower ∷ t) in
      let completer = be_be_bytes_at 2 o.completer (front_bytes row h) after b.completer in
      let status : x / 32 ≡ o.status = omega arith in
      let bcm : is_set 4 x ≡ o.bcm = eqb_bit o.bcm (x / 16 % 2) (omega arith) in
      let count : x % 16 * 256 + o.count % 256 ≡ o.count = omega arith in
      let lower : o.lower % 128 ≡ o.lower = omega arith in
      λ i. record { completer = completer i; status = status i; bcm = bcm i; count = count i; lower = lower i }

  pub unnamed_completion : unnamed_lower (front_bytes row h ++ (completion_bytes h o ++ t)) ≡ false
  unfolding front_bytes completion_bytes outcome_bytes be_bytes unnamed_lower
  unnamed_completion = clear_of_zero (o.lower / 128 % 2) (omega arith)

  pub completion_head_at_completion : (k : Completing) → HeadBounds h → length_fits (Completion k h o) ≡ true
      → completion_head_at k h.form (front_bytes row h ++ (completion_bytes h o ++ t)) ≡ h
  unfolding front_bytes completion_bytes outcome_bytes be_bytes
  completion_head_at_completion k head fits =
      head_at_front row h head (completion_bytes h o ++ t)
      (ap (completion_length k) (code_front row h head (completion_bytes h o ++ t)) ∙ completion_length_length_code k h o fits)
      (be_be_bytes_at 2 h.requester (front_bytes row h ++ outcome_bytes o) (h.tag % 256 ∷ o.lower ∷ t) head.requester)

module _ (row : Row) (k : Messaging) (h : Head) (routing : MessageRouting) (code tail : ℕ) (t : List ℕ) where
  pub message_head_at_message : HeadBounds h → length_fits (Message k h routing code tail) ≡ true
      → message_head_at k h.form (front_bytes row h ++ (message_bytes h code ++ t)) ≡ h
  unfolding front_bytes message_bytes be_bytes
  message_head_at_message head fits =
      head_at_front row h head (message_bytes h code ++ t)
      (ap (message_length k) (code_front row h head (message_bytes h code ++ t)) ∙ message_length_length_code k h routing code tail fits)
      (be_be_bytes_at 2 h.requester (front_bytes row h) (h.tag % 256 ∷ code ∷ t) head.requester)

  pub message_code_at_message : message_code_at (front_bytes row h ++ (message_bytes h code ++ t)) ≡ code
  unfolding front_bytes message_bytes be_bytes
  message_code_at_message = refl

  pub address_at_message : h.form ≡ 4 → tail < 2 ^ 64
      → address_at h.form (front_bytes row h ++ (message_bytes h code ++ (be_bytes 8 tail ++ t))) ≡ tail
  unfolding front_bytes message_bytes be_bytes address_at
  address_at_message four below =
      rw (eq-eqb h.form 4 four) (be_be_bytes_at 8 tail (front_bytes row h ++ message_bytes h code) t below)

-- ## A byte is spelled by the fields that are read from it

-- two bytes of a list
take_two : (s : List ℕ) (i : ℕ) {a b : ℕ} → i + 2 ≤ length s → a ≡ get_or s i 0 → b ≡ get_or s (i + 1) 0 → a ∷ b ∷ [] ≡ take 2 (drop i s)
take_two s i fits first second =
    (λ j. first j ∷ second j ∷ [])
    ∙ sym (rw (add-one i, drop-cons s i 0 (omega arith), drop-cons s (suc i) 0 (omega arith)))

-- two parts that meet
pub append_take : (n m : ℕ) (s : List ℕ) (i : ℕ) {a b : List ℕ} → a ≡ take n (drop i s) → b ≡ take m (drop (i + n) s)
    → a ++ b ≡ take (n + m) (drop i s)
append_take n m s i p q = ap₂ ◌++◌ p q ∙ rw (← drop-drop n i s) (sym (take-add n m (drop i s)))

module _ (s : List ℕ) (bytes : Bytes s) where
  code_lt : code_at s < 1024
  code_lt = omega (arith, bytes 3)

  -- byte 1 is the tag's two high bits, TC and the high bit of Attr, and nothing else
  byte1_spelled : (posted : Bool) → unnamed posted s ≡ false
      → get_or s 1 0 / 128 % 2 * 128 + get_or s 1 0 / 16 % 8 * 16 + get_or s 1 0 / 8 % 2 * 8 + get_or s 1 0 / 4 % 2 * 4 ≡ get_or s 1 0
  unfolding unnamed
  byte1_spelled posted clean =
      let x = get_or s 1 0 in
      let tags = posted && (is_set 7 x || is_set 3 x) in
      let a = false_of_or (tags || is_set 1 x) (is_set 0 x) clean in
      let b = false_of_or tags (is_set 1 x) a.0 in
      byte1_sum x (bytes 1) (zero_of_clear (x / 2 % 2) (omega arith) b.1) (zero_of_clear (x / 1 % 2) (omega arith) a.1)

  -- a posted request has none of the tag's high bits
  pub tag_of_posted : (low : ℕ) → low < 256 → unnamed true s ≡ false → tag_with low s < 256
  unfolding unnamed
  tag_of_posted low small clean =
      let x = get_or s 1 0 in
      let tags = is_set 7 x || is_set 3 x in
      let a = false_of_or (tags || is_set 1 x) (is_set 0 x) clean in
      let b = false_of_or tags (is_set 1 x) a.0 in
      let c = false_of_or (is_set 7 x) (is_set 3 x) b.0 in
      let b7 = zero_of_clear (x / 128 % 2) (omega arith) c.0 in
      let b3 = zero_of_clear (x / 8 % 2) (omega arith) c.1 in
      rw (b7, b3) (omega arith)

  pub front_bytes_head_at : (posted : Bool) (row : Row) (form dwords requester low : ℕ) → low < 256 → 4 ≤ length s → unnamed posted s ≡ false
      → row.byte ≡ get_or s 0 0 → length_code dwords ≡ code_at s
      → front_bytes row (head_at form dwords requester low s) ≡ take 4 s
  unfolding front_bytes head_at
  front_bytes_head_at posted row form dwords requester low small fits clean first code =
      let x = get_or s 1 0 in
      let y = get_or s 2 0 in
      let attr2 : (x / 4 % 2 * 4 + y / 16 % 4) / 4 ≡ x / 4 % 2 = omega arith in
      let attr : (x / 4 % 2 * 4 + y / 16 % 4) % 4 ≡ y / 16 % 4 = omega arith in
      let high : length_code dwords / 256 ≡ y % 4 = rw code (omega (arith, bytes 3)) in
      let below : length_code dwords % 256 ≡ get_or s 3 0 = rw code (omega (arith, bytes 3)) in
      let tag = tag_parts (x / 128 % 2) (x / 8 % 2) low (omega arith) (omega arith) small in
      let td = bit_eqb (y / 128 % 2) (omega arith) in
      let ep = bit_eqb (y / 64 % 2) (omega arith) in
      append_take 2 2 s 0
      (take_two s 0 (omega arith) first (rw (tag.nine, tag.eight, attr2) (byte1_spelled posted clean)))
      (take_two s 2 fits (rw (td, ep, attr, high) (byte2_spelled y (bytes 2))) below)

  -- the tag's low byte is the byte that it was read from
  low_of_tag : (low : ℕ) → low < 256 → tag_with low s % 256 ≡ low
  low_of_tag low small = (tag_parts (get_or s 1 0 / 128 % 2) (get_or s 1 0 / 8 % 2) low (omega arith) (omega arith) small).low

  pub request_bytes_request_head_at : (form : ℕ) → 8 ≤ length s → request_bytes (request_head_at form s) (enables_at s) ≡ take 4 (drop 4 s)
  unfolding request_bytes head_at enables_at
  request_bytes_request_head_at form fits =
      append_take 2 2 s 4 (be_bytes_be 2 s 4 bytes (omega arith))
      (take_two s 6 (omega arith) (low_of_tag (get_or s 6 0) (bytes 6)) (div-add-mod' (get_or s 7 0) 16))

  pub address_bytes_address_at : (h : Head) → (h.form ≡ 3) ⊎ (h.form ≡ 4) → 4 * h.form ≤ length s
      → address_bytes h (address_at h.form s) ≡ take (4 * h.form - 8) (drop 8 s)
  unfolding address_bytes address_at
  address_bytes_address_at h (inl three) fits = rw three (be_bytes_be 4 s 8 bytes (omega arith))
  address_bytes_address_at h (inr four) fits = rw four (be_bytes_be 8 s 8 bytes (omega arith))

  pub target_bytes_target_at : 12 ≤ length s → unnamed_target s ≡ false → target_bytes (target_at s) ≡ take 4 (drop 8 s)
  unfolding target_bytes target_at unnamed_target
  target_bytes_target_at fits clean =
      let x = get_or s 10 0 in
      let y = get_or s 11 0 in
      let a = false_of_or (not (eqb (x / 16) 0)) (not (eqb (y % 4) 0)) clean in
      let high = eqb-true (x / 16) 0 (not-false (eqb (x / 16) 0) a.0) in
      let low = eqb-true (y % 4) 0 (not-false (eqb (y % 4) 0) a.1) in
      append_take 2 2 s 8 (be_bytes_be 2 s 8 bytes (omega arith)) (take_two s 10 fits (omega (arith, bytes 11)) (omega (arith, bytes 11)))

  pub completion_bytes_completion_head_at : (k : Completing) (form : ℕ) → 12 ≤ length s → unnamed_lower s ≡ false
      → completion_bytes (completion_head_at k form s) (outcome_at s) ≡ take 8 (drop 4 s)
  unfolding completion_bytes outcome_bytes head_at outcome_at unnamed_lower
  completion_bytes_completion_head_at k form fits clean =
      let x = get_or s 6 0 in
      let y = get_or s 7 0 in
      let z = get_or s 11 0 in
      let lower : z % 128 ≡ z = omega (arith, bytes 11, zero_of_clear (z / 128 % 2) (omega arith) clean) in
      let count : (x % 16 * 256 + y) / 256 ≡ x % 16 = omega (arith, bytes 7) in
      let low : (x % 16 * 256 + y) % 256 ≡ y = omega (arith, bytes 7) in
      let status : x / 32 * 32 + bit (is_set 4 x) * 16 + (x % 16 * 256 + y) / 256 ≡ x =
      rw (bit_eqb (x / 16 % 2) (omega arith), count) (omega arith) in
      let four = append_take 2 2 s 4 (be_bytes_be 2 s 4 bytes (omega arith)) (take_two s 6 (omega arith) status low) in
      append_take 6 2 s 4 (append_take 4 2 s 4 four (be_bytes_be 2 s 8 bytes (omega arith)))
      (take_two s 10 fits (low_of_tag (get_or s 10 0) (bytes 10)) lower)

  pub message_bytes_message_head_at : (k : Messaging) (form : ℕ) → 8 ≤ length s
      → message_bytes (message_head_at k form s) (message_code_at s) ≡ take 4 (drop 4 s)
  unfolding message_bytes head_at
  message_bytes_message_head_at k form fits =
      append_take 2 2 s 4 (be_bytes_be 2 s 4 bytes (omega arith))
      (take_two s 6 (omega arith) (low_of_tag (get_or s 6 0) (bytes 6)) refl)

  pub tail_address_at : (form : ℕ) → form ≡ 4 → 16 ≤ length s → be_bytes 8 (address_at form s) ≡ take 8 (drop 8 s)
  unfolding address_at
  tail_address_at form four fits = rw four (be_bytes_be 8 s 8 bytes fits)

  -- what is read fits its field

  head_at_fits : (form dwords requester low : ℕ) → requester < 65536 → low < 256 → head_fits (head_at form dwords requester low s) ≡ true
  head_at_fits form dwords requester low r g = head_bounds_intro _ bounds
    where
      bounds : HeadBounds (head_at form dwords requester low s)
      bounds = unfold head_at in omega arith

  pub request_head_at_fits : (form : ℕ) → head_fits (request_head_at form s) ≡ true
  request_head_at_fits form = head_at_fits form (length_of (code_at s)) (be 2 s 4) (get_or s 6 0) (be_lt 2 s 4 bytes) (bytes 6)

  pub completion_head_at_fits : (k : Completing) (form : ℕ) → head_fits (completion_head_at k form s) ≡ true
  completion_head_at_fits k form = head_at_fits form (completion_length k (code_at s)) (be 2 s 8) (get_or s 10 0) (be_lt 2 s 8 bytes) (bytes 10)

  address_at_lt : (form : ℕ) → address_at form s < 2 ^ 64
  unfolding address_at
  address_at_lt form = wide (eqb form 4)
    where
      wide : (b : Bool) → cond b (be 8 s 8) (be 4 s 8) < 2 ^ 64
      wide true = be_lt 8 s 8 bytes
      wide false = omega (arith, be_lt 4 s 8 bytes)

  pub message_head_at_fits : (k : Messaging) (form : ℕ) → head_fits (message_head_at k form s) ≡ true
  message_head_at_fits k form = head_at_fits form (message_length k (code_at s)) (be 2 s 4) (get_or s 6 0) (be_lt 2 s 4 bytes) (bytes 6)

  pub content_at_fits : (form : ℕ) → content_fits (message_code_at s) (address_at form s) ≡ true
  content_at_fits form = content_fits_intro (message_code_at s) (address_at form s) (bytes 7) (address_at_lt form)

  pub enables_at_fits : enables_fit (enables_at s) ≡ true
  unfolding enables_at
  enables_at_fits = enables_fit_intro (enables_at s) (omega (arith, bytes 7)) (omega arith)

  pub address_at_fits : (h : Head) → address_fits h (address_at h.form s) ≡ true
  unfolding address_at
  address_at_fits h = address_fits_intro h (address_at h.form s) (address_at_lt h.form) (λ three. rw three (be_lt 4 s 8 bytes))

  pub target_at_fits : target_fits (target_at s) ≡ true
  unfolding target_at
  target_at_fits = target_fits_intro (target_at s) (be_lt 2 s 8 bytes) (omega (arith, bytes 11))

  pub outcome_at_fits : outcome_fits (outcome_at s) ≡ true
  unfolding outcome_at
  outcome_at_fits =
      outcome_bounds_intro (outcome_at s)
      (record { completer = be_lt 2 s 4 bytes; status = omega (arith, bytes 6); count = omega (arith, bytes 7); lower = omega arith })

  -- and Length: in 1 to 1,024, with the code that it was read from

  length_of_code_fits : (b : Bool) → eqb (code_at s) 0 ≡ b
      → let n = cond b 1024 (code_at s) in (length_in n ≡ true) × (length_code n ≡ code_at s)
  length_of_code_fits true e = (refl, sym (eqb-true (code_at s) 0 e))
  length_of_code_fits false e =
      let d = eqb-false (code_at s) 0 e in
      (length_in_intro (code_at s) (omega arith) (omega (arith, code_lt)), omega (arith, code_lt))

  pub length_of_fits_lem : length_in (length_of (code_at s)) ≡ true
  length_of_fits_lem = (length_of_code_fits (eqb (code_at s) 0) refl).0

  pub code_of_length : length_code (length_of (code_at s)) ≡ code_at s
  code_of_length = (length_of_code_fits (eqb (code_at s) 0) refl).1

  pub code_of_completion : (k : Completing) → length_code (completion_length k (code_at s)) ≡ code_at s
  code_of_completion Cpl = omega (arith, code_lt)
  code_of_completion CplD = code_of_length
  code_of_completion CplLk = omega (arith, code_lt)
  code_of_completion CplDLk = code_of_length

  pub code_of_message : (k : Messaging) → length_code (message_length k (code_at s)) ≡ code_at s
  code_of_message Msg = omega (arith, code_lt)
  code_of_message MsgD = code_of_length

-- an address's lower dword stands inside a header as long as its form says
pub low_fits : (form n : ℕ) → 12 ≤ n → 4 * form ≤ n → cond (eqb form 4) 12 8 + 4 ≤ n
low_fits form n least whole = go (eqb form 4) refl
  where
    go : (b : Bool) → eqb form 4 ≡ b → cond b 12 8 + 4 ≤ n
    go true e = let four = eqb-true form 4 e in omega (arith, four)
    go false e = omega arith
