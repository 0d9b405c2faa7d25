-- Fields that fit their places are judged in the header that is laid out of them as the writer judges them: who lays a header out need only
-- have it judged. Assumes nothing.
use Rattle.std.specs.Prelude.{ℕ, ◌+◌, ◌*◌, ◌<◌, ◌≤◌, ◌≡◌, ◌⊎◌, Bool, cond, length, get_or, eqb}
use Rattle.std.proofs.Common.{arith, ap, ◌∙◌, le-ltb, length-append}
use Rattle.std.proofs.Math.Path.{refl, ap₂}
use Rattle.std.proofs.Math.Logic.{⊎_elim}
use Rattle.std.proofs.Math.Bool.{true, false, ◌||◌}
use Rattle.std.proofs.lemmas.Bool.{false≢true}
use mathlib.Core.List.{List, ◌++◌, append_assoc}
use Rattle.arith.specs.BoolLaws.{both_of_and}
use Rattle.endian.specs.Endian.{be_bytes}
use Rattle.pairs.specs.declared.Row.{Row}
use Rattle.pairs.specs.declared.Kind.TheVariants.{Memory as MemoryKind}
use Rattle.pairs.specs.declared.Pair.TheVariants.{Carried}
use Rattle.pairs.specs.Pairs.{kind_named, pair_of, row_of}
use Rattle.pairs.proofs.PairsLaws.{row_pair, row_forms}
use Rattle.packet.specs.declared.Head.{Head}
use Rattle.packet.specs.declared.Enables.{Enables}
use Rattle.packet.specs.declared.Packet.{Packet}
use Rattle.packet.specs.declared.Packet.TheVariants.{Memory, Io, Config, Completion, Message}
use Rattle.packet.specs.Fields.{kind_of, head_of, is_posted}
use Rattle.packet.specs.Widths.{enables_fit, address_fits, target_fits, length_in, length_fits, body_fits, fields_fit}
use Rattle.packet.proofs.WidthsLaws.{head_bounds_elim, enables_fit_elim, target_fits_elim, outcome_bounds_elim, content_fits_elim}
use Rattle.packet.proofs.WidthsLaws.{tag_fits_elim, FieldsFit, fields_fit_elim}
use Rattle.packet.specs.Rules.{rule_number}
use Rattle.packet.specs.Verdict.{number_of as verdict_number, on_rules, on_fields, verdict_of}
use Rattle.packet.proofs.VerdictLaws.{RequestBounds}
use Rattle.tlp_layout.specs.Layout.{front_bytes, request_bytes, address_bytes, target_bytes, outcome_bytes, completion_bytes, message_bytes}
use Rattle.tlp_layout.specs.Layout.{body_bytes, layout, size}
use Rattle.tlp_fields.specs.Fields.{request_head_at, enables_at, address_at, unnamed}
use Rattle.tlp_fields.specs.FieldsLaws.{unnamed_front, request_head_at_request, enables_at_request, address_at_address, target_at_target}
use Rattle.tlp_fields.specs.FieldsLaws.{unnamed_target_lem, outcome_at_completion, unnamed_completion, completion_head_at_completion}
use Rattle.tlp_fields.specs.FieldsLaws.{message_head_at_message, message_code_at_message, address_at_message}
use Rattle.packet.specs.declared.Verdict.TheVariants.{Lawful, Refused as Unlawful}
use Rattle.tlp.specs.declared.Reading.TheVariants.{Accepted, Refused as NotRead}
use Rattle.tlp.specs.Reading.{number_of, judged, read_as, read_of}

request_bounds : (h : Head) (e : Enables) (p : Packet) → head_of p ≡ h → FieldsFit p → enables_fit e ≡ true → RequestBounds h e
request_bounds h e p same f enables =
    let b = enables_fit_elim e enables in
    record { head = rw same at (head_bounds_elim (head_of p) f.head); last = b.0; first = b.1 }

-- memory and I/O requests alike
addressed : (posted : Bool) (make : Head → Enables → ℕ → Packet) (row : Row) (h : Head) (e : Enables) (a : ℕ) (t : List ℕ)
    → (posted ≡ true → h.tag < 256) → RequestBounds h e → length_in h.length ≡ true
    → (h.form ≡ 3) ⊎ (h.form ≡ 4) → address_fits h a ≡ true
    → let s = front_bytes row h ++ (request_bytes h e ++ (address_bytes h a ++ t)) in
    judged (unnamed posted s) (make (request_head_at h.form s) (enables_at s) (address_at h.form s)) ≡ judged false (make h e a)
addressed posted make row h e a t small b length form fits =
    let head = request_head_at_request row h e b (address_bytes h a ++ t) length in
    let enables = enables_at_request row h e b (address_bytes h a ++ t) in
    let address = address_at_address row h e t a form fits in
    let clean = unnamed_front row h b.head (request_bytes h e ++ (address_bytes h a ++ t)) posted small in
    λ i. judged (clean i) (make (head i) (enables i) (address i))

module _ (row : Row) (rest : List ℕ) where
  read_as_fitting : (p : Packet) → FieldsFit p → ((head_of p).form ≡ 3) ⊎ ((head_of p).form ≡ 4)
      → row_of (kind_of p) (head_of p).form ≡ Carried row
      → read_as (kind_of p) (head_of p).form (front_bytes row (head_of p) ++ (body_bytes p ++ rest)) ≡ judged false p
  unfolding length_fits body_fits
  read_as_fitting (Memory k h e a) f form carried =
      let p = Memory k h e a in
      let b = both_of_and (enables_fit e) (address_fits h a) f.body in
      rw append_assoc
      (addressed (is_posted (MemoryKind k)) (Memory k) row h e a rest (tag_fits_elim p f.tag) (request_bounds h e p refl f b.0)
      f.length form b.1)
  read_as_fitting (Io k h e a) f form carried =
      let p = Io k h e a in
      let b = both_of_and (enables_fit e) (address_fits h a) f.body in
      rw append_assoc
      (addressed false (Io k) row h e a rest (λ q. absurd (false≢true q)) (request_bounds h e p refl f b.0) f.length form b.1)
  read_as_fitting (Config k h e t) f form carried =
      let p = Config k h e t in
      let c = both_of_and (enables_fit e) (target_fits t) f.body in
      let b = request_bounds h e p refl f c.0 in
      let d = target_fits_elim t c.1 in
      let head = request_head_at_request row h e b (target_bytes t ++ rest) f.length in
      let enables = enables_at_request row h e b (target_bytes t ++ rest) in
      let target = target_at_target row h e rest t d.1 d.0 in
      let front = unnamed_front row h b.head (request_bytes h e ++ (target_bytes t ++ rest)) false (λ q. absurd (false≢true q)) in
      let clean = ap₂ ◌||◌ front (unnamed_target_lem row h e rest t d.1) in
      rw append_assoc (λ i. judged (clean i) (Config k (head i) (enables i) (target i)))
  read_as_fitting (Completion k h o) f form carried =
      let b = head_bounds_elim h f.head in
      let d = outcome_bounds_elim o f.body in
      let head = completion_head_at_completion row h o d rest k b f.length in
      let outcome = outcome_at_completion row h o d rest in
      let front = unnamed_front row h b (completion_bytes h o ++ rest) false (λ q. absurd (false≢true q)) in
      let clean = ap₂ ◌||◌ front (unnamed_completion row h o d rest) in
      λ i. judged (clean i) (Completion k (head i) (outcome i))
  read_as_fitting (Message k h routing code tail) f form carried =
      let p = Message k h routing code tail in
      let b = head_bounds_elim h f.head in
      let d = content_fits_elim code tail f.body in
      let after = be_bytes 8 tail ++ rest in
      let head = message_head_at_message row k h routing code tail after b f.length in
      let content = message_code_at_message row k h routing code tail after in
      let address = address_at_message row k h routing code tail rest (row_forms (kind_of p) h.form carried) d.1 in
      let clean = unnamed_front row h b (message_bytes h code ++ after) true (tag_fits_elim p f.tag) in
      rw append_assoc (λ i. judged (clean i) (Message k (head i) routing (content i) (address i)))

-- ## As long as its form

module _ (row : Row) where
  body_length : (p : Packet) → ((head_of p).form ≡ 3) ⊎ ((head_of p).form ≡ 4) → row_of (kind_of p) (head_of p).form ≡ Carried row
      → size p ≤ 4 + length (body_bytes p)
  unfolding request_bytes address_bytes target_bytes outcome_bytes completion_bytes message_bytes be_bytes
  body_length (Memory k h e a) form carried = ⊎_elim (λ x. rw x (omega arith)) (λ x. rw x (omega arith)) form
  body_length (Io k h e a) form carried = ⊎_elim (λ x. rw x (omega arith)) (λ x. rw x (omega arith)) form
  body_length (Config k h e t) form carried = omega (arith, row_forms (kind_of (Config k h e t)) h.form carried)
  body_length (Completion k h o) form carried = omega (arith, row_forms (kind_of (Completion k h o)) h.form carried)
  body_length (Message k h routing code tail) form carried =
      omega (arith, row_forms (kind_of (Message k h routing code tail)) h.form carried)

-- ## The law

-- the pair found and the bytes there, the rest of the reading is by kind
read_row : (s : List ℕ) (row : Row) → pair_of (get_or s 0 0) ≡ Carried row → 12 ≤ length s → 4 * row.form ≤ length s
    → read_of s ≡ read_as (kind_named row.name) row.form s
unfolding read_of
read_row s row pair twelve whole = simp (le-ltb (length s) 12 twelve, pair, le-ltb (length s) (4 * row.form) whole)

judged_number : (row : Row) (p : Packet) → row_of (kind_of p) (head_of p).form ≡ Carried row → fields_fit p ≡ true
    → number_of (judged false p) ≡ verdict_number (verdict_of p)
unfolding judged verdict_of on_fields on_rules
judged_number row p carried fits = rw (carried, fits) (go (eqb (rule_number p) 0))
  where
    go : (b : Bool) → number_of (cond b (Accepted p) (NotRead (rule_number p))) ≡ verdict_number (cond b (Lawful row) (Unlawful (rule_number p)))
    go true = refl
    go false = refl

-- whatever follows the header
pub fitting_layout : (row : Row) (p : Packet) (rest : List ℕ) → row_of (kind_of p) (head_of p).form ≡ Carried row → fields_fit p ≡ true
    → number_of (read_of (layout p ++ rest)) ≡ verdict_number (verdict_of p)
unfolding layout front_bytes
fitting_layout row p rest carried fits =
    let r = row_pair (kind_of p) (head_of p).form carried in
    let form : ((head_of p).form ≡ 3) ⊎ ((head_of p).form ≡ 4) = rw r.1 at r.2.dwords in
    let s = front_bytes row (head_of p) ++ (body_bytes p ++ rest) in
    let same : layout p ++ rest ≡ s = rw carried in
    let long : size p ≤ length s = omega (arith, body_length row p form carried, length-append (body_bytes p) rest) in
    let least : 12 ≤ size p = ⊎_elim (λ x. omega arith) (λ x. omega arith) form in
    let by_kind = r.1 in
    let read : read_as (kind_named row.name) row.form s ≡ judged false p =
    rw (r.0, by_kind) (read_as_fitting row rest p (fields_fit_elim p fits) form carried) in
    ap (λ (x : List ℕ). number_of (read_of x)) same
    ∙ ap number_of (read_row s row r.2.read (omega arith) (omega arith) ∙ read)
    ∙ judged_number row p carried fits
