-- Reading a layout gives the packet back, and the layout of the packet that was read gives the header back. Assumes nothing.
use Rattle.std.specs.Prelude.{ℕ, ◌+◌, ◌*◌, ◌-◌, ◌≤◌, ◌<◌, ◌≡◌, ◌⊎◌, Bool, cond, ◌&&◌, ◌||◌, List, ◌++◌, eqb, ltb, get_or, drop}
use Rattle.std.proofs.Math.Path.{refl, ap}
use Rattle.std.proofs.Common.{sym, ap₂, subst, ◌∙◌, append_assoc, length-append}
use Rattle.std.proofs.Math.Bool.{true, false}
use Rattle.std.proofs.lemmas.Bool.{false≢true}
use native.Mathlib.Omega.{arith}
use borrow.Author.Tests.{eqb-true, le-ltb, ltb-false, not-false}
use Rattle.std.proofs.Math.ListN.{length, take}
use Rattle.arith.specs.BoolLaws.{false_of_or}
use Rattle.endian.specs.Endian.{Bytes, be, be_bytes}
use Rattle.pairs.specs.declared.Row.{Row}
use Rattle.pairs.specs.declared.Kind.{Kind}
use Rattle.pairs.specs.declared.Kind.TheVariants.{Memory as MemoryKind, Io as IoKind, Config as ConfigKind, Completion as CompletionKind}
use Rattle.pairs.specs.declared.Kind.TheVariants.{Message as MessageKind, FetchAdd, Swap, Cas}
use Rattle.pairs.specs.declared.CompletionKind.{CompletionKind as Completing}
use Rattle.pairs.specs.declared.CompletionKind.TheVariants.{Cpl, CplD, CplLk, CplDLk}
use Rattle.pairs.specs.declared.MessageKind.{MessageKind as Messaging}
use Rattle.pairs.specs.declared.MessageKind.TheVariants.{Msg, MsgD}
use Rattle.pairs.specs.declared.MessageRouting.{MessageRouting}
use Rattle.pairs.specs.declared.Pair.{Pair}
use Rattle.pairs.specs.declared.Pair.TheVariants.{Carried, NotCarried, Unknown}
use Rattle.pairs.specs.Pairs.{kind_named, pair_of, row_of}
use Rattle.pairs.proofs.PairsLaws.{CarriedRow, row_pair, pair_row, forms_of_kind}
use Rattle.packet.specs.declared.Head.{Head}
use Rattle.packet.specs.declared.Enables.{Enables}
use Rattle.packet.specs.declared.Packet.{Packet}
use Rattle.packet.specs.declared.Packet.TheVariants.{Memory, Io, Config, Completion, Message}
use Rattle.packet.specs.declared.Verdict.TheVariants.{Lawful}
use Rattle.packet.specs.Fields.{kind_of, head_of, is_posted}
use Rattle.packet.specs.Widths.{length_in, length_fits, enables_fit, address_fits, body_fits}
use Rattle.packet.proofs.WidthsLaws.{and_intro, FieldsFit, fields_fit_intro, fields_fit_elim, tag_fits_intro}
use Rattle.packet.specs.Rules.{reserved_set, fixed_wrong, from_rule6, from_rule5, rule_number}
use Rattle.packet.specs.Verdict.{verdict_of}
use Rattle.packet.proofs.VerdictLaws.{lawful_intro, lawful_elim, RequestBounds, memory_of_lawful, io_of_lawful, config_of_lawful}
use Rattle.packet.proofs.VerdictLaws.{completion_of_lawful, message_of_lawful, tag_of_lawful}
use Rattle.tlp.specs.declared.Reading.TheVariants.{Accepted, Refused}
use Rattle.tlp_layout.specs.Layout.{front_bytes, request_bytes, address_bytes, target_bytes, completion_bytes, message_bytes}
use Rattle.tlp_layout.specs.Layout.{body_bytes, layout, size}
use Rattle.tlp_layout.specs.LayoutLaws.{form_of_lawful, form_of_message, size_of_lawful, layout_carried, length_layout}
use Rattle.tlp_fields.specs.Fields.{code_at, length_of, completion_length, head_at, request_head_at, completion_head_at, enables_at, address_at}
use Rattle.tlp_fields.specs.Fields.{message_length, message_head_at, message_code_at, target_at, outcome_at, unnamed, unnamed_target, unnamed_lower}
use Rattle.tlp.specs.Reading.{judged, read_as, read_pair, read_of}
use Rattle.tlp_fields.specs.FieldsLaws.{unnamed_front, request_head_at_request, enables_at_request, address_at_address, target_at_target}
use Rattle.tlp_fields.specs.FieldsLaws.{unnamed_target_lem, outcome_at_completion, unnamed_completion, completion_head_at_completion, append_take}
use Rattle.tlp_fields.specs.FieldsLaws.{front_bytes_head_at, request_bytes_request_head_at, address_bytes_address_at, target_bytes_target_at}
use Rattle.tlp_fields.specs.FieldsLaws.{completion_bytes_completion_head_at, request_head_at_fits, completion_head_at_fits, enables_at_fits}
use Rattle.tlp_fields.specs.FieldsLaws.{address_at_fits, target_at_fits, outcome_at_fits, length_of_fits_lem, code_of_length, code_of_completion}
use Rattle.tlp_fields.specs.FieldsLaws.{message_head_at_message, message_code_at_message, address_at_message, message_bytes_message_head_at}
use Rattle.tlp_fields.specs.FieldsLaws.{tail_address_at, tag_of_posted, message_head_at_fits, content_at_fits, code_of_message}

-- ## A lawful packet is read back from its layout

judged_intro : (stray : Bool) (q p : Packet) → stray ≡ false → q ≡ p → rule_number p ≡ 0 → judged stray q ≡ Accepted p
unfolding judged
judged_intro stray q p clean same rules = rw (clean, same, rules)

-- memory and I/O requests alike
addressed_read : (posted : Bool) (make : Head → Enables → ℕ → Packet) (row : Row) (h : Head) (e : Enables) (a : ℕ) (t : List ℕ)
    → (posted ≡ true → h.tag < 256) → RequestBounds h e → length_in h.length ≡ true
    → (h.form ≡ 3) ⊎ (h.form ≡ 4) → address_fits h a ≡ true → rule_number (make h e a) ≡ 0
    → let s = front_bytes row h ++ (request_bytes h e ++ (address_bytes h a ++ t)) in
    judged (unnamed posted s) (make (request_head_at h.form s) (enables_at s) (address_at h.form s)) ≡ Accepted (make h e a)
addressed_read posted make row h e a t small b length form fits rules =
    let head = request_head_at_request row h e b (address_bytes h a ++ t) length in
    let enables = enables_at_request row h e b (address_bytes h a ++ t) in
    let address = address_at_address row h e t a form fits in
    let clean = unnamed_front row h b.head (request_bytes h e ++ (address_bytes h a ++ t)) posted small in
    judged_intro _ _ _ clean (λ i. make (head i) (enables i) (address i)) rules

read_as_layout : (row : Row) (p : Packet) (rest : List ℕ) → verdict_of p ≡ Lawful row
    → read_as (kind_of p) (head_of p).form (front_bytes row (head_of p) ++ (body_bytes p ++ rest)) ≡ Accepted p
unfolding length_fits
read_as_layout row (Memory k h e a) rest lawful =
    let p = Memory k h e a in
    let l = lawful_elim row p lawful in
    let b = memory_of_lawful row k h e a lawful in
    let length = (fields_fit_elim p l.fits).length in
    rw append_assoc
    (addressed_read (is_posted (MemoryKind k)) (Memory k) row h e a rest (tag_of_lawful row p lawful) b.0 length
    (form_of_lawful row p lawful) b.1 l.rules)
read_as_layout row (Io k h e a) rest lawful =
    let p = Io k h e a in
    let l = lawful_elim row p lawful in
    let b = io_of_lawful row k h e a lawful in
    let length = (fields_fit_elim p l.fits).length in
    rw append_assoc
    (addressed_read false (Io k) row h e a rest (λ q. absurd (false≢true q)) b.0 length
    (form_of_lawful row p lawful) b.1 l.rules)
read_as_layout row (Config k h e t) rest lawful =
    let p = Config k h e t in
    let l = lawful_elim row p lawful in
    let b = config_of_lawful row k h e t lawful in
    let head = request_head_at_request row h e b.0 (target_bytes t ++ rest) (fields_fit_elim p l.fits).length in
    let enables = enables_at_request row h e b.0 (target_bytes t ++ rest) in
    let target = target_at_target row h e rest t b.2 b.1 in
    let front = unnamed_front row h b.0.head (request_bytes h e ++ (target_bytes t ++ rest)) false (λ q. absurd (false≢true q)) in
    let clean = ap₂ ◌||◌ front (unnamed_target_lem row h e rest t b.2) in
    rw append_assoc (judged_intro _ _ _ clean (λ i. Config k (head i) (enables i) (target i)) l.rules)
read_as_layout row (Completion k h o) rest lawful =
    let p = Completion k h o in
    let l = lawful_elim row p lawful in
    let b = completion_of_lawful row k h o lawful in
    let head = completion_head_at_completion row h o b.1 rest k b.0 (fields_fit_elim p l.fits).length in
    let outcome = outcome_at_completion row h o b.1 rest in
    let front = unnamed_front row h b.0 (completion_bytes h o ++ rest) false (λ q. absurd (false≢true q)) in
    let clean = ap₂ ◌||◌ front (unnamed_completion row h o b.1 rest) in
    judged_intro _ _ _ clean (λ i. Completion k (head i) (outcome i)) l.rules
read_as_layout row (Message k h routing code tail) rest lawful =
    let p = Message k h routing code tail in
    let l = lawful_elim row p lawful in
    let b = message_of_lawful row k h routing code tail lawful in
    let after = be_bytes 8 tail ++ rest in
    let head = message_head_at_message row k h routing code tail after b.0 (fields_fit_elim p l.fits).length in
    let content = message_code_at_message row k h routing code tail after in
    let address = address_at_message row k h routing code tail rest (form_of_message row k h routing code tail lawful) b.2 in
    let clean = unnamed_front row h b.0 (message_bytes h code ++ after) true (tag_of_lawful row p lawful) in
    rw append_assoc (judged_intro _ _ _ clean (λ i. Message k (head i) routing (content i) (address i)) l.rules)

-- the pair found and the bytes there, the rest of the reading is by kind
read_row : (s : List ℕ) (row : Row) → pair_of (get_or s 0 0) ≡ Carried row → 12 ≤ length s → 4 * row.form ≤ length s
    → read_of s ≡ read_as (kind_named row.name) row.form s
unfolding read_of
read_row s row pair twelve whole = simp (le-ltb (length s) 12 twelve, pair, le-ltb (length s) (4 * row.form) whole)

-- every lawful packet is read back the same from its layout, whatever follows
pub read_layout : (p : Packet) (row : Row) (rest : List ℕ) → verdict_of p ≡ Lawful row → read_of (layout p ++ rest) ≡ Accepted p
unfolding front_bytes
read_layout p row rest lawful =
    let r = row_pair (kind_of p) (head_of p).form (lawful_elim row p lawful).carried in
    let s = front_bytes row (head_of p) ++ (body_bytes p ++ rest) in
    let same : layout p ++ rest ≡ s = ap (λ (x : List ℕ). x ++ rest) (layout_carried row p lawful) in
    let long : size p ≤ length s = omega (arith, ap length same, length-append (layout p) rest, length_layout row p lawful) in
    let form = r.1 in
    ap read_of same
    ∙ read_row s row r.2.read (omega (arith, size_of_lawful row p lawful)) (omega arith)
    ∙ rw (r.0, form) (read_as_layout row p rest lawful)

-- ## An accepted header is its packet's layout

refused_not_accepted : {A : Type 0} {n : ℕ} {p : Packet} → Refused n ≡ Accepted p → A
refused_not_accepted e = let z : ◌≡◌ {A = ℕ} 0 1 = cc in absurd (omega arith)

record Judged (stray : Bool) (q p : Packet) : Type 0 where
  clean : stray ≡ false
  same : q ≡ p
  rules : rule_number q ≡ 0

judged_elim : (stray : Bool) (q p : Packet) → judged stray q ≡ Accepted p → Judged stray q p
unfolding judged
judged_elim true q p e = refused_not_accepted e
judged_elim false q p e = go (eqb (rule_number q) 0) refl e
  where
    go : (b : Bool) → eqb (rule_number q) 0 ≡ b → cond b (Accepted q) (Refused (rule_number q)) ≡ Accepted p → Judged false q p
    go true t e = record { clean = refl; same = cc; rules = eqb-true (rule_number q) 0 t }
    go false t e = refused_not_accepted e

record RowRead (s : List ℕ) (p : Packet) : Type 0 where
  row : Row
  pair : pair_of (get_or s 0 0) ≡ Carried row
  twelve : 12 ≤ length s
  whole : 4 * row.form ≤ length s
  by_kind : read_as (kind_named row.name) row.form s ≡ Accepted p

row_read : (s : List ℕ) (p : Packet) → read_of s ≡ Accepted p → RowRead s p
unfolding read_of
row_read s p = on_length (ltb (length s) 12) refl
  where
    on_form : (row : Row) → pair_of (get_or s 0 0) ≡ Carried row → 12 ≤ length s
        → (b : Bool) → ltb (length s) (4 * row.form) ≡ b
        → cond b (Refused 1) (read_as (kind_named row.name) row.form s) ≡ Accepted p → RowRead s p
    on_form row pair twelve true t e = refused_not_accepted e
    on_form row pair twelve false t e = record { row = row; pair = pair; twelve = twelve; whole = ltb-false _ _ t; by_kind = e }

    on_pair_lem : (q : Pair) → pair_of (get_or s 0 0) ≡ q → 12 ≤ length s → read_pair q s ≡ Accepted p → RowRead s p
    on_pair_lem (Carried row) pair twelve e = on_form row pair twelve (ltb (length s) (4 * row.form)) refl e
    on_pair_lem NotCarried pair twelve e = refused_not_accepted e
    on_pair_lem Unknown pair twelve e = refused_not_accepted e

    on_length : (b : Bool) → ltb (length s) 12 ≡ b → cond b (Refused 1) (read_pair (pair_of (get_or s 0 0)) s) ≡ Accepted p → RowRead s p
    on_length true t e = refused_not_accepted e
    on_length false t e = on_pair_lem (pair_of (get_or s 0 0)) refl (ltb-false _ _ t) e

-- rule 5 is not broken where no rule is
fixed_right : (p : Packet) → rule_number p ≡ 0 → fixed_wrong p ≡ false
unfolding rule_number from_rule5
fixed_right p = go (reserved_set p) (fixed_wrong p)
  where
    go : (a b : Bool) → cond a 4 (cond b 5 (from_rule6 p)) ≡ 0 → b ≡ false
    go true b e = absurd (omega arith)
    go false true e = absurd (omega arith)
    go false false e = refl

-- the packet of an accepted header is lawful, and the header is that packet's layout
pub record WrittenBack (s : List ℕ) (p : Packet) : Type 0 where
  pub row : Row
  pub lawful : verdict_of p ≡ Lawful row
  pub whole : size p ≤ length s
  pub bytes : layout p ≡ take (size p) s

module _ (s : List ℕ) (bytes : Bytes s) (row : Row) (c : CarriedRow row)
    (pair : row.byte ≡ get_or s 0 0) (whole : 4 * row.form ≤ length s) where
  three_le_form : 3 ≤ row.form
  three_le_form = omega (arith, c.form_fmt)

  -- a header's parts make it whole
  written_back : (p : Packet) → kind_named row.name ≡ kind_of p → (head_of p).form ≡ row.form → FieldsFit p → rule_number p ≡ 0
      → front_bytes row (head_of p) ≡ take 4 s → body_bytes p ≡ take (4 * row.form - 4) (drop 4 s)
      → WrittenBack s p
  written_back p kind form fits rules front body =
      let carried : row_of (kind_of p) (head_of p).form ≡ Carried row = rw (← kind, form) c.written in
      let lawful = lawful_intro row p (record { carried = carried; fits = fields_fit_intro p fits; rules = rules }) in
      let sum : 4 + (4 * row.form - 4) ≡ size p = omega (arith, three_le_form) in
      record {
        row = row;
        lawful = lawful;
        whole = omega arith;
        bytes = layout_carried row p lawful ∙ append_take 4 (4 * row.form - 4) s 0 front body ∙ ap (λ (n : ℕ). take n s) sum;
      }

  request_front : (posted : Bool) → unnamed posted s ≡ false → front_bytes row (request_head_at row.form s) ≡ take 4 s
  request_front posted clean =
      let code = code_of_length s bytes in
      let four : 4 ≤ length s = omega (arith, three_le_form) in
      front_bytes_head_at s bytes posted row row.form (length_of (code_at s)) (be 2 s 4) (get_or s 6 0) (bytes 6) four clean pair code

  completion_front : (k : Completing) → unnamed false s ≡ false → front_bytes row (completion_head_at k row.form s) ≡ take 4 s
  completion_front k clean =
      let code = code_of_completion s bytes k in
      let four : 4 ≤ length s = omega (arith, three_le_form) in
      front_bytes_head_at s bytes false row row.form (completion_length k (code_at s)) (be 2 s 8) (get_or s 10 0) (bytes 10) four clean pair
      code

  message_front : (k : Messaging) → unnamed true s ≡ false → front_bytes row (message_head_at k row.form s) ≡ take 4 s
  message_front k clean =
      let code = code_of_message s bytes k in
      let four : 4 ≤ length s = omega (arith, three_le_form) in
      front_bytes_head_at s bytes true row row.form (message_length k (code_at s)) (be 2 s 4) (get_or s 6 0) (bytes 6) four clean pair code

  -- memory and I/O requests alike
  request_body : let h = request_head_at row.form s in
      request_bytes h (enables_at s) ++ address_bytes h (address_at row.form s) ≡ take (4 * row.form - 4) (drop 4 s)
  unfolding head_at
  request_body =
      let low = three_le_form in
      let sum : 4 + (4 * row.form - 8) ≡ 4 * row.form - 4 = omega arith in
      append_take 4 (4 * row.form - 8) s 4
      (request_bytes_request_head_at s bytes row.form (omega arith))
      (address_bytes_address_at s bytes (request_head_at row.form s) c.dwords whole)
      ∙ ap (λ (n : ℕ). take n (drop 4 s)) sum

  request_fits : enables_fit (enables_at s) && address_fits (request_head_at row.form s) (address_at row.form s) ≡ true
  unfolding head_at
  request_fits = and_intro _ _ (enables_at_fits s bytes) (address_at_fits s bytes (request_head_at row.form s))

  -- Cpl and CplLk have no Length by rule 5
  completion_length_fits : (k : Completing)
      → let p = Completion k (completion_head_at k row.form s) (outcome_at s) in rule_number p ≡ 0 → length_fits p ≡ true
  unfolding length_fits fixed_wrong head_at
  completion_length_fits Cpl rules = not-false _ (fixed_right (Completion Cpl (completion_head_at Cpl row.form s) (outcome_at s)) rules)
  completion_length_fits CplD rules = length_of_fits_lem s bytes
  completion_length_fits CplLk rules =
      not-false _ (fixed_right (Completion CplLk (completion_head_at CplLk row.form s) (outcome_at s)) rules)
  completion_length_fits CplDLk rules = length_of_fits_lem s bytes

  -- and Msg
  message_length_fits : (k : Messaging) (routing : MessageRouting)
      → let p = Message k (message_head_at k row.form s) routing (message_code_at s) (address_at row.form s) in
      rule_number p ≡ 0 → length_fits p ≡ true
  unfolding length_fits fixed_wrong head_at
  message_length_fits Msg routing rules =
      not-false _
      (fixed_right (Message Msg (message_head_at Msg row.form s) routing (message_code_at s) (address_at row.form s)) rules)
  message_length_fits MsgD routing rules = length_of_fits_lem s bytes

  message_body : (k : Messaging) → row.form ≡ 4
      → message_bytes (message_head_at k row.form s) (message_code_at s) ++ be_bytes 8 (address_at row.form s)
      ≡ take (4 * row.form - 4) (drop 4 s)
  message_body k four =
      let sum : 12 ≡ 4 * row.form - 4 = omega arith in
      append_take 4 8 s 4
      (message_bytes_message_head_at s bytes k row.form (omega arith))
      (tail_address_at s bytes row.form four (omega arith))
      ∙ ap (λ (n : ℕ). take n (drop 4 s)) sum

  -- the reader's packet q is the one that it answered with
  judged_back : (stray : Bool) (q p : Packet) → judged stray q ≡ Accepted p
      → (stray ≡ false → rule_number q ≡ 0 → WrittenBack s q) → WrittenBack s p
  judged_back stray q p e back =
      let j = judged_elim stray q p e in
      subst (λ (x : Packet). WrittenBack s x) j.same (back j.clean j.rules)

  three_dwords : {body : List ℕ} → row.form ≡ 3 → body ≡ take 8 (drop 4 s) → body ≡ take (4 * row.form - 4) (drop 4 s)
  three_dwords form body = body ∙ ap (λ (n : ℕ). take (4 * n - 4) (drop 4 s)) (sym form)

  read_as_back : (p : Packet) (k : Kind) → kind_named row.name ≡ k → read_as k row.form s ≡ Accepted p → WrittenBack s p
  unfolding head_at length_fits body_fits
  read_as_back p (MemoryKind k) kind e =
      let posted = is_posted (MemoryKind k) in
      let q = Memory k (request_head_at row.form s) (enables_at s) (address_at row.form s) in
      let head = request_head_at_fits s bytes row.form in
      judged_back (unnamed posted s) q p e
      (λ clean rules.
      let small : posted ≡ true → (head_of q).tag < 256 = λ yes. tag_of_posted s bytes (get_or s 6 0) (bytes 6) (rw yes at clean) in
      let tag = tag_fits_intro q small in
      let fits : FieldsFit q = record { head = head; tag = tag; length = length_of_fits_lem s bytes; body = request_fits } in
      written_back q kind refl fits rules (request_front posted clean) request_body)
  read_as_back p (IoKind k) kind e =
      let q = Io k (request_head_at row.form s) (enables_at s) (address_at row.form s) in
      let head = request_head_at_fits s bytes row.form in
      let fits : FieldsFit q = record { head = head; tag = refl; length = length_of_fits_lem s bytes; body = request_fits } in
      judged_back (unnamed false s) q p e (λ clean rules. written_back q kind refl fits rules (request_front false clean) request_body)
  read_as_back p (ConfigKind k) kind e =
      let form : row.form ≡ 3 = forms_of_kind c kind in
      let q = Config k (request_head_at row.form s) (enables_at s) (target_at s) in
      let body_fits_lem = and_intro _ _ (enables_at_fits s bytes) (target_at_fits s bytes) in
      let head = request_head_at_fits s bytes row.form in
      let fits : FieldsFit q = record { head = head; tag = refl; length = length_of_fits_lem s bytes; body = body_fits_lem } in
      judged_back (unnamed false s || unnamed_target s) q p e
      (λ clean rules.
      let each = false_of_or (unnamed false s) (unnamed_target s) clean in
      let request = request_bytes_request_head_at s bytes row.form (omega arith) in
      let body = append_take 4 4 s 4 request (target_bytes_target_at s bytes (omega arith) each.1) in
      written_back q kind refl fits rules (request_front false each.0) (three_dwords form body))
  read_as_back p (CompletionKind k) kind e =
      let form : row.form ≡ 3 = forms_of_kind c kind in
      let q = Completion k (completion_head_at k row.form s) (outcome_at s) in
      judged_back (unnamed false s || unnamed_lower s) q p e
      (λ clean rules.
      let each = false_of_or (unnamed false s) (unnamed_lower s) clean in
      let head = completion_head_at_fits s bytes k row.form in
      let fits : FieldsFit q = record { head = head; tag = refl; length = completion_length_fits k rules; body = outcome_at_fits s bytes } in
      let body = completion_bytes_completion_head_at s bytes k row.form (omega arith) each.1 in
      written_back q kind refl fits rules (completion_front k each.0) (three_dwords form body))
  read_as_back p (MessageKind k routing) kind e =
      let form : row.form ≡ 4 = forms_of_kind c kind in
      let q = Message k (message_head_at k row.form s) routing (message_code_at s) (address_at row.form s) in
      judged_back (unnamed true s) q p e
      (λ clean rules.
      let head = message_head_at_fits s bytes k row.form in
      let tag = tag_fits_intro q (λ yes. tag_of_posted s bytes (get_or s 6 0) (bytes 6) clean) in
      let content = content_at_fits s bytes row.form in
      let fits : FieldsFit q = record { head = head; tag = tag; length = message_length_fits k routing rules; body = content } in
      written_back q kind refl fits rules (message_front k clean) (message_body k form))
  read_as_back p FetchAdd kind e = refused_not_accepted e
  read_as_back p Swap kind e = refused_not_accepted e
  read_as_back p Cas kind e = refused_not_accepted e

-- every accepted header is its packet's layout, and its packet is lawful
pub layout_read : (s : List ℕ) (p : Packet) → Bytes s → read_of s ≡ Accepted p → WrittenBack s p
layout_read s p bytes e =
    let r = row_read s p e in
    let c = pair_row (get_or s 0 0) r.pair in
    read_as_back s bytes r.row c.1 c.0 r.whole p (kind_named r.row.name) refl r.by_kind
