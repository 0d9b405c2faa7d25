-- How long each part of the layout is. Assumes nothing.
use Rattle.std.specs.Prelude.{ℕ, ◌+◌, ◌*◌, ◌≤◌, ◌≡◌, refl, Bool, true, false, ◌⊎◌, ◌++◌, length}
use Rattle.std.proofs.Common.{⊎_elim, length-append, arith}
use Rattle.endian.specs.Endian.{be_bytes}
use Rattle.endian.specs.EndianLaws.{length_be_bytes}
use Rattle.pairs.specs.declared.Row.{Row}
use Rattle.pairs.proofs.PairsLaws.{row_pair, row_forms, Forms, CarriedRow}
use Rattle.pairs.specs.declared.MessageKind.{MessageKind}
use Rattle.pairs.specs.declared.MessageRouting.{MessageRouting}
use Rattle.packet.specs.declared.Head.{Head}
use Rattle.packet.specs.declared.Enables.{Enables}
use Rattle.packet.specs.declared.Target.{Target}
use Rattle.packet.specs.declared.Outcome.{Outcome}
use Rattle.packet.specs.declared.Packet.{Packet}
use Rattle.packet.specs.declared.Packet.TheVariants.{Memory, Io, Config, Completion, Message}
use Rattle.packet.specs.declared.Verdict.TheVariants.{Lawful}
use Rattle.packet.specs.Fields.{kind_of, head_of}
use Rattle.packet.specs.Verdict.{verdict_of}
use Rattle.packet.proofs.VerdictLaws.{lawful_elim}
use Rattle.tlp_layout.specs.Layout.{bit, front_bytes, request_bytes, address_bytes, target_bytes, outcome_bytes, completion_bytes}
use Rattle.tlp_layout.specs.Layout.{message_bytes, body_bytes, layout, size}

pub bit_le_one : (b : Bool) → bit b ≤ 1
bit_le_one true = omega arith
bit_le_one false = omega arith

pub length_front : (row : Row) (h : Head) → length (front_bytes row h) ≡ 4
unfolding front_bytes
length_front row h = refl

pub length_request : (h : Head) (e : Enables) → length (request_bytes h e) ≡ 4
unfolding request_bytes be_bytes
length_request h e = refl

length_target : (t : Target) → length (target_bytes t) ≡ 4
unfolding target_bytes be_bytes
length_target t = refl

pub length_outcome : (o : Outcome) → length (outcome_bytes o) ≡ 4
unfolding outcome_bytes be_bytes
length_outcome o = refl

length_completion : (h : Head) (o : Outcome) → length (completion_bytes h o) ≡ 8
unfolding completion_bytes outcome_bytes be_bytes
length_completion h o = refl

pub length_message : (h : Head) (code : ℕ) → length (message_bytes h code) ≡ 4
unfolding message_bytes be_bytes
length_message h code = refl

-- an address takes what the front and the request leave of the form's dwords
length_address : (h : Head) (a : ℕ) → (h.form ≡ 3) ⊎ (h.form ≡ 4) → 8 + length (address_bytes h a) ≡ 4 * h.form
unfolding address_bytes be_bytes
length_address h a = ⊎_elim (λ e. rw e) (λ e. rw e)

-- a lawful packet has the three- or the four-dword form, its size is 12 or 16 bytes, and its layout is that long
pub form_of_lawful : (row : Row) (p : Packet) → verdict_of p ≡ Lawful row → ((head_of p).form ≡ 3) ⊎ ((head_of p).form ≡ 4)
form_of_lawful row p l = let r = row_pair (kind_of p) (head_of p).form (lawful_elim row p l).carried in rw r.1 at r.2.dwords

pub row_of_lawful : (row : Row) (p : Packet) → verdict_of p ≡ Lawful row → CarriedRow row
row_of_lawful row p l = (row_pair (kind_of p) (head_of p).form (lawful_elim row p l).carried).2

pub size_of_lawful : (row : Row) (p : Packet) → verdict_of p ≡ Lawful row → 12 ≤ size p
size_of_lawful row p l = ⊎_elim (λ e. omega arith) (λ e. omega arith) (form_of_lawful row p l)

pub layout_carried : (row : Row) (p : Packet) → verdict_of p ≡ Lawful row → layout p ≡ front_bytes row (head_of p) ++ body_bytes p
unfolding layout
layout_carried row p l = rw (lawful_elim row p l).carried

-- a message has the four-dword form
pub form_of_message : (row : Row) (k : MessageKind) (h : Head) (routing : MessageRouting) (code tail : ℕ)
    → verdict_of (Message k h routing code tail) ≡ Lawful row → h.form ≡ 4
form_of_message row k h routing code tail l =
    let p = Message k h routing code tail in
    row_forms (kind_of p) h.form (lawful_elim row p l).carried

length_body : (p : Packet) → ((head_of p).form ≡ 3) ⊎ ((head_of p).form ≡ 4) → Forms (kind_of p) (head_of p).form
    → 4 + length (body_bytes p) ≡ size p
length_body (Memory k h e a) f w = rw (length-append, length_request h e) (omega (arith, length_address h a f))
length_body (Io k h e a) f w = rw (length-append, length_request h e) (omega (arith, length_address h a f))
length_body (Config k h e t) f w = rw (length-append, length_request h e, length_target t, w)
length_body (Completion k h o) f w = rw (length_completion h o, w)
length_body (Message k h routing code tail) f w = rw (length-append, length_message h code, length_be_bytes 8 tail, w)

pub length_layout : (row : Row) (p : Packet) → verdict_of p ≡ Lawful row → length (layout p) ≡ size p
length_layout row p l =
    let w = row_forms (kind_of p) (head_of p).form (lawful_elim row p l).carried in
    rw (layout_carried row p l, length-append, length_front row (head_of p)) (length_body p (form_of_lawful row p l) w)
