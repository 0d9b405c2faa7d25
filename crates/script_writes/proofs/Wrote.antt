-- What a call that puts writes into a room leaves there, and where the next write goes. Assumes nothing.
use Rattle.std.specs.Prelude.{◌≡◌, refl, Bool, true, false, cond, List, [], ◌∷◌, ◌++◌, ℕ, ◌+◌, ◌*◌, ◌/◌, ◌%◌, ◌≤◌, ◌<◌, eqb, length}
use Rattle.std.proofs.Common.{sym, ap, ◌∙◌, append-nil, arith, length-append}
use Rattle.std.proofs.lemmas.List.Edits.{sets}
use Rattle.std.proofs.Math.Seq.{length-sets}
use Rattle.endian.specs.SetsLaws.{sets_append}
use Rattle.script_writes.specs.declared.Boot.{Boot}
use Rattle.script_writes.specs.declared.Place.{Place}
use Rattle.script_writes.specs.Writes.{Write, slot_writes, bar_writes}
use Rattle.script_writes.proofs.WritesLaws.{bars_snoc, bars_le}
use Rattle.script_writes.specs.Script.{write_stride, write_bytes, next_tag, script_from, tag_after}
use Rattle.script_writes.specs.ScriptLaws.{IsRegister}
use Rattle.script_writes.proofs.ScriptLaws.{bytes_for, write_bytes_lem, length_script, script_append, tag_append}
use Rattle.script_writes.specs.Wrote.{Wrote}

pub wrote_nothing : {boot : Boot} {room : List ℕ} (from : Place) → Wrote boot room from [] room from
unfolding script_from tag_after
wrote_nothing from =
    let n : from.at ≡ from.at + write_stride * 0 = omega arith in
    record { stored = refl; next_is = λ i. record { at = n i; tag = from.tag } }

pub wrote_append : {boot : Boot} {room room₁ room₂ : List ℕ} {from mid next : Place} (ws vs : List Write)
    → Wrote boot room from ws room₁ mid → Wrote boot room₁ mid vs room₂ next → Wrote boot room from (ws ++ vs) room₂ next
wrote_append {boot} {room} {room₁} {room₂} {from} {mid} {next} ws vs p q =
    let at_is : mid.at ≡ from.at + write_stride * length ws = ap (λ (x : Place). x.at) p.next_is in
    let tag_is : mid.tag ≡ tag_after from.tag ws = ap (λ (x : Place). x.tag) p.next_is in
    let at : mid.at + write_stride * length vs ≡ from.at + write_stride * length (ws ++ vs) = rw length-append (omega arith) in
    let tag : tag_after mid.tag vs ≡ tag_after from.tag (ws ++ vs) =
    ap (λ (t : ℕ). tag_after t vs) tag_is ∙ sym (tag_append from.tag ws vs) in
    record {
      stored =
          sets_append room from.at (write_stride * length ws) (script_from boot from.tag ws)
          (script_from boot (tag_after from.tag ws) vs)
          (length_script boot from.tag ws) p.stored
          (q.stored ∙ rw (at_is, tag_is))
          ∙ ap (sets room from.at) (sym (script_append boot from.tag ws vs));
      next_is = q.next_is ∙ (λ i. record { at = at i; tag = tag i });
    }

pub wrote_length : {boot : Boot} {room room' : List ℕ} {from next : Place} {ws : List Write} → Wrote boot room from ws room' next
    → length room' ≡ length room
wrote_length {boot} {room} {from = from} {ws = ws} w = ap length w.stored ∙ length-sets room from.at (script_from boot from.tag ws)

-- what is left of the room
pub room_left_lem : {boot : Boot} {room room' : List ℕ} {from next : Place} {ws : List Write} (n m : ℕ) → Wrote boot room from ws room' next
    → length ws ≡ m → from.at + write_stride * (m + n) ≤ length room → next.at + write_stride * n ≤ length room'
room_left_lem n m w l h =
    let at_is = ap (λ (x : Place). x.at) w.next_is in
    omega (arith, at_is, wrote_length w, l, h)

-- ## One write, in the words of the code

-- its eighteen bytes
pub record Coded (boot : Boot) (from : Place) (w : Write) (bytes : List ℕ) : Type 0 where
  pub requester : boot.requester < 65536
  pub tag : from.tag < 256
  pub id : w.id < 65536
  pub offset : IsRegister w.offset
  pub bytes_are : bytes ≡ bytes_for (eqb (w.id / 256) boot.root) boot.requester from.tag w

pub wrote_one : {boot : Boot} {room room' bytes : List ℕ} {from : Place} (w : Write) → Coded boot from w bytes
    → room' ≡ sets room from.at bytes
    → Wrote boot room from (w ∷ []) room' (record { at = from.at + 18; tag = (from.tag + 1) % 256 })
unfolding script_from tag_after
wrote_one {boot} {room} {from = from} w c e =
    let n : from.at + 18 ≡ from.at + write_stride * 1 = omega arith in
    record {
      stored =
          e
          ∙ ap (sets room from.at)
          (c.bytes_are ∙ sym (write_bytes_lem boot from.tag w c.requester c.tag c.id c.offset)
          ∙ sym (append-nil (write_bytes boot from.tag w)));
      next_is = λ i. record { at = n i; tag = next_tag from.tag };
    }

-- ## Writes that a test decides on

pub wrote_if_not : {boot : Boot} {room : List ℕ} {from : Place} (t : Bool) (ws : List Write) → t ≡ false
    → Wrote boot room from (cond t ws []) room from
wrote_if_not {from = from} t ws e = rw e (wrote_nothing from)

pub wrote_if : {boot : Boot} {room room' : List ℕ} {from next : Place} (t : Bool) (ws : List Write) → t ≡ true
    → Wrote boot room from ws room' next → Wrote boot room from (cond t ws []) room' next
wrote_if t ws e w = rw e w

-- what they ask of the room, once it is known that they come
pub room_if : (t : Bool) (ws : List Write) (at n room : ℕ) → t ≡ true → length ws ≡ n → at + write_stride * length (cond t ws []) ≤ room
    → at + write_stride * n ≤ room
room_if t ws at n room e l h = rw (e, l) at h

-- ## A slot more, while slots are left

pub bars_room : {boot : Boot} {room room' : List ℕ} {from next : Place} (p : List ℕ) (n j : ℕ)
    → Wrote boot room from (bar_writes 0 p j 0) room' next → j < n → from.at + write_stride * length (bar_writes 0 p n 0) ≤ length room
    → next.at + write_stride * length (slot_writes 0 p j) ≤ length room'
bars_room p n j w h l =
    let more = ap length (bars_snoc 0 p j) ∙ length-append (bar_writes 0 p j 0) (slot_writes 0 p j) in
    let at_is = ap (λ (x : Place). x.at) w.next_is in
    omega (arith, at_is, wrote_length w, more, bars_le 0 p (j + 1) n (omega (arith, h)), l)

-- what is left for writes that a test decides on
pub room_left_if : {boot : Boot} {room room' : List ℕ} {from next : Place} (ws : List Write) (t : Bool) (vs : List Write) (n : ℕ)
    → t ≡ true → length vs ≡ n → Wrote boot room from ws room' next
    → from.at + write_stride * length (ws ++ cond t vs []) ≤ length room → next.at + write_stride * n ≤ length room'
room_left_if ws t vs n e l w h =
    let m = rw (e, length-append, l) at h in
    room_left_lem n (length ws) w refl m
