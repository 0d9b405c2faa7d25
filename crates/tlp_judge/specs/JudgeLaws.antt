-- A header that passes is read: a message's by the table's row for its byte 0, a memory request's rules one by one. Assumes nothing.
use Rattle.std.specs.Prelude.{ℕ, ◌+◌, ◌*◌, ◌%◌, ◌^◌, ◌≤◌, ◌≡◌, refl, Bool, false, cond, not, ◌&&◌, ◌||◌, List, length, get_or, ltb, eqb}
use Rattle.std.proofs.Common.{arith, sym, ap, subst}
use Rattle.std.proofs.Math.Bool.{true}
use Rattle.std.proofs.lemmas.Bool.{false≢true}
use borrow.Author.Tests.{eq-eqb, ne_eqb, eqb-true, le-ltb}
use Rattle.pairs.specs.declared.Kind.TheVariants.{Message as MessageOf}
use Rattle.pairs.specs.declared.MemoryKind.{MemoryKind}
use Rattle.pairs.specs.declared.MessageKind.{MessageKind}
use Rattle.pairs.specs.declared.MessageRouting.{MessageRouting}
use Rattle.pairs.specs.Pairs.{table, first, find_pair, pair_of}
use Rattle.packet.specs.declared.Head.{Head}
use Rattle.packet.specs.declared.Enables.{Enables}
use Rattle.packet.specs.declared.Packet.{Packet}
use Rattle.packet.specs.declared.Packet.TheVariants.{Memory, Message}
use Rattle.packet.specs.Rules.{enables_lawful, rule_number}
use Rattle.packet.proofs.RulesLaws.{none_broken}
use Rattle.tlp_fields.specs.Fields.{message_head_at, message_code_at, address_at, unnamed}
use Rattle.tlp.specs.declared.Reading.TheVariants.{Accepted, Refused as NotRead}
use Rattle.tlp.specs.Reading.{number_of, judged, read_as, read_pair, read_of}
use Rattle.tlp_judge.specs.Messages.{is_message, message_kind, message_routing}

-- where the answer is yes, the header is read
abbrev pub Passes : Bool → List ℕ → Type 0
Passes r s = r ≡ true → number_of (read_of s) ≡ 0

pub read_passes : (r : Bool) (s : List ℕ) (p : Packet) → read_of s ≡ Accepted p → Passes r s
read_passes r s p e = λ _. ap number_of e

pub not_passes : (s : List ℕ) → Passes false s
not_passes s = λ e. absurd (false≢true e)

-- ## Messages

abbrev Paired : ℕ → Type 0
Paired b =
    (s : List ℕ) → read_pair (pair_of b) s ≡ cond (ltb (length s) 16) (NotRead 1) (read_as (MessageOf (message_kind b) (message_routing b)) 4 s)

-- a test of equality before others
either : (b n : ℕ) (rest : Bool) → Paired n → (rest ≡ true → Paired b) → eqb b n || rest ≡ true → Paired b
either b n rest p others = go (eqb b n) refl
  where
    go : (t : Bool) → eqb b n ≡ t → t || rest ≡ true → Paired b
    go true e h = subst Paired (sym (eqb-true b n e)) p
    go false e h = others h

message_paired : (b : ℕ) → is_message b ≡ true → Paired b
unfolding pair_of find_pair first table
message_paired b =
    either b 0x30 _ (λ s. refl)
    (either b 0x31 _ (λ s. refl)
    (either b 0x32 _ (λ s. refl)
    (either b 0x33 _ (λ s. refl)
    (either b 0x34 _ (λ s. refl)
    (either b 0x35 _ (λ s. refl)
    (either b 0x70 _ (λ s. refl)
    (either b 0x71 _ (λ s. refl)
    (either b 0x72 _ (λ s. refl)
    (either b 0x73 _ (λ s. refl)
    (either b 0x74 _ (λ s. refl) (λ e. subst Paired (sym (eqb-true b 0x75 e)) (λ s. refl))))))))))))

judged_passes : (stray : Bool) (p : Packet) → stray ≡ false → rule_number p ≡ 0 → number_of (judged stray p) ≡ 0
unfolding judged
judged_passes stray p e z = rw (e, eq-eqb (rule_number p) 0 z)

module _ (s : List ℕ) (long : 16 ≤ length s) where
  pub message_passes : is_message (get_or s 0 0) ≡ true → (k : MessageKind) → k ≡ message_kind (get_or s 0 0) → (h : Head) → h ≡ message_head_at k 4 s
      → (routing : MessageRouting) → routing ≡ message_routing (get_or s 0 0) → (tail : ℕ) → tail ≡ address_at 4 s → unnamed true s ≡ false
      → ((code : ℕ) → rule_number (Message k h routing code tail) ≡ 0) → number_of (read_of s) ≡ 0
  unfolding read_of
  message_passes is k k_is h h_is routing routing_is tail tail_is named lawful =
      rw (
        le-ltb (length s) 12 (omega arith),
        message_paired (get_or s 0 0) is s,
        le-ltb (length s) 16 long,
        ← k_is,
        ← routing_is,
        ← h_is,
        ← tail_is,
      )
      (judged_passes (unnamed true s) (Message k h routing (message_code_at s) tail) named (lawful (message_code_at s)))

-- ## Memory requests

-- where the answer is yes, no rule is broken
abbrev pub Keeps : Bool → Head → Enables → ℕ → Type 0
Keeps r h e a = r ≡ true → (k : MemoryKind) → rule_number (Memory k h e a) ≡ 0

module _ (h : Head) (e : Enables) (a : ℕ) {t : Bool} {l : ℕ} (enables : t ≡ enables_lawful h.length a e) (dwords : l ≡ h.length) where
  pub memory_kept : not (eqb (a % 4) 0) ≡ false → (h.at ≡ 3 → ⊥) → eqb h.form 4 && ltb a (2 ^ 32) ≡ false → a % 4096 + 4 * l ≤ 4096
      → Keeps t h e a
  memory_kept aligned at upper inside = λ kept k.
      sym (none_broken k h e a enables dwords (rw (aligned, ne_eqb h.at 3 at, upper, kept, le-ltb 4096 (a % 4096 + 4 * l) inside)))
