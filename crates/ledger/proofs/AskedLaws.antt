-- What a header asks for, in the words of the code: the word that opening puts, or the number that refuses it. Assumes nothing.
use Rattle.std.specs.Prelude.{Option, Some, None, ◌≡◌, List, ℕ, ◌+◌, ◌*◌, ◌%◌, ◌<◌}
use Rattle.std.proofs.Common.{sym, ap, ◌∙◌, arith, eq-eqb, ne_eqb}
use Rattle.pairs.specs.declared.Kind.{Kind}
use Rattle.packet.specs.declared.Head.{Head}
use Rattle.packet.specs.declared.Packet.{Packet}
use Rattle.packet.specs.Fields.{kind_of, head_of}
use Rattle.tlp.specs.declared.Reading.TheVariants.{Accepted, Refused as Unread}
use Rattle.tlp.specs.Reading.{read_of}
use Rattle.ledger.specs.declared.Asked.{Asked}
use Rattle.ledger.specs.declared.Verdict.{Verdict}
use Rattle.ledger.specs.declared.Verdict.TheVariants.{Refused}
use Rattle.ledger.specs.Words.{half, word_of}
use Rattle.ledger.specs.Ledger.{class_of, key_for, on_request, on_class, opening_of}
use Rattle.ledger.specs.AskedLaws.{Asks, AsksAs, on_asked, word_from}

-- ## In the words of the opening

module _ (s ws : List ℕ) (a : Asked) (asks : Asks a s) where
  pub asked_number : a.key ≡ 0 → Refused (a.low % 256) ≡ opening_of s ws
  asked_number z = sym (rw (eq-eqb a.key 0 z)) ∙ asks ws

  pub asked_word : (a.key ≡ 0 → ⊥) → (w : ℕ) → w ≡ word_from a.key a.low → (v : Verdict) → v ≡ on_request a.key w ws
      → v ≡ opening_of s ws
  asked_word some w e v f = f ∙ rw e (sym (rw (ne_eqb a.key 0 some))) ∙ asks ws

-- ## What is asked

on_number_lem : (a : Asked) (n : ℕ) (ws : List ℕ) → a.key ≡ 0 → a.low ≡ n → n < 256 → on_asked a ws ≡ Refused n
on_number_lem a n ws none low small =
    let same : n % 256 ≡ n = omega (arith, small) in
    rw (eq-eqb a.key 0 none, low) (ap Refused same)

pub asks_number : (s : List ℕ) (n : ℕ) (a : Asked) → read_of s ≡ Unread n → a.key ≡ 0 → a.low ≡ n → n < 256 → Asks a s
unfolding opening_of
asks_number s n a read none low small = λ ws. on_number_lem a n ws none low small ∙ rw read

on_class_lem : (h : Head) (ws : List ℕ) (a : Asked) (class : Option ℕ) → AsksAs class h.requester h.tag h.length a
    → on_asked a ws ≡ on_class class h ws
on_class_lem h ws a (Some class) (key, low) =
    let word : key_for h * half + (h.length * 8 + class) ≡ word_of (key_for h) h.length class = omega arith in
    rw (key, low, ne_eqb (key_for h) 0 (λ z. omega (arith, z))) (rw word)
on_class_lem h ws a None (key, low) = on_number_lem a 60 ws key low (omega arith)

pub asks_word : (s : List ℕ) (p : Packet) → read_of s ≡ Accepted p → (kind : Kind) → kind ≡ kind_of p → (h : Head) → h ≡ head_of p
    → (a : Asked) → AsksAs (class_of kind) h.requester h.tag h.length a → Asks a s
unfolding opening_of
asks_word s p read kind ek h eh a e = λ ws. rw (read, ← ek, ← eh) (on_class_lem h ws a (class_of kind) e)
