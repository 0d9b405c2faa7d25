-- What the search by an index answers for a header that goes by an address or an ID: the slot's word that is found for its key decides.
-- Assumes nothing.
use Rattle.std.specs.Prelude.{ℕ, ◌≡◌, Bool, List, eqb}
use Rattle.std.proofs.Math.Path.{refl, sym, ap}
use Rattle.std.proofs.Common.{◌∙◌, eq-eqb, ne_eqb}
use Rattle.std.proofs.Math.Bool.{true, false, cond}
use Rattle.packet.specs.declared.Packet.{Packet}
use Rattle.tlp.specs.declared.Reading.TheVariants.{Accepted}
use Rattle.tlp.specs.Reading.{read_of}
use Rattle.walk.specs.Walk.{Outcome, delivered, refused, no_owner}
use Rattle.claims.specs.declared.Aim.{Aim}
use Rattle.route_arrival.specs.declared.Heading.TheVariants.{Aimed}
use Rattle.route_arrival.specs.Arrival.{heading_of, type_wrong}
use Rattle.route_answer.specs.declared.Routing.TheVariants.{Refused}
use Rattle.route_answer.specs.Routing.{answer}
use Rattle.index_rule.specs.Owners.{key_of, in_reach}
use Rattle.index_layout.specs.Words.{record_in, bridges_in}
use Rattle.index_search.specs.Search.{functions_in, root_in, answer_over, outcome_by, outcome_over, outcome_in, search_packet, search_of}
use Rattle.index_find.specs.Found.{outcome_at}

-- ## The word found for a key

module _ (ix : List ℕ) (key n : ℕ) (count : n ≡ functions_in ix) where
  pub word_of_none : n ≡ 0 → outcome_by 0 ≡ outcome_at ix key
  unfolding outcome_at
  word_of_none z = rw (eq-eqb (functions_in ix) 0 (sym count ∙ z))

  pub word_of_some : ¬ (n ≡ 0) → (word : ℕ) → outcome_by word ≡ answer_over ix n key → outcome_by word ≡ outcome_at ix key
  unfolding outcome_at
  word_of_some some word found =
      found ∙ ap (λ (m : ℕ). answer_over ix m key) count ∙ sym (rw (ne_eqb (functions_in ix) 0 (λ z. some (count ∙ z))))

-- ## A packet by an address or an ID

module _ (header ix : List ℕ) (p : Packet) (aim : Aim) (read : read_of header ≡ Accepted p) (headed : heading_of p ≡ Aimed aim)
    (typed : type_wrong (root_in ix) p ≡ false) where
  -- no functions have no owner
  abbrev outcome : Outcome
  outcome = cond (eqb (functions_in ix) 0) (refused no_owner) (outcome_in ix aim)

  searched : search_of header ix ≡ answer p outcome
  unfolding search_of search_packet
  searched = rw (read, typed, headed) (go (eqb (functions_in ix) 0))
    where
      go : (t : Bool) → cond t (Refused no_owner) (answer p (outcome_in ix aim)) ≡ answer p (cond t (refused no_owner) (outcome_in ix aim))
      go true = refl
      go false = refl

  answered : (o : Outcome) → outcome ≡ o → search_of header ix ≡ answer p o
  answered o e = searched ∙ ap (answer p) e

  pub out_of_reach : in_reach aim ≡ false → search_of header ix ≡ Refused no_owner
  unfolding outcome_over
  out_of_reach far = answered (refused no_owner) (rw far (go (eqb (functions_in ix) 0)))
    where
      go : (t : Bool) → cond t (refused no_owner) (refused no_owner) ≡ refused no_owner
      go true = refl
      go false = refl

  module _ (near : in_reach aim ≡ true) (word : ℕ) (found : outcome_by word ≡ outcome_at ix (key_of aim)) where
    pub by_word : search_of header ix ≡ answer p (outcome_by word)
    unfolding outcome_over outcome_at
    by_word = answered (outcome_by word) (rw near (sym found))

    pub no_owner_lem : record_in word ≡ 0 → search_of header ix ≡ Refused no_owner
    no_owner_lem z = by_word ∙ rw (eq-eqb (record_in word) 0 z)

    pub owned : ¬ (record_in word ≡ 0) → search_of header ix ≡ answer p (delivered (record_in word) (bridges_in word))
    owned some = by_word ∙ rw (ne_eqb (record_in word) 0 some)
