-- A header by an index: refused with 1 to 99, or a packet by it, and what its slots say of a key. Assumes nothing.
use Rattle.std.specs.Prelude.{refl, List, ℕ}
use Rattle.refusals.specs.Refusals.{IsRefusal}
use Rattle.refusals.specs.RefusalsLaws.{refusal, either}
use Rattle.packet.specs.declared.Packet.{Packet}
use Rattle.tlp.specs.declared.Reading.{Reading}
use Rattle.tlp.specs.declared.Reading.TheVariants.{Accepted, Refused as NotRead}
use Rattle.tlp.specs.Reading.{read_of}
use Rattle.tlp.specs.NumberLaws.{NumberedReading, numbered_read}
use Rattle.walk.specs.Walk.{Outcome, delivered, refused, no_owner}
use Rattle.walk.proofs.NumberLaws.{NumberedOutcome}
use Rattle.claims.specs.declared.Aim.{Aim}
use Rattle.route_answer.specs.declared.Routing.{Routing}
use Rattle.route_answer.specs.declared.Routing.TheVariants.{Refused}
use Rattle.route_answer.proofs.NumberLaws.{Numbered, numbered_over}
use Rattle.index_rule.specs.Owners.{key_of, in_reach}
use Rattle.index_rule.specs.Search.{is_over}
use Rattle.index_layout.specs.Keys.{segment_of}
use Rattle.index_layout.specs.Words.{record_in, bridges_in}
use Rattle.index_slots.specs.Slots.{key_at, word_at}
use Rattle.index_table.specs.Search.{found_at}
use Rattle.index_search.specs.Search.{functions_in, root_in, answer_over, outcome_over, search_packet, from_reading, search_of}

-- what holds of 40 and of each word's record and bridges holds of what an index has for an aim
pub outcome_elim : (P : Outcome → Type 0) (ix : List ℕ) (n : ℕ) → P (refused no_owner)
    → ((word : ℕ) → P (delivered (record_in word) (bridges_in word))) → (aim : Aim) → P (outcome_over ix n aim)
unfolding outcome_over answer_over
outcome_elim P ix n nobody owned aim =
    let key = key_of aim in
    let i = found_at ix n (segment_of key) key in
    let word = word_at ix n i in
    let found = delivered (record_in word) (bridges_in word) in
    either P (in_reach aim) (answer_over ix n key) (refused no_owner)
    (either P (is_over (key_at ix n i) word key) found (refused no_owner) (owned word) nobody) nobody

-- what holds of every refusal, and of each packet, holds of a header
pub search_elim : (P : Routing → Type 0) (header ix : List ℕ) → ((n : ℕ) → IsRefusal n → P (Refused n))
    → ((p : Packet) → P (search_packet p ix)) → P (search_of header ix)
unfolding search_of
search_elim P header ix refuses searches = go (read_of header) (numbered_read header)
  where
    go : (r : Reading) → NumberedReading r → P (from_reading r ix)
    go (Accepted p) h = searches p
    go (NotRead n) h = refuses n h

numbered_packet : (p : Packet) (ix : List ℕ) → Numbered (search_packet p ix)
unfolding search_packet
numbered_packet p ix =
    let n = functions_in ix in
    numbered_over n (root_in ix) (λ aim. outcome_over ix n aim)
    (outcome_elim NumberedOutcome ix n (refusal 40 refl) (λ word. tt)) p

pub numbered_search : (header ix : List ℕ) → Numbered (search_of header ix)
numbered_search header ix = search_elim Numbered header ix (λ n h. h) (λ p. numbered_packet p ix)
