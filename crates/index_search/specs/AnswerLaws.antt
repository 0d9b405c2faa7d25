-- What the search answers, one step each in the words of the code. Assumes nothing.
use Rattle.std.specs.Prelude.{◌≡◌, Bool, not, ◌&&◌, List, ℕ, ◌+◌, ◌-◌, ◌/◌, ◌%◌, ◌^◌, ◌<◌, ◌≤◌, eqb}
use Rattle.std.proofs.Math.Path.{refl, ap}
use Rattle.std.proofs.Common.{sym, ◌∙◌, arith}
use Rattle.std.proofs.Math.Bool.{true, false, cond, and-false}
use Rattle.std.proofs.Math.ListN.{length, get_or-eq_default}
use Rattle.std.proofs.Math.Dec.{ltb}
use borrow.Author.Tests.{eq-eqb, ne_eqb, lt-ltb, le-ltb, ltb-true, ltb-false, lt-leb, le-leb}
use Rattle.endian.specs.Endian.{le}
use Rattle.packet.specs.declared.Packet.{Packet}
use Rattle.tlp.specs.declared.Reading.{Reading}
use Rattle.tlp.specs.declared.Reading.TheVariants.{Accepted, Refused as NotRead}
use Rattle.tlp.specs.Reading.{number_of as reading_number, read_of}
use Rattle.walk.specs.Walk.{delivered, refused, no_owner}
use Rattle.pools.specs.declared.Space.{Space}
use Rattle.pools.specs.declared.Space.TheVariants.{Memory, Io as Ports}
use Rattle.claims.specs.declared.Aim.{Aim}
use Rattle.claims.specs.declared.Aim.TheVariants.{Address, Id}
use Rattle.index_rule.specs.Owners.{key_of, in_reach}
use Rattle.index_rule.specs.Search.{is_over}
use Rattle.index_layout.specs.Places.{root_place, index_size, functions_place}
use Rattle.index_layout.specs.Keys.{memory_end, io_size, id_size, io_base, id_base, no_key, segment_of}
use Rattle.index_layout.specs.Words.{record_in, bridges_in, size_in, word_limit}
use Rattle.index_slots.specs.Slots.{key_at, word_at}
use Rattle.route_answer.specs.declared.Routing.{Routing}
use Rattle.route_answer.specs.declared.Routing.TheVariants.{Delivered, Refused}
use Rattle.route_answer.specs.Routing.{arrives, answer, route_over}
use Rattle.index_table.specs.Search.{found_at}
use Rattle.index_search.specs.Search.{functions_in, root_in, answer_over, outcome_by, outcome_over}
use Rattle.index_search.specs.Search.{search_packet, from_reading, search_of}

-- ## An index's number of functions

module _ (ix : List ℕ) where
  pub functions_of_few : length ix < index_size 0 → 0 ≡ functions_in ix
  unfolding functions_in
  functions_of_few h = rw (lt-ltb (length ix) (index_size (le 2 ix functions_place)) (omega (arith, h)))

  -- n is what the first two bytes say
  module _ (n : ℕ) (e : n ≡ le 2 ix functions_place) where
    pub functions_of_short : length ix < index_size n → 0 ≡ functions_in ix
    unfolding functions_in
    functions_of_short h = rw (lt-ltb (length ix) (index_size (le 2 ix functions_place)) (omega (arith, h, e)))

    pub functions_of_enough : index_size n ≤ length ix → n ≡ functions_in ix
    unfolding functions_in
    functions_of_enough h = e ∙ rw (le-ltb (length ix) (index_size (le 2 ix functions_place)) (omega (arith, h, e)))

  -- an index with functions is as long as it says
  pub functions_fit : (n : ℕ) → n ≡ functions_in ix → ¬ (n ≡ 0) → index_size n ≤ length ix
  unfolding functions_in
  functions_fit n e some = go (ltb (length ix) (index_size (le 2 ix functions_place))) refl e
    where
      go : (t : Bool) → ltb (length ix) (index_size (le 2 ix functions_place)) ≡ t → n ≡ cond t 0 (le 2 ix functions_place)
          → index_size n ≤ length ix
      go true f g = absurd (some g)
      go false f g = omega (arith, g, ltb-false (length ix) (index_size (le 2 ix functions_place)) f)

-- ## Its root bus

pub root_of_short : (ix : List ℕ) → length ix ≤ root_place → 0 ≡ root_in ix
root_of_short ix h = sym (get_or-eq_default ix 0 {n = 2} (omega (arith, h)))

-- ## A slot

module _ (start word key : ℕ) where
  pub over_before : key < start → false ≡ is_over start word key
  over_before h = rw (lt-leb start key h) (sym (and-false (not (eqb (record_in word) 0))))

  pub over_from : start ≤ key → not (eqb (record_in word) 0) && eqb ((key - start) / size_in word) 0 ≡ is_over start word key
  over_from h = rw (le-leb start key h)

-- ## A key

pub key_of_memory : (aim : Aim) (space : Space) (a : ℕ) → aim ≡ Address space a → space ≡ Memory
    → (ltb a memory_end ≡ in_reach aim) × (in_reach aim ≡ true → (a ≡ key_of aim) × (a < no_key))
key_of_memory aim space a e f =
    let g : aim ≡ Address Memory a = e ∙ ap (λ (s : Space). Address s a) f in
    (sym (ap in_reach g), λ h. (sym (ap key_of g), omega (arith, ltb-true a memory_end (sym (ap in_reach g) ∙ h))))

pub key_of_port : (aim : Aim) (space : Space) (a : ℕ) → aim ≡ Address space a → space ≡ Ports
    → (ltb a io_size ≡ in_reach aim) × (in_reach aim ≡ true → (io_base + a ≡ key_of aim) × (io_base + a < no_key))
key_of_port aim space a e f =
    let g : aim ≡ Address Ports a = e ∙ ap (λ (s : Space). Address s a) f in
    (sym (ap in_reach g), λ h. (sym (ap key_of g), omega (arith, ltb-true a io_size (sym (ap in_reach g) ∙ h))))

pub key_of_id : (aim : Aim) (id : ℕ) → aim ≡ Id id
    → (ltb id id_size ≡ in_reach aim) × (in_reach aim ≡ true → (id_base + id ≡ key_of aim) × (id_base + id < no_key))
key_of_id aim id e = (sym (ap in_reach e), λ h. (sym (ap key_of e), omega (arith, ltb-true id id_size (sym (ap in_reach e) ∙ h))))

-- ## The word found for a key

-- the low four bytes of a word say what the word does
module _ (w : ℕ) where
  abbrev low : ℕ
  low = w % word_limit

  record_low : record_in low ≡ record_in w
  record_low = omega arith

  bridges_low : bridges_in low ≡ bridges_in w
  bridges_low = omega arith

  size_low : size_in low ≡ size_in w
  size_low = ap (λ (k : ℕ). 2 ^ k) (omega arith)

module _ (ix : List ℕ) (n key w i start : ℕ) (among : w ≡ segment_of key) (found : i ≡ found_at ix n w key) (key_is_lem : start ≡ key_at ix n i)
    (word : ℕ) (word_is : word ≡ word_at ix n i) (over : Bool) (tested : over ≡ is_over start (low word) key) where
  slot_says : (t : Bool) → over ≡ t → cond t (delivered (record_in word) (bridges_in word)) (refused no_owner) ≡ answer_over ix n key
  unfolding answer_over
  slot_says t e = rw (← among, ← found, ← key_is_lem, ← word_is, ← record_low word, ← size_low word, ← tested, e)

  pub word_not_over : over ≡ false → outcome_by 0 ≡ answer_over ix n key
  word_not_over e = slot_says false e

  -- a slot that holds a key has a record
  has_record : (t rest : Bool) → not t && rest ≡ true → t ≡ false
  has_record true rest h = sym h
  has_record false rest h = refl

  pub word_over : over ≡ true → outcome_by (low word) ≡ answer_over ix n key
  word_over e =
      rw (has_record (eqb (record_in (low word)) 0) _ (sym tested ∙ e), record_low word, bridges_low word) (slot_says true e)

-- ## What a packet is looked for by

module _ (p : Packet) (ix : List ℕ) (n : ℕ) (aim : Aim) (r : Bool) (e : r ≡ in_reach aim) where
  pub aimed_out_of_reach : r ≡ false → Refused 40 ≡ answer p (outcome_over ix n aim)
  unfolding outcome_over
  aimed_out_of_reach f = rw (← e, f)

  -- the word found for its key
  module _ (f : r ≡ true) (key word : ℕ) (keyed : key ≡ key_of aim) (found : outcome_by word ≡ answer_over ix n key) where
    by_word : outcome_over ix n aim ≡ outcome_by word
    unfolding outcome_over
    by_word = rw (← e, f, ← keyed) (sym found)

    pub aimed_at_nobody : record_in word ≡ 0 → Refused 40 ≡ answer p (outcome_over ix n aim)
    aimed_at_nobody z = rw (by_word, eq-eqb (record_in word) 0 z)

    pub aimed_at_owner : ¬ (record_in word ≡ 0) → (r : Routing) → r ≡ Delivered (arrives p (record_in word) (bridges_in word))
        → r ≡ answer p (outcome_over ix n aim)
    aimed_at_owner some r h = h ∙ sym (rw (by_word, ne_eqb (record_in word) 0 some))

-- ## A packet

-- n functions and a root bus
pub over_index : (p : Packet) (ix : List ℕ) (n top : ℕ) → n ≡ functions_in ix → top ≡ root_in ix
    → route_over n top (λ aim. outcome_over ix n aim) p ≡ search_packet p ix
unfolding search_packet
over_index p ix n top count first =
    ap (λ (b : ℕ). route_over n b (λ aim. outcome_over ix n aim) p) first
    ∙ ap (λ (k : ℕ). route_over k (root_in ix) (λ aim. outcome_over ix k aim) p) count

-- ## A header

module _ (header ix : List ℕ) (reading : Reading) (e : reading ≡ read_of header) where
  pub header_refused : (n m : ℕ) → reading ≡ NotRead n → m ≡ reading_number reading → Refused m ≡ search_of header ix
  unfolding search_of
  header_refused n m f g = ap Refused (g ∙ ap reading_number f) ∙ ap (λ (r : Reading). from_reading r ix) (sym f ∙ e)

  pub packet_searched : (p : Packet) (r : Routing) → reading ≡ Accepted p → r ≡ search_packet p ix → r ≡ search_of header ix
  unfolding search_of
  packet_searched p r f q = q ∙ ap (λ (x : Reading). from_reading x ix) (sym f ∙ e)
