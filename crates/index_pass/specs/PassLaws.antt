-- The pass record by record, in the words of the code: what each record puts in, one after the other, is what the pass puts in. Assumes
-- nothing.
use Rattle.std.specs.Prelude.{◌≡◌, refl, Bool, true, false, ◌&&◌, ℕ, suc, ◌+◌, ◌-◌, ◌*◌, ◌≤◌, ◌<◌, length, leb, ltb}
use Rattle.std.proofs.Math.Path.{sym, ap}
use Rattle.std.proofs.Common.{ap₂, ◌∙◌, arith}
use Rattle.std.proofs.Math.Bool.{cond}
use mathlib.Core.List.{List, [], ◌∷◌, ◌++◌, map, map-append, append-nil}
use Rattle.std.proofs.lemmas.List.{length-map}
use Rattle.lists.specs.Lists.{keep}
use Rattle.pools.specs.declared.Space.{Space}
use Rattle.pools.specs.declared.Space.TheVariants.{Memory, Io as Ports}
use Rattle.bar.specs.Bar.{any_bad}
use Rattle.walk.specs.Ranges.{Range}
use Rattle.walk.specs.Registers.{Node}
use Rattle.walk.specs.Above.{above}
use Rattle.sheet_record.specs.Entry as entries
use Rattle.sheet_record.specs.Entry.{entry_of, bus_of, command_of}
use Rattle.sheet_record.specs.Spaces.{node_of, slots_of, bars_of, enables}
use Rattle.sheet.specs.Sheet.{Framed, entries_of, part_at}
use Rattle.sheet.proofs.SheetLaws.{Checked, lawful_index}
use Rattle.sheet.proofs.IndexLaws.{enabled_index}
use Rattle.sheet.specs.Spaces.{nodes_of, enabled_of}
use Rattle.index_rule.specs.Owners.{Owner, is_live, bar_owner, id_owner, moved, starts_in, owned_of}
use Rattle.sheet_above.specs.declared.Bridges.{Bridges}
use Rattle.sheet_above.specs.Bridges.{all_enabled, bridges_over}
use Rattle.sheet_above.specs.BridgesLaws.{bus_of_part}
use Rattle.index_rule.specs.Owners.{id_owners, low_memory, high_memory, ports, owners_below, exponent_over, exponent_of}
use Rattle.index_rule.proofs.CountLaws.{seven_each}
use Rattle.index_rule.proofs.PassLaws.{taken, owned_after, ids_after, owned_start, ids_start, owned_end, ids_end, owned_step, ids_step}
use Rattle.index_layout.specs.Places.{most_slots}
use Rattle.index_layout.specs.Keys.{low_end, memory_end, io_size, io_base, id_base, no_key}
use Rattle.index_layout.specs.Words.{word_from, word_end}
use Rattle.index_slots.specs.Slots.{Slot, placed}
use Rattle.index_pass.specs.declared.Segment.{Segment}
use Rattle.index_pass.specs.declared.Pass.{Pass}
use Rattle.index_pass.specs.declared.Pass.TheVariants.{Bars, Ids}
use Rattle.index_pass.specs.Pass.{slot_of, segment_of, slots_below, pass_slots, Fits, all_on, bar_slots, record_slots}
use Rattle.index_pass.specs.PlacingLaws.{Placing, placing_start, placing_end, placing_room, placing_next}

-- ## By records

-- what is left from record k on
unfoldable pub slots_after : Pass → ℕ → List ℕ → ℕ → List Slot
slots_after (Bars g) top s k = map slot_of (owned_after (segment_of g) top s k)
slots_after Ids top s k = map slot_of (ids_after top s k)

pub pass_start : (pass : Pass) (top : ℕ) (s : List ℕ) → slots_after pass top s 0 ≡ pass_slots pass top s
unfolding slots_after
pass_start (Bars g) top s = ap (map slot_of) (owned_start (segment_of g) top s)
pass_start Ids top s = ap (map slot_of) (ids_start top s)

pub pass_end : (s : List ℕ) → Framed 1 s → (pass : Pass) (top k : ℕ) → length (entries_of s) ≤ k → slots_after pass top s k ≡ []
unfolding slots_after
pass_end s f (Bars g) top k h = ap (map slot_of) (owned_end top s f k (segment_of g) h)
pass_end s f Ids top k h = ap (map slot_of) (ids_end top s f k h)

-- ## The slots of one record

-- the words of a function's BARs
bar_slots_of : (g : Segment) (top : ℕ) (ns : List Node) (n : Node) (end : ℕ)
    → word_end (length (above top ns n.bus)) n.number ≡ end
    → (rs : List Range) → map slot_of (taken (segment_of g) top ns n rs) ≡ bar_slots g end rs
unfolding taken keep bar_slots
bar_slots_of g top ns n end e [] = refl
bar_slots_of g top ns n end e (r ∷ rs) = go (leb g.first r.start && ltb r.start g.end) (bar_slots_of g top ns n end e rs)
  where
    later : List Owner
    later = keep (starts_in (segment_of g)) (map (bar_owner top ns n) rs)

    size : g.base + r.stop - (g.base + r.start) ≡ r.stop - r.start
    size = omega arith

    word : word_from (exponent_of (g.base + r.stop - (g.base + r.start))) (length (above top ns n.bus)) n.number
        ≡ exponent_of (r.stop - r.start) + end
    word = rw size (omega (arith, e))

    own : slot_of (moved g.base (bar_owner top ns n r)) ≡ record { key = g.base + r.start; word = exponent_of (r.stop - r.start) + end }
    own = ap (λ (w : ℕ). record { key = g.base + r.start; word = w }) word

    go : (t : Bool) → map slot_of (map (moved g.base) later) ≡ bar_slots g end rs
        → map slot_of (map (moved g.base) (cond t (bar_owner top ns n r ∷ later) later))
        ≡ cond t (record { key = g.base + r.start; word = exponent_of (r.stop - r.start) + end } ∷ bar_slots g end rs) (bar_slots g end rs)
    go true q = ap₂ ◌∷◌ own q
    go false q = q

id_of_part : (p : List ℕ) → (entry_of p).id ≡ entries.id_of p
unfolding entry_of
id_of_part p = refl

-- the code's bits of the bridges above are the walk's
on_of_above : (space : Space) (s : List ℕ) (top bus : ℕ)
    → all_on space (bridges_over s top bus) ≡ all_enabled (enabled_of space s) (above top (nodes_of s) bus)
on_of_above Memory s top bus = refl
on_of_above Ports s top bus = refl

-- in the words of the code: t and u are the tests
module _ (pass : Pass) (b : Bridges) (number : ℕ) (p : List ℕ) (end : ℕ) (is : end ≡ word_end b.count number) where
  module _ (g : Segment) (e : pass ≡ Bars g) (t u : Bool) (own : t ≡ enables g.space (command_of p))
      (above : u ≡ all_on g.space b) where
    pub record_live : (t && u) ≡ true → record_slots pass b number p ≡ bar_slots g end (bars_of g.space (entry_of p))
    record_live y = rw (e, ← own, ← above, y, ← is)

    pub record_off : (t && u) ≡ false → record_slots pass b number p ≡ []
    record_off n = rw (e, ← own, ← above, n)

  pub record_id_lem : pass ≡ Ids → (id : ℕ) → id ≡ entries.id_of p
      → record_slots pass b number p ≡ record { key = id_base + id; word = end } ∷ []
  record_id_lem e id i = rw (e, i, is)

pub fits_bars : (pass : Pass) (g : Segment) → pass ≡ Bars g → Fits pass → g.base + g.end ≤ no_key
fits_bars pass g e f = rw e at f

-- record k of a checked sheet: p is its part, b are the bridges above it
module _ (s : List ℕ) (f : Framed 1 s) (k : ℕ) (h : k < length (entries_of s)) (p : List ℕ) (is : p ≡ part_at s k) (top bus : ℕ)
    (on : bus ≡ bus_of p) (b : Bridges) (over : b ≡ bridges_over s top bus) where
  abbrev node : Node
  node = node_of (k + 1) (entry_of p)

  bus_is : node.bus ≡ bus
  bus_is = sym (on ∙ bus_of_part p)

  ends : word_end (length (above top (nodes_of s) node.bus)) (k + 1) ≡ word_end b.count (k + 1)
  ends = rw (bus_is, over)

  live : (space : Space) → is_live top (nodes_of s) (enabled_of space s) node ≡ (enables space (command_of p) && all_on space b)
  live space =
      ap₂ (λ (t u : Bool). t && u)
      (enabled_index s f space k h ∙ ap (λ (q : List ℕ). enables space (command_of q)) (sym is))
      (ap (λ (n : ℕ). all_enabled (enabled_of space s) (above top (nodes_of s) n)) bus_is
      ∙ sym (on_of_above space s top bus)
      ∙ ap (all_on space) (sym over))

  abbrev id_slot : ℕ → Slot
  id_slot w = record { key = id_base + entries.id_of p; word = w }

  -- what is left before and after it
  pub pass_step : (pass : Pass) → slots_after pass top s k ≡ record_slots pass b (k + 1) p ++ slots_after pass top s (k + 1)
  unfolding slots_after exponent_of exponent_over
  pass_step (Bars g) =
      let own = cond (is_live top (nodes_of s) (enabled_of g.space s) node) (taken (segment_of g) top (nodes_of s) node bars) [] in
      let rest = owned_after (segment_of g) top s (k + 1) in
      let step : owned_after (segment_of g) top s k ≡ own ++ rest = rw is (owned_step top s f k h (segment_of g)) in
      let here : map slot_of own ≡ record_slots (Bars g) b (k + 1) p =
      rw (live g.space) (go (enables g.space (command_of p) && all_on g.space b)) in
      ap (map slot_of) step ∙ map-append slot_of own rest ∙ ap (◌++ map slot_of rest) here
    where
      bars : List Range
      bars = bars_of g.space (entry_of p)

      go : (t : Bool)
          → map slot_of (cond t (taken (segment_of g) top (nodes_of s) node bars) [])
          ≡ cond t (bar_slots g (word_end b.count (k + 1)) bars) []
      go true = bar_slots_of g top (nodes_of s) node (word_end b.count (k + 1)) ends bars
      go false = refl
  pass_step Ids =
      let id : node.bus * 256 + node.devfn ≡ entries.id_of p = omega (arith, id_of_part p) in
      let one : id_base + suc (entries.id_of p) - (id_base + entries.id_of p) ≡ 1 = omega arith in
      let bridges = length (above top (nodes_of s) bus) in
      let rest = ids_after top s (k + 1) in
      let step : ids_after top s k ≡ moved id_base (id_owner top (nodes_of s) node) ∷ rest = rw is (ids_step top s f k h) in
      let word : word_from 0 bridges (k + 1) ≡ word_end bridges (k + 1) = omega arith in
      let here : slot_of (moved id_base (id_owner top (nodes_of s) node)) ≡ id_slot (word_end b.count (k + 1)) =
      rw (id, one, bus_is, over) (ap id_slot word) in
      ap (map slot_of) step ∙ ap (◌∷ map slot_of rest) here

-- no slot of it is unlawful
pub part_lawful : (s : List ℕ) → Checked s → (k : ℕ) → k < length (entries_of s) → (p : List ℕ) → p ≡ part_at s k
    → any_bad (slots_of (entry_of p)) ≡ false
part_lawful s c k h p e = rw e (lawful_index s c k h)

-- ## The four passes

abbrev pub low_pass : Pass
low_pass = Bars (record { space = Memory; first = 0; end = low_end; base = 0 })

abbrev pub high_pass : Pass
high_pass = Bars (record { space = Memory; first = low_end; end = memory_end; base = 0 })

abbrev pub io_pass : Pass
io_pass = Bars (record { space = Ports; first = 0; end = io_size; base = io_base })

module _ (top : ℕ) (s : List ℕ) where
  -- what is left after three passes, two, one and none
  abbrev pub from_ids : List Slot
  from_ids = pass_slots Ids top s ++ []

  abbrev pub from_io : List Slot
  from_io = pass_slots io_pass top s ++ from_ids

  abbrev pub from_high : List Slot
  from_high = pass_slots high_pass top s ++ from_io

  abbrev pub from_low : List Slot
  from_low = pass_slots low_pass top s ++ from_high

  pub passes_start : from_low ≡ slots_below top s
  unfolding owners_below
  passes_start =
      let low = owned_of low_memory top s in
      let high = owned_of high_memory top s in
      let io = owned_of ports top s in
      let ids = id_owners top s in
      sym (map-append slot_of low (high ++ (io ++ ids))
      ∙ ap (map slot_of low ++◌) (map-append slot_of high (io ++ ids)
      ∙ ap (map slot_of high ++◌) (map-append slot_of io ids
      ∙ ap (map slot_of io ++◌) (sym (append-nil (map slot_of ids))))))

  pub passes_room : 0 + length (slots_below top s) ≤ most_slots (length (entries_of s))
  passes_room = omega (arith, length-map (owners_below top s) slot_of, seven_each top s)

-- in the words of the code: o₁ and c₁ are the bytes and the slots after the first pass
module _ (n top : ℕ) (s : List ℕ) (len : n ≡ length (entries_of s)) (o₀ : List ℕ) where
  abbrev all : List Slot
  all = slots_below top s

  abbrev slots : Pass → List Slot
  slots pass = pass_slots pass top s

  room : 0 + length all ≤ most_slots n
  room = omega (arith, len, passes_room top s)

  first : Placing n all 0 o₀ (from_low top s) 0 o₀
  first = placing_start n all 0 o₀ (from_low top s) (passes_start top s)

  pub low_room : 0 + length (slots low_pass) ≤ most_slots n
  low_room = placing_room n all 0 o₀ (from_low top s) 0 o₀ first (slots low_pass) (from_high top s) refl (most_slots n) room

  module _ (o₁ : List ℕ) (c₁ : ℕ) (l₁ : length o₁ ≡ length o₀) (e₁ : o₁ ≡ placed 0 n (slots low_pass) o₀)
      (d₁ : c₁ ≡ 0 + length (slots low_pass)) where
    second : Placing n all 0 o₀ (from_high top s) c₁ o₁
    second = placing_next n all 0 o₀ (from_low top s) 0 o₀ first (slots low_pass) (from_high top s) refl o₁ c₁ l₁ e₁ d₁

    pub high_room : c₁ + length (slots high_pass) ≤ most_slots n
    high_room = placing_room n all 0 o₀ (from_high top s) c₁ o₁ second (slots high_pass) (from_io top s) refl (most_slots n) room

    module _ (o₂ : List ℕ) (c₂ : ℕ) (l₂ : length o₂ ≡ length o₁) (e₂ : o₂ ≡ placed c₁ n (slots high_pass) o₁)
        (d₂ : c₂ ≡ c₁ + length (slots high_pass)) where
      third : Placing n all 0 o₀ (from_io top s) c₂ o₂
      third = placing_next n all 0 o₀ (from_high top s) c₁ o₁ second (slots high_pass) (from_io top s) refl o₂ c₂ l₂ e₂ d₂

      pub io_room : c₂ + length (slots io_pass) ≤ most_slots n
      io_room = placing_room n all 0 o₀ (from_io top s) c₂ o₂ third (slots io_pass) (from_ids top s) refl (most_slots n) room

      module _ (o₃ : List ℕ) (c₃ : ℕ) (l₃ : length o₃ ≡ length o₂) (e₃ : o₃ ≡ placed c₂ n (slots io_pass) o₂)
          (d₃ : c₃ ≡ c₂ + length (slots io_pass)) where
        fourth : Placing n all 0 o₀ (from_ids top s) c₃ o₃
        fourth = placing_next n all 0 o₀ (from_io top s) c₂ o₂ third (slots io_pass) (from_ids top s) refl o₃ c₃ l₃ e₃ d₃

        pub ids_room : c₃ + length (slots Ids) ≤ most_slots n
        ids_room = placing_room n all 0 o₀ (from_ids top s) c₃ o₃ fourth (slots Ids) [] refl (most_slots n) room

        pub passes_end : (o₄ : List ℕ) (c₄ : ℕ) → length o₄ ≡ length o₃ → o₄ ≡ placed c₃ n (slots Ids) o₃ → c₄ ≡ c₃ + length (slots Ids)
            → (o₄ ≡ placed 0 n all o₀) × (c₄ ≡ length all)
        passes_end o₄ c₄ l₄ e₄ d₄ =
            let last = placing_next n all 0 o₀ (from_ids top s) c₃ o₃ fourth (slots Ids) [] refl o₄ c₄ l₄ e₄ d₄ in
            let done = placing_end n all 0 o₀ [] c₄ o₄ last refl in
            (done.0, omega (arith, done.1))
