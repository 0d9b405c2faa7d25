-- Document 02, E8: what the passes over a sheet's records insert into an index: the owners as slots, those of one pass and those
-- of one record. Assumes nothing.
use Rattle.std.specs.Prelude.{Bool, cond, ◌&&◌, List, [], ◌∷◌, map, ℕ, ◌+◌, ◌-◌, ◌≤◌, leb, ltb}
use Rattle.pools.specs.declared.Space.{Space}
use Rattle.pools.specs.declared.Space.TheVariants.{Memory, Io as Ports}
use Rattle.pools.specs.Pools.{in_space}
use Rattle.bar.specs.declared.Slot as bars
use Rattle.bar.specs.declared.Slot.TheVariants.{Unused, Bar, Upper, Bad}
use Rattle.bar.specs.Values.{base_of}
use Rattle.walk.specs.Ranges.{Range}
use Rattle.sheet_record.specs.Entry as entries
use Rattle.sheet_record.specs.Entry.{entry_of, command_of}
use Rattle.sheet_record.specs.Spaces.{bar_range, bars_of, enables}
use Rattle.sheet_above.specs.declared.Bridges.{Bridges}
use Rattle.index_rule.specs.Owners as rule
use Rattle.index_rule.specs.Owners.{Owner, owned_of, id_owners, owners_below, exponent_of, word_of}
use Rattle.index_layout.specs.Keys.{id_base, no_key}
use Rattle.index_layout.specs.Words.{word_end}
use Rattle.index_slots.specs.Slots.{Slot}
use Rattle.index_pass.specs.declared.Segment.{Segment}
use Rattle.index_pass.specs.declared.Pass.{Pass}
use Rattle.index_pass.specs.declared.Pass.TheVariants.{Bars, Ids}

-- ## All passes, one after the other

abbrev pub slot_of : Owner → Slot
slot_of x = record { key = x.start; word = word_of x }

abbrev pub slots_below : ℕ → List ℕ → List Slot
slots_below top s = map slot_of (owners_below top s)

-- ## One pass

abbrev pub segment_of : Segment → rule.Segment
segment_of g = record { space = g.space; first = g.first; end = g.end; base = g.base }

abbrev pub pass_owners : Pass → ℕ → List ℕ → List Owner
pass_owners (Bars g) top s = owned_of (segment_of g) top s
pass_owners Ids top s = id_owners top s

abbrev pub pass_slots : Pass → ℕ → List ℕ → List Slot
pass_slots pass top s = map slot_of (pass_owners pass top s)

-- its keys are at most 2^62
abbrev pub Fits : Pass → Type 0
Fits (Bars g) = g.base + g.end ≤ no_key
Fits Ids = Unit {0}

-- ## One record, as the code reads it

abbrev pub all_on : Space → Bridges → Bool
all_on Memory b = b.memory
all_on Ports b = b.io

-- of the BARs that start in the segment
unfoldable pub bar_slots : Segment → ℕ → List Range → List Slot
bar_slots g end [] = []
bar_slots g end (r ∷ rs) =
    let rest = bar_slots g end rs in
    let own : Slot = record { key = g.base + r.start; word = exponent_of (r.stop - r.start) + end } in
    cond (leb g.first r.start && ltb r.start g.end) (own ∷ rest) rest

-- the BAR of a slot with this value in its registers
abbrev pub bar_in : Space → bars.Slot → ℕ → List Range
bar_in space Unused v = []
bar_in space (Bar q wide size) v = cond (in_space space q) (bar_range q (base_of (Bar q wide size) v) size ∷ []) []
bar_in space Upper v = []
bar_in space Bad v = []

-- p is the record's part
abbrev pub record_slots : Pass → Bridges → ℕ → List ℕ → List Slot
record_slots (Bars g) b number p =
    let end = word_end b.count number in
    cond (enables g.space (command_of p) && all_on g.space b) (bar_slots g end (bars_of g.space (entry_of p))) []
record_slots Ids b number p = record { key = id_base + entries.id_of p; word = word_end b.count number } ∷ []
