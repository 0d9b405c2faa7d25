-- Where a record that fails a check does so, and whom it meets there. Assumes nothing.
use Rattle.std.specs.Prelude.{Bool, true, false, cond, not, ◌||◌, List, [], ◌∷◌, ◌++◌, ℕ, ◌+◌, get_or, take, drop, eqb}
use Rattle.pools.specs.declared.Pool.TheVariants.{Low, High, Io}
use Rattle.bar.specs.declared.Slot.{Slot}
use Rattle.bar.specs.Bar.{slots}
use Rattle.bar.specs.Values.{value_here, is_value}
use Rattle.window.specs.Window.{is_nibbled}
use Rattle.board_record.specs.declared.Host.{Host}
use Rattle.sheet_record.specs.Entry.{Entry, slot_count}
use Rattle.sheet_above.specs.Parents.{Parent, under_host, under_bridge, under_none, under_several}
use Rattle.audit_rule.specs.declared.Nesting.TheVariants.{OfKind}
use Rattle.audit_rule.specs.Audit.{ranges_above, outside_all, parent_in, way_up_wrong}
use Rattle.finding.specs.declared.Party.{Party}
use Rattle.finding.specs.Places.{window_place, bus_registers, function_id, nobody, party_at}
use Rattle.finding.specs.First.{first}
use Rattle.audit_finding.specs.declared.Check.{Check}
use Rattle.audit_finding.specs.declared.Check.TheVariants.{Whole, HeaderType, Buses, Ids, ReadBacks, Nibbles, Tree, Places, Overlaps}
use Rattle.audit_finding.specs.declared.Relation.TheVariants.{SameId, SharedBuses, Leads}
use Rattle.audit_finding.specs.Placed.{Numbered, numbered, Placed, placed_of, placed_in}
use Rattle.audit_finding.specs.Fails.{least_met, meets, meets_any, starts_elsewhere}

-- ## Places of a record, each with whether it is wrong there

pub record Mark : Type 0 where
  pub place : ℕ
  pub wrong : Bool

-- the place of the first that is wrong
abbrev pub first_wrong : List Mark → ℕ
first_wrong ms = first (λ m. m.wrong) (λ m. m.place) 0 ms

-- 25, slot by slot from slot i on: a read-back, or a value against it; an upper half is part of the slot before
unfoldable pub slot_marks : ℕ → List Slot → List ℕ → List ℕ → List Mark
slot_marks i [] rs vs = []
slot_marks i (x ∷ xs) rs vs =
    record { place = i; wrong = not (is_value x (get_or rs 0 0) (value_here x vs)) } ∷ slot_marks (i + 1) xs (drop 1 rs) (drop 1 vs)

-- 25, "a type 1's last four read-backs not 0"
unfoldable pub rest_marks : ℕ → List ℕ → List Mark
rest_marks i [] = []
rest_marks i (r ∷ rs) = record { place = i; wrong = not (eqb r 0) } ∷ rest_marks (i + 1) rs

unfoldable pub read_back_marks : Entry → List Mark
read_back_marks e =
    let n = slot_count e.header in
    let rs = take n e.readbacks in
    slot_marks 0 (slots rs) rs e.values ++ rest_marks n (drop n e.readbacks)

-- 29: low, high, I/O
abbrev pub nibble_marks : Entry → List Mark
nibble_marks e =
    record { place = window_place Low; wrong = not (is_nibbled Low e.low) }
    ∷ record { place = window_place High; wrong = not (is_nibbled High e.high) }
    ∷ record { place = window_place Io; wrong = not (is_nibbled Io e.io) }
    ∷ []

-- ## 50: by its ID a function is on a bus, by its bus registers a bridge leads to some

abbrev pub is_nowhere : Parent → Bool
is_nowhere under_host = false
is_nowhere (under_bridge b) = false
is_nowhere under_none = true
is_nowhere under_several = true

-- "every function is on that bus or on the secondary bus of exactly one bridge"
abbrev pub has_no_parent : Host → List Entry → Numbered → Bool
has_no_parent h es r = is_nowhere (parent_in h es r.entry)

abbrev pub tree_place : Host → List Entry → Numbered → ℕ
tree_place h es r = cond (starts_elsewhere h r || has_no_parent h es r) function_id bus_registers

-- where two bridges lead to its bus the first of them, and of siblings the first that it shares a bus with
abbrev pub tree_other : Host → List Entry → Numbered → Party
tree_other h es r =
    cond (starts_elsewhere h r) nobody
    (cond (has_no_parent h es r) (party_at (least_met Leads (numbered es) r) bus_registers)
    (cond (way_up_wrong h es r.entry) nobody (party_at (least_met SharedBuses (numbered es) r) bus_registers)))

-- ## 51 and 52: by BARs and open windows

abbrev pub is_outside : Host → List Entry → Placed → Bool
is_outside h es p = outside_all OfKind (ranges_above h (parent_in h es p.owner.entry)) p.range

abbrev pub party_of : Placed → Party
party_of p = record { number = p.owner.number; place = p.place }

-- the least record and place that a BAR or open window meets
unfoldable pub least_meeting : List Numbered → Placed → Party
least_meeting rs p = first (meets p) party_of nobody (placed_in rs)

-- ## The place, and the other party

unfoldable pub place_in : Check → Host → List Entry → Numbered → ℕ
place_in Whole h es r = 0
place_in HeaderType h es r = function_id
place_in Buses h es r = bus_registers
place_in Ids h es r = function_id
place_in ReadBacks h es r = first_wrong (read_back_marks r.entry)
place_in Nibbles h es r = first_wrong (nibble_marks r.entry)
place_in Tree h es r = tree_place h es r
place_in Places h es r = first (is_outside h es) (λ p. p.place) 0 (placed_of r)
place_in Overlaps h es r = first (meets_any (numbered es)) (λ p. p.place) 0 (placed_of r)

unfoldable pub other_of : Check → Host → List Entry → Numbered → Party
other_of Whole h es r = nobody
other_of HeaderType h es r = nobody
other_of Buses h es r = nobody
other_of Ids h es r = party_at (least_met SameId (numbered es) r) function_id
other_of ReadBacks h es r = nobody
other_of Nibbles h es r = nobody
other_of Tree h es r = tree_other h es r
other_of Places h es r = nobody
other_of Overlaps h es r = first (meets_any (numbered es)) (least_meeting (numbered es)) nobody (placed_of r)
