-- Worked examples of card to card on bytes, as two tables under one claim: P10's sheet with a card beside its bridge, and each number in
-- its order. Assumes nothing.
use Rattle.std.specs.Prelude.{◌≡◌, refl, ℕ, drop, set}
use mathlib.Core.List.{List, [], ◌∷◌, ◌++◌, flat_map}
use Rattle.endian.specs.Endian.{be, le}
use Rattle.pairs.specs.Pairs.{table, first, find_pair, pair_of}
use Rattle.packet.specs.Rules.{reserved_set, fixed_wrong, upper_zero, enables_wrong, crosses_page, status_wrong}
use Rattle.packet.specs.Rules.{from_rule5, from_rule6, from_rule7, from_rule8, from_rule9, rule_number}
use Rattle.packet.specs.declared.Packet.{Packet}
use Rattle.tlp.specs.declared.Reading.{Reading}
use Rattle.tlp.specs.declared.Reading.TheVariants.{Accepted, Refused as NotRead}
use Rattle.tlp_fields.specs.Fields.{head_at, enables_at, address_at, target_at, outcome_at, unnamed, unnamed_target, unnamed_lower}
use Rattle.tlp.specs.Reading.{judged, read_of}
use Rattle.bar.specs.Bar.{size_from, sized, io_slot, narrow_slot, wide_slot, slot_here, slots}
use Rattle.bar.specs.Values.{is_bar_value, values_fit}
use Rattle.window.specs.Window.{closed, start, stop, is_nibbled}
use Rattle.records.specs.Records.{next_of, parts_over, parts_of}
use Rattle.lists.specs.Lists.{All, keep, any}
use Rattle.walk.specs.Registers.{items_of, items, enabled_in}
use Rattle.walk.specs.Tally.{join, tally_on}
use Rattle.walk.specs.Walk.{walk_over, walk_from}
use Rattle.walk.specs.Climb.{up_from, climb_beside, tally_beside, from_bus, send_from, start_at}
use Rattle.sheet_record.specs.Spaces.{bars_from}
use Rattle.sheet_record.specs.Entry.{dwords, window_of, entry_of}
use Rattle.sheet.specs.Sheet.{all_sized, is_framed, entries_from, commands_of, all_zero, read_backs_wrong, breaks, any_breaks, has_id, id_twice}
use Rattle.sheet.specs.Sheet.{from29, from25, from28, from27, from24, from22, from20, from21, sheet_number}
use Rattle.sheet.specs.Spaces.{functions_from, nodes_from}
use Rattle.sheet.specs.Examples.{p8, p10, sunk}
use Rattle.route.specs.Examples.{MRd, CfgWr0, Msg, target, to_address, F9000FFC, F9001000, FA000000}
use Rattle.route_cards.specs.declared.Sending.{Sending}
use Rattle.route_cards.specs.declared.Sending.TheVariants.{Delivered, Host, Refused}
use Rattle.route_cards.specs.Sending.{send_packet, from_sheet, sending_of}

-- ## P10's sheet, and a third record: a function beside the bridge, its low BAR at FB000000

abbrev beside : List ℕ
beside = set (set (set (drop 93 p10) 2 0) 3 8) 23 0xFB

-- with these low bytes of the three command words
abbrev commanded : ℕ → ℕ → ℕ → List ℕ
commanded a b c = set (set (set (p10 ++ beside) 9 a) 101 b) 193 c

-- memory, I/O and bus master
abbrev all : List ℕ
all = commanded 7 7 7

abbrev FB000000 : List ℕ
FB000000 = 0xFB ∷ 0 ∷ 0 ∷ 0 ∷ []

-- ## The tables

-- a header from a record of a sheet, and what becomes of it
pub record Claim : Type 0 where
  pub number : ℕ
  pub header : List ℕ
  pub sheet : List ℕ
  pub sending : Sending

abbrev pub Holds : Claim → Type 0
Holds c = sending_of c.number c.header c.sheet ≡ c.sending

-- with the packet that is read: of a header that is not accepted no such claim holds
abbrev with : (Packet → Sending) → Reading → Sending
with sending (Accepted p) = sending p
with sending (NotRead n) = Refused 0

abbrev delivers : ℕ → ℕ → Packet → Sending
delivers number bridges p = Delivered (record { owner = number; bridges = bridges; packet = p })

abbrev arrives : ℕ → List ℕ → List ℕ → ℕ → ℕ → Claim
arrives k h s number bridges = record { number = k; header = h; sheet = s; sending = with (delivers number bridges) (read_of h) }

abbrev leaves : ℕ → List ℕ → List ℕ → ℕ → Claim
leaves k h s bridges = record { number = k; header = h; sheet = s; sending = with (Host bridges) (read_of h) }

abbrev refuses : ℕ → List ℕ → List ℕ → ℕ → Claim
refuses k h s n = record { number = k; header = h; sheet = s; sending = Refused n }

abbrev pub requests : List Claim
requests =
    -- down through the bridge beside, and up through the bridge above
    arrives 3 (MRd F9000FFC) all 2 1
    ∷ arrives 2 (MRd FB000000) all 3 1
    -- its own BAR, and room of the window above that nobody has
    ∷ refuses 2 (MRd F9000FFC) all 40
    ∷ refuses 2 (MRd F9001000) all 40
    -- what nobody has goes to the host
    ∷ leaves 2 (MRd FA000000) all 1
    ∷ leaves 3 (MRd FA000000) all 0
    -- bus master before the own BAR, windows before the bridge's bus master
    ∷ refuses 2 (MRd F9000FFC) (commanded 7 3 7) 44
    ∷ refuses 2 (MRd FB000000) (commanded 3 7 7) 44
    ∷ refuses 2 (MRd F9001000) (commanded 3 7 7) 40
    -- the owner needs its space and no bus master, a bridge crossed down the same
    ∷ arrives 2 (MRd FB000000) (commanded 7 7 2) 3 1
    ∷ leaves 2 (MRd FB000000) (commanded 7 7 5) 1
    ∷ arrives 3 (MRd F9000FFC) (commanded 2 2 4) 2 1
    ∷ leaves 3 (MRd F9000FFC) (commanded 5 7 7) 0
    ∷ []

abbrev pub ordered : List Claim
ordered =
    -- 45 for a bridge, for no record, for another kind, a message by address among them; before 44, and before 40 for no functions
    refuses 1 (MRd FB000000) all 45
    ∷ refuses 0 (MRd FB000000) all 45
    ∷ refuses 4 (MRd FB000000) all 45
    ∷ refuses 2 (CfgWr0 (target 0 0)) (commanded 7 3 7) 45
    ∷ refuses 2 (Msg 0b001 (to_address FB000000)) all 45
    ∷ refuses 1 (MRd FB000000) p8 45
    -- the sheet before these, the header before the sheet
    ∷ refuses 0 (MRd FB000000) (sunk p10) 27
    ∷ refuses 0 (MRd []) (sunk p10) 1
    ∷ []

pub examples_hold : All Holds requests × All Holds ordered
unfolding flat_map sending_of from_sheet send_packet start_at send_from from_bus climb_beside tally_beside up_from any read_of pair_of find_pair first
    table judged head_at enables_at address_at target_at outcome_at unnamed unnamed_target unnamed_lower rule_number from_rule5 from_rule6 from_rule7
    from_rule8 from_rule9 reserved_set fixed_wrong upper_zero enables_wrong crosses_page status_wrong walk_from walk_over tally_on join keep items_of
    items enabled_in sheet_number from21 from20 from22 from24 from27 from28 from25 from29 is_framed all_sized entries_from commands_of breaks
    any_breaks all_zero read_backs_wrong has_id id_twice entry_of dwords window_of bars_from functions_from nodes_from be le next_of parts_over parts_of
    closed start stop is_nibbled is_bar_value values_fit slots slot_here wide_slot narrow_slot io_slot sized size_from
examples_hold = (
  (refl, (refl, (refl, (refl, (refl, (refl, (refl, (refl, (refl, (refl, (refl, (refl, (refl, tt))))))))))))),
  (refl, (refl, (refl, (refl, (refl, (refl, (refl, (refl, tt)))))))),
)
