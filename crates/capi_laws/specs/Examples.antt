-- Worked examples of the C boundary, as one table under one claim: P10's reads as numbers, and each number in its order. Assumes nothing.
use Rattle.std.specs.Prelude.{◌≡◌, refl, ℕ, replicate}
use mathlib.Core.List.{List, [], ◌∷◌, ◌++◌, flat_map}
use Rattle.endian.specs.Endian.{be, le, be_bytes}
use Rattle.pairs.specs.Pairs.{table, first, find_pair, find_kind, pair_of, row_of}
use Rattle.packet.specs.Widths.{length_fits, body_fits, fields_fit}
use Rattle.packet.specs.Rules.{reserved_set, fixed_wrong, upper_zero, enables_wrong, crosses_page, status_wrong}
use Rattle.packet.specs.Rules.{from_rule5, from_rule6, from_rule7, from_rule8, from_rule9, rule_number}
use Rattle.packet.specs.Verdict.{on_rules, on_fields, verdict_of}
use Rattle.packet_numbers.specs.Numbers.{numbers_of}
use Rattle.packet_parsing.specs.Parsing.{kinds, kind_at, any_above, head_from, enables_from, on_kind, from_kind, packet_of}
use Rattle.tlp_layout.specs.Layout.{front_bytes, request_bytes, address_bytes, layout}
use Rattle.tlp_fields.specs.Fields.{head_at, enables_at, address_at, unnamed}
use Rattle.tlp.specs.Reading.{judged, read_of}
use Rattle.tlp.specs.Writing.{write_of, room_after}
use Rattle.bar.specs.Bar.{size_from, sized, io_slot, narrow_slot, wide_slot, slot_here, slots}
use Rattle.bar.specs.Values.{is_bar_value, values_fit}
use Rattle.window.specs.Window.{closed, start, stop, is_nibbled}
use Rattle.records.specs.Records.{next_of, parts_over, parts_of}
use Rattle.lists.specs.Lists.{All, keep}
use Rattle.walk.specs.Registers.{items_of, items, enabled_in}
use Rattle.walk.specs.Tally.{join, tally_on}
use Rattle.walk.specs.Walk.{walk_over, walk_from}
use Rattle.sheet_record.specs.Entry.{dwords, window_of, entry_of}
use Rattle.sheet.specs.Sheet.{all_sized, is_framed, entries_from, commands_of, all_zero, read_backs_wrong, breaks, any_breaks, has_id, id_twice}
use Rattle.sheet.specs.Sheet.{find_from, from29, from25, from28, from27, from24, from22, from20, from21, sheet_number}
use Rattle.sheet.specs.Lookup.{lookup_of}
use Rattle.sheet_record.specs.Spaces.{bars_from}
use Rattle.sheet.specs.Spaces.{functions_from, nodes_from}
use Rattle.sheet.specs.Examples.{p10}
use Rattle.route.specs.Route.{route_of, from_sheet, route_packet, from42}
use Rattle.route.specs.Examples.{MRd, F9000FFC, F9001000}
use Rattle.capi_answers.specs.Answers.{Answer, refuses, gives, returned}
use Rattle.capi_packet.specs.Calls.{read_answer, write_answer, room_left}
use Rattle.capi_sheet.specs.Calls.{lookup_answer, command_number}
use Rattle.capi_route.specs.Calls.{route_answer}

-- a read of one dword at an address, as numbers: the register's place, and those of a completion
abbrev pub read_at : ℕ → ℕ → List ℕ → List ℕ
read_at address register rest = 0 ∷ 3 ∷ 0 ∷ 0 ∷ 0 ∷ 0 ∷ 0 ∷ 1 ∷ 0 ∷ 0 ∷ 0 ∷ 0xF ∷ address ∷ 0 ∷ register ∷ rest

abbrev pub no_outcome : List ℕ
no_outcome = 0 ∷ 0 ∷ 0 ∷ 0 ∷ 0 ∷ []

abbrev pub p10_read : List ℕ
p10_read = read_at 0xF9000FFC 0 no_outcome

abbrev pub zeros : ℕ → List ℕ
zeros n = replicate n 0

-- an answer is this one; a call returns this number; a room then holds these bytes
pub data Claim : Type 0 where
  answers : Answer → Answer → Claim
  returns : ℕ → ℕ → Claim
  holds : List ℕ → List ℕ → Claim

abbrev pub Holds : Claim → Type 0
Holds (answers a b) = a ≡ b
Holds (returns m n) = m ≡ n
Holds (holds s t) = s ≡ t

abbrev pub examples : List Claim
examples =
    answers (read_answer (MRd F9000FFC)) (gives p10_read)
    ∷ answers (read_answer []) (refuses 1)
    ∷ answers (write_answer p10_read 16) (gives (12 ∷ []))
    ∷ holds (room_left p10_read (zeros 13) (0 ∷ [])) (MRd F9000FFC ++ (0 ∷ []))
    -- with no room for the length nothing is written
    ∷ holds (room_left p10_read (zeros 13) []) (zeros 13)
    ∷ returns (returned (write_answer p10_read 16) []) 11
    -- nineteen numbers, then a kind that is none, then a register in a memory request, each before what follows
    ∷ answers (write_answer (15 ∷ 3 ∷ zeros 17) 16) (refuses 11)
    ∷ answers (write_answer (15 ∷ 3 ∷ 256 ∷ zeros 17) 16) (refuses 2)
    ∷ answers (write_answer (read_at 3 4 no_outcome) 16) (refuses 10)
    ∷ answers (write_answer (read_at 3 0 no_outcome) 16) (refuses 4)
    -- P10's sheet
    ∷ answers (lookup_answer p10 0x0100) (gives (97 ∷ []))
    ∷ answers (lookup_answer p10 0x10000) (refuses 40)
    ∷ answers (lookup_answer [] 0x10000) (refuses 20)
    ∷ returns (command_number [] 0x0100 0x10000) 10
    ∷ returns (command_number p10 0x0100 3) 0
    ∷ answers (route_answer (MRd F9000FFC) p10) (gives (2 ∷ 1 ∷ p10_read))
    ∷ answers (route_answer (MRd F9001000) p10) (refuses 40)
    ∷ []

pub examples_hold : All Holds examples
unfolding flat_map read_of pair_of find_pair find_kind row_of first table judged head_at enables_at address_at unnamed rule_number from_rule5
    from_rule6 from_rule7 from_rule8 from_rule9 reserved_set fixed_wrong upper_zero enables_wrong crosses_page status_wrong length_fits body_fits
    fields_fit on_rules on_fields verdict_of numbers_of kinds kind_at any_above head_from enables_from on_kind from_kind packet_of front_bytes
    request_bytes
    address_bytes layout be_bytes write_of room_after lookup_of find_from command_number route_of from_sheet route_packet from42 walk_from walk_over
    tally_on join keep items_of items enabled_in sheet_number from21 from20 from22 from24 from27 from28 from25 from29 is_framed all_sized
    entries_from commands_of breaks any_breaks all_zero read_backs_wrong has_id id_twice entry_of dwords window_of bars_from functions_from
    nodes_from be
    le next_of parts_over parts_of closed start stop is_nibbled is_bar_value values_fit slots slot_here wide_slot narrow_slot io_slot sized size_from
examples_hold = (
  refl,
  (
    refl,
    (
      refl,
      (
        refl,
        (refl, (refl, (refl, (refl, (refl, (refl, (refl, (refl, (refl, (refl, (refl, (refl, (refl, tt))))))))))))),
      ),
    ),
  ),
)
