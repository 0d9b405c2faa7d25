-- Worked examples of routing, as five tables under one claim: P10's reads and foreign sheets, routing by ID, messages of each routing,
-- each number in its order, and a broadcast's list. Assumes nothing.
use Rattle.std.specs.Prelude.{refl}
use mathlib.Core.List.{flat_map}
use Rattle.endian.specs.Endian.{be, le}
use Rattle.pairs.specs.Pairs.{table, first, find_pair, pair_of}
use Rattle.packet.specs.Rules.{reserved_set, fixed_wrong, upper_zero, enables_wrong, crosses_page, status_wrong}
use Rattle.packet.specs.Rules.{from_rule5, from_rule6, from_rule7, from_rule8, from_rule9, rule_number}
use Rattle.tlp_fields.specs.Fields.{head_at, enables_at, address_at, target_at, outcome_at, unnamed, unnamed_target, unnamed_lower}
use Rattle.tlp.specs.Reading.{judged, read_of}
use Rattle.bar.specs.Bar.{size_from, sized, io_slot, narrow_slot, wide_slot, slot_here, slots}
use Rattle.bar.specs.Values.{is_bar_value, values_fit}
use Rattle.window.specs.Window.{closed, start, stop, is_nibbled}
use Rattle.records.specs.Records.{next_of, parts_over, parts_of}
use Rattle.lists.specs.Lists.{All, keep}
use Rattle.walk.specs.Registers.{items_of, items, enabled_in}
use Rattle.walk.specs.Tally.{join, tally_on}
use Rattle.walk.specs.Walk.{walk_over, walk_from}
use Rattle.walk.specs.Ids.{tally_by_id}
use Rattle.sheet_record.specs.Spaces.{bars_from}
use Rattle.sheet_record.specs.Entry.{dwords, window_of, entry_of}
use Rattle.sheet.specs.Sheet.{all_sized, is_framed, entries_from, commands_of, all_zero, read_backs_wrong, breaks, any_breaks, has_id, id_twice}
use Rattle.sheet.specs.Sheet.{from29, from25, from28, from27, from24, from22, from20, from21, sheet_number}
use Rattle.sheet.specs.Spaces.{functions_from, nodes_from}
use Rattle.route.specs.Route.{route_of, from_sheet, route_packet, from42}
use Rattle.route.specs.Examples.{Holds, HoldsListed, by_id, listings, messages, ordered, requests}

pub examples_hold : All Holds requests × All Holds by_id × All Holds messages × All Holds ordered × All HoldsListed listings
unfolding flat_map route_of from_sheet route_packet from42 read_of pair_of find_pair first table judged head_at enables_at address_at target_at
    outcome_at unnamed unnamed_target unnamed_lower rule_number from_rule5 from_rule6 from_rule7 from_rule8 from_rule9 reserved_set
    fixed_wrong upper_zero
    enables_wrong crosses_page status_wrong walk_from walk_over tally_on tally_by_id join keep items_of items enabled_in sheet_number from21 from20
    from22 from24 from27 from28 from25 from29 is_framed all_sized entries_from commands_of breaks any_breaks all_zero read_backs_wrong
    has_id id_twice
    entry_of dwords window_of bars_from functions_from nodes_from be le next_of parts_over parts_of closed start stop is_nibbled
    is_bar_value values_fit
    slots slot_here wide_slot narrow_slot io_slot sized size_from
examples_hold = (
  (refl, (refl, (refl, (refl, (refl, (refl, (refl, (refl, (refl, (refl, (refl, tt))))))))))),
  (refl, (refl, (refl, (refl, (refl, (refl, (refl, (refl, (refl, tt))))))))),
  (refl, (refl, (refl, (refl, (refl, (refl, (refl, (refl, (refl, tt))))))))),
  (refl, (refl, (refl, (refl, (refl, (refl, (refl, (refl, (refl, (refl, (refl, (refl, tt)))))))))))),
  ((refl, refl), ((refl, refl), ((refl, refl), ((refl, refl), ((refl, refl), tt))))),
)
