-- Worked examples of an audit, as one table under one claim: P8's and P10's sheets, and P10's spoiled, each number with a later check
-- failing too. Assumes nothing.
use Rattle.std.specs.Prelude.{refl}
use Rattle.endian.specs.Endian.{be, be_bytes, le}
use Rattle.bar.specs.Bar.{size_from, sized, io_slot, narrow_slot, wide_slot, slot_here, slots}
use Rattle.bar.specs.Values.{is_bar_value, values_fit}
use Rattle.window.specs.Window.{closed, start, stop, is_nibbled}
use Rattle.records.specs.Records.{next_of, parts_over, parts_of}
use Rattle.lists.specs.Lists.{All, keep, any}
use Rattle.board_record.specs.Host.{host_of_part, pool_wrong, host_wrong}
use Rattle.sheet_record.specs.Entry.{dwords, window_of, entry_of}
use Rattle.sheet.specs.Sheet.{all_sized, is_framed, entries_from, all_zero, read_backs_wrong, breaks, any_breaks, has_id, id_twice}
use Rattle.sheet.specs.Sheet.{from29, from25, from28, from27, from24, from22, from20, from21, sheet_number}
use Rattle.sheet_ranges.specs.Ranges.{bars_from, ranges_of}
use Rattle.audit_rule.specs.Audit.{any_pair, not_tree, ranges_above, not_nested, not_disjoint, from52, from51, from50, from_sheet}
use Rattle.audit_rule.specs.Audit.{from26, number_by, audit_number, sound_number}
use Rattle.audit_rule.specs.Examples.{Holds, HoldsBySpace, examples, space_examples}

pub examples_hold : All Holds examples
unfolding audit_number number_by from26 from_sheet from50 from51 from52 not_tree not_nested not_disjoint any_pair any keep ranges_of ranges_above
    bars_from
    host_of_part host_wrong pool_wrong be_bytes sheet_number from21 from20 from22 from24 from27 from28 from25 from29 is_framed all_sized
    entries_from breaks any_breaks all_zero read_backs_wrong has_id id_twice entry_of dwords window_of be le next_of parts_over parts_of closed start
    stop is_nibbled is_bar_value values_fit slots slot_here wide_slot narrow_slot io_slot sized size_from
examples_hold = (
  refl,
  (refl, (refl, (refl, (refl, (refl, (refl, (refl, (refl, (refl, (refl, (refl, (refl, (refl, (refl, (refl, (refl, tt)))))))))))))))),
)

pub space_examples_hold : All HoldsBySpace space_examples
unfolding sound_number number_by from26 from_sheet from50 from51 from52 not_tree not_nested not_disjoint any_pair any keep ranges_of ranges_above
    bars_from
    host_of_part host_wrong pool_wrong be_bytes sheet_number from21 from20 from22 from24 from27 from28 from25 from29 is_framed all_sized
    entries_from breaks any_breaks all_zero read_backs_wrong has_id id_twice entry_of dwords window_of be le next_of parts_over parts_of closed start
    stop is_nibbled is_bar_value values_fit slots slot_here wide_slot narrow_slot io_slot sized size_from
space_examples_hold = (refl, (refl, (refl, (refl, tt))))
