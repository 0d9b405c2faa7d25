-- P10's board and its sheet printed as document 01 prints them, P8's sheet, a sheet that fails its checks, and a refusal. Assumes nothing.
use Rattle.std.specs.Prelude.{refl}
use mathlib.Core.List.{flat_map}
use Rattle.arith.specs.Align.{align_up}
use Rattle.endian.specs.Endian.{be, be_bytes, le}
use Rattle.text.specs.Text.{ascii, hexadecimal, decimal_over, decimal, refusal_text}
use Rattle.records.specs.Records.{next_of, parts_over, parts_of, any_part}
use Rattle.lists.specs.Lists.{keep, front, any}
use Rattle.plan_rule.specs.Layout.{layout_end, largest_align}
use Rattle.plan_rule.specs.Pieces.{bar_pieces, window_pieces, own_pieces, pieces}
use Rattle.plan_rule.specs.Placing.{place, placed}
use Rattle.plan_rule.specs.Numbering.{bridges, overs_from, over, last_below, bus_number, subordinate_of}
use Rattle.plan_rule.specs.Refusals.{out_of_pool, refusal_of}
use Rattle.bar.specs.Bar.{size_from, sized, io_slot, narrow_slot, wide_slot, slot_here, slots, any_bad}
use Rattle.plan_bars.specs.Bars.{bars_from}
use Rattle.bar.specs.Values.{is_bar_value, values_fit}
use Rattle.window.specs.Window.{closed, opened, start, stop, is_nibbled}
use Rattle.board_record.specs.Host.{host_of_part, pool_wrong, host_wrong}
use Rattle.board_record.specs.Function.{function_of_part, wrong_in, readbacks_wrong}
use Rattle.board_order.specs.Order.{above, parents, last_sibling, misplaced, any_misplaced}
use Rattle.board.specs.Board.{misframed, from_readbacks, from_order, from_edges, from_headers, from_count, from_frame, from_version, board_number}
use Rattle.board.specs.Board.{host_of, functions_of}
use Rattle.sheet_record.specs.Entry.{dwords, window_of, entry_of}
use Rattle.sheet.specs.Sheet.{all_sized, is_framed, entries_from, all_zero, read_backs_wrong, breaks, any_breaks, has_id, id_twice}
use Rattle.sheet.specs.Sheet.{from29, from25, from28, from27, from24, from22, from20, from21, sheet_number}
use Rattle.plan_answer.specs.Plan.{bar_start, window_for, values_from, planned_from, plan_of, on_room, on_board, planning}
use Rattle.sheet_text.specs.Listing.{words, window_text, bridge_text, end_text, line_of, count_text, plan_text, sheet_text}
use Rattle.sheet_text.specs.BoardText.{board_text}
use Rattle.sheet_text.specs.Examples.{Printed, p10_text}

pub examples : Printed
unfolding p10_text ascii words window_text bridge_text end_text line_of count_text plan_text refusal_text sheet_text board_text hexadecimal
    decimal_over decimal flat_map planning on_board on_room board_number from_version from_frame from_count from_headers from_edges from_order
    from_readbacks misframed above parents last_sibling misplaced any_misplaced function_of_part wrong_in readbacks_wrong host_of_part pool_wrong
    host_wrong be be_bytes le next_of parts_over parts_of any_part any size_from sized io_slot narrow_slot wide_slot slot_here slots any_bad host_of
    functions_of refusal_of out_of_pool place placed pieces own_pieces window_pieces bar_pieces layout_end largest_align keep align_up bridges
    bars_from plan_of planned_from values_from window_for bar_start closed opened bus_number subordinate_of overs_from over last_below front
    sheet_number from21 from20 from22 from24 from27 from28 from25 from29 is_framed all_sized entries_from breaks any_breaks all_zero
    read_backs_wrong has_id id_twice entry_of dwords window_of start stop is_nibbled is_bar_value values_fit
examples = record { p10_planned = refl; p10_short_room = refl; p10_sheet = refl; p8_sheet = refl; bad_sheet = refl }
