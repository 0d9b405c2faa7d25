-- Document 01, "Examples (P: to be proved together)", and beside them examples of document 02's requests: one table under one claim.
-- Assumes nothing.
use Rattle.std.specs.Prelude.{refl}
use mathlib.Core.List.{flat_map}
use Rattle.arith.specs.Align.{align_up}
use Rattle.endian.specs.Endian.{be, be_bytes, le, le_bytes}
use Rattle.text.specs.Text.{ascii, hexadecimal, decimal_over, decimal}
use Rattle.pairs.specs.Pairs.{table, first, find_pair, pair_of}
use Rattle.packet.specs.Rules.{reserved_set, fixed_wrong, upper_zero, enables_wrong, crosses_page, status_wrong, from_rule5, from_rule6, from_rule7}
use Rattle.packet.specs.Rules.{from_rule8, from_rule9, rule_number}
use Rattle.tlp_fields.specs.Fields.{head_at, enables_at, address_at, unnamed}
use Rattle.tlp.specs.Reading.{judged, read_of}
use Rattle.records.specs.Records.{next_of, parts_over, parts_of, any_part}
use Rattle.lists.specs.Lists.{keep, front, any}
use Rattle.plan_rule.specs.Layout.{layout_end, largest_align}
use Rattle.plan_rule.specs.Pieces.{bar_pieces, window_pieces, own_pieces, pieces}
use Rattle.plan_rule.specs.Placing.{place, placed}
use Rattle.plan_rule.specs.Numbering.{bridges, overs_from, over, last_below, bus_number, subordinate_of}
use Rattle.plan_rule.specs.Refusals.{out_of_pool, refusal_of}
use Rattle.bar.specs.Bar.{size_from, sized, io_slot, narrow_slot, wide_slot, slot_here, slots, any_bad}
use Rattle.plan_bars.specs.Bars.{bars_from}
use Rattle.bar.specs.Values.{is_bar_value, values_fit}
use Rattle.window.specs.Window.{closed, opened, start, stop, is_nibbled}
use Rattle.board_record.specs.Host.{host_of_part, pool_wrong, host_wrong}
use Rattle.board_record.specs.Function.{function_of_part, wrong_in, readbacks_wrong}
use Rattle.board_order.specs.Order.{above, parents, last_sibling, misplaced, any_misplaced}
use Rattle.board.specs.Board.{misframed, from_readbacks, from_order, from_edges, from_headers, from_count, from_frame, from_version, board_number}
use Rattle.board.specs.Board.{host_of, functions_of}
use Rattle.board.specs.Examples.{row}
use Rattle.sheet_record.specs.Spaces.{bars_from as ranges_from}
use Rattle.sheet_record.specs.Entry.{dwords, window_of, entry_of}
use Rattle.sheet.specs.Sheet.{all_sized, is_framed, entries_from, commands_of, all_zero, read_backs_wrong, breaks, any_breaks, has_id, id_twice}
use Rattle.sheet.specs.Sheet.{from29, from25, from28, from27, from24, from22, from20, from21, sheet_number}
use Rattle.sheet.specs.Spaces.{functions_from, nodes_from}
use Rattle.sheet_bytes.specs.Layout.{dword_bytes, end_bytes, bridge_bytes, body_bytes, common_bytes, config_bytes, part_bytes, record_bytes}
use Rattle.sheet_bytes.specs.Layout.{sheet_bytes}
use Rattle.walk.specs.Registers.{items_of, items, enabled_in}
use Rattle.walk.specs.Tally.{join, tally_on}
use Rattle.walk.specs.Walk.{walk_over, walk_from}
use Rattle.plan_answer.specs.Plan.{bar_start, window_for, values_from, planned_from, plan_of, on_room, on_board, planning}
use Rattle.plan_answer.specs.Plan.{sheet_after}
use Rattle.sheet_text.specs.Listing.{words, window_text, bridge_text, end_text, line_of, count_text, plan_text}
use Rattle.sheet_text.specs.BoardText.{board_text}
use Rattle.route.specs.Route.{route_of, from_sheet, route_packet, from42}
use Rattle.demands.specs.Examples.{Examples, examples, spares, tiny_bars}

pub examples_hold : Examples
unfolding examples tiny_bars spares ascii words window_text bridge_text end_text line_of count_text plan_text board_text hexadecimal decimal_over decimal
    read_of pair_of find_pair first table judged head_at enables_at address_at unnamed be rule_number from_rule5 from_rule6 from_rule7 from_rule8
    from_rule9 reserved_set fixed_wrong upper_zero enables_wrong crosses_page status_wrong row planning on_board on_room board_number from_version
    from_frame from_count from_headers from_edges from_order from_readbacks misframed above parents last_sibling misplaced any_misplaced
    function_of_part wrong_in readbacks_wrong host_of_part pool_wrong host_wrong be_bytes next_of parts_over parts_of any_part any size_from sized
    io_slot narrow_slot wide_slot slot_here slots any_bad host_of functions_of refusal_of out_of_pool place placed pieces own_pieces window_pieces
    bar_pieces layout_end largest_align keep align_up bridges bars_from sheet_after sheet_bytes flat_map record_bytes part_bytes config_bytes
    common_bytes body_bytes bridge_bytes end_bytes dword_bytes plan_of planned_from values_from window_for bar_start closed opened bus_number
    subordinate_of overs_from over last_below front le le_bytes route_of from_sheet route_packet from42 walk_from walk_over tally_on join items_of
    items enabled_in sheet_number from21 from20 from22 from24 from27 from28 from25 from29 is_framed all_sized entries_from commands_of breaks
    any_breaks all_zero read_backs_wrong has_id id_twice entry_of dwords window_of ranges_from functions_from nodes_from start stop is_nibbled
    is_bar_value values_fit
examples_hold =
    record {
      P1_to_P10 = (
        refl,
        (
          refl,
          (
            refl,
            (
              refl,
              (
                refl,
                (
                  refl,
                  (
                    refl,
                    (
                      refl,
                      (
                        refl,
                        (
                          refl,
                          (
                            refl,
                            (refl, (refl, (refl, (refl, ((refl, refl), (refl, ((refl, refl), (refl, ((refl, refl), (refl, tt)))))))))),
                          ),
                        ),
                      ),
                    ),
                  ),
                ),
              ),
            ),
          ),
        ),
      );
      tiny_bars_lem = (refl, (refl, (refl, (refl, tt))));
      empty_slots = (refl, ((refl, refl), (refl, (refl, (refl, (refl, (refl, (refl, (refl, (refl, tt))))))))));
    }
