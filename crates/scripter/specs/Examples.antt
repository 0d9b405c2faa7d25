-- P10's script whole, short room by one byte, a board without functions, and a board that the planner refuses. Assumes nothing.
use Rattle.std.specs.Prelude.{◌≡◌, refl, ℕ}
use mathlib.Core.List.{List, [], ◌∷◌, ◌++◌, flat_map}
use Rattle.arith.specs.Align.{align_up}
use Rattle.endian.specs.Endian.{be, be_bytes, le_bytes}
use Rattle.pairs.specs.Pairs.{table, first, find_kind, row_of}
use Rattle.records.specs.Records.{next_of, parts_over, parts_of, any_part}
use Rattle.lists.specs.Lists.{keep, front, any}
use Rattle.plan_rule.specs.Layout.{layout_end, largest_align}
use Rattle.plan_rule.specs.Pieces.{bar_pieces, window_pieces, own_pieces, pieces}
use Rattle.plan_rule.specs.Placing.{place, placed}
use Rattle.plan_rule.specs.Numbering.{bridges, overs_from, over, last_below, bus_number, subordinate_of}
use Rattle.plan_rule.specs.Refusals.{out_of_pool, refusal_of}
use Rattle.bar.specs.Bar.{size_from, sized, io_slot, narrow_slot, wide_slot, slot_here, slots, any_bad}
use Rattle.plan_bars.specs.Bars.{bars_from}
use Rattle.window.specs.Window.{closed, opened}
use Rattle.board_record.specs.Host.{host_of_part, pool_wrong, host_wrong}
use Rattle.board_record.specs.Function.{function_of_part, wrong_in, readbacks_wrong}
use Rattle.board_order.specs.Order.{above, parents, last_sibling, misplaced, any_misplaced}
use Rattle.board.specs.Board.{misframed, from_readbacks, from_order, from_edges, from_headers, from_count, from_frame, from_version, board_number}
use Rattle.board.specs.Board.{host_of, functions_of}
use Rattle.board.specs.Examples.{p10, host}
use Rattle.sheet_bytes.specs.Layout.{dword_bytes, end_bytes, bridge_bytes, body_bytes, common_bytes, config_bytes, part_bytes, record_bytes}
use Rattle.sheet_bytes.specs.Layout.{sheet_bytes}
use Rattle.plan_answer.specs.Plan.{bar_start, window_for, values_from, planned_from, plan_of, on_room, on_board, planning}
use Rattle.tlp_layout.specs.Layout.{front_bytes, request_bytes, target_bytes, layout}
use Rattle.script_writes.specs.Writes.{bar_writes, pass_writes, writes_of}
use Rattle.script_writes.specs.Script.{write_bytes, script_from}
use Rattle.scripter.specs.declared.Scripting.TheVariants.{Written, Refused}
use Rattle.scripter.specs.Scripting.{board_writes, script_of, scripting}

-- requester 0107, first tag FE: a write a line
unfoldable pub p10_script : List ℕ
p10_script =
    be_bytes 18 0x0010440000010107fe070000001800010100
    ++ be_bytes 18 0x0010440000010107ff030000001c40400000
    ++ be_bytes 18 0x0010440000010107000f0000002000f900f9
    ++ be_bytes 18 0x0010440000010107010f000000240140f143
    ++ be_bytes 18 0x0010440000010107020f0000002802000000
    ++ be_bytes 18 0x0010440000010107030f0000002c02000000
    ++ be_bytes 18 0x0010450000010107040f01000010000000f9
    ++ be_bytes 18 0x0010450000010107050f010000140c000040
    ++ be_bytes 18 0x0010450000010107060f0100001802000000
    ++ be_bytes 18 0x0010450000010107070f0100001c01400000
    ++ be_bytes 18 0x001044000001010708030000000403000000
    ++ be_bytes 18 0x001045000001010709030100000403000000

-- the host's record alone
abbrev pub no_functions : List ℕ
no_functions = 1 ∷ host

pub record Scripted : Type 0 where
  pub p10_whole : script_of p10 0x0107 0xfe ≡ p10_script
  pub p10_written : scripting p10 216 ≡ Written 216
  pub p10_short : scripting p10 215 ≡ Refused 11
  pub none_written : scripting no_functions 0 ≡ Written 0
  pub none_whole : script_of no_functions 0x0107 0xfe ≡ []
  pub empty_board : scripting [] 1000 ≡ Refused 20

pub examples : Scripted
unfolding p10_script flat_map planning on_board on_room board_number from_version from_frame from_count from_headers from_edges from_order
    from_readbacks misframed above parents last_sibling misplaced any_misplaced function_of_part wrong_in readbacks_wrong
    host_of_part pool_wrong host_wrong be be_bytes le_bytes next_of parts_over parts_of any_part any size_from sized io_slot narrow_slot wide_slot
    slot_here
    slots any_bad host_of functions_of refusal_of out_of_pool place placed pieces own_pieces window_pieces bar_pieces layout_end largest_align keep
    align_up
    bridges bars_from plan_of planned_from values_from window_for bar_start closed opened bus_number subordinate_of overs_from over last_below front
    dword_bytes end_bytes bridge_bytes body_bytes common_bytes config_bytes part_bytes record_bytes sheet_bytes
    table first find_kind row_of front_bytes request_bytes target_bytes layout bar_writes pass_writes writes_of write_bytes script_from board_writes
    scripting
examples =
    record {
      p10_whole = refl;
      p10_written = refl;
      p10_short = refl;
      none_written = refl;
      none_whole = refl;
      empty_board = refl;
    }
