-- Worked examples of a board's number, as one table under one claim. Assumes nothing.
use Rattle.std.specs.Prelude.{refl}
use Rattle.endian.specs.Endian.{be, be_bytes}
use Rattle.records.specs.Records.{next_of, parts_over, parts_of, any_part}
use Rattle.lists.specs.Lists.{any}
use Rattle.bar.specs.Bar.{size_from, sized, io_slot, narrow_slot, wide_slot, slot_here, slots, any_bad}
use Rattle.board_record.specs.Host.{host_of_part, pool_wrong, host_wrong}
use Rattle.board_record.specs.Function.{function_of_part, wrong_in, readbacks_wrong}
use Rattle.board_order.specs.Order.{above, parents, last_sibling, misplaced, any_misplaced}
use Rattle.board.specs.Board.{misframed, from_readbacks, from_order, from_edges, from_headers, from_count, from_frame, from_version}
use Rattle.board.specs.Board.{board_number}
use Rattle.board.specs.Examples.{Worked, chain, row, rows}

pub examples : Worked rows
unfolding be be_bytes next_of parts_over parts_of any_part any size_from sized io_slot narrow_slot wide_slot slot_here slots any_bad host_of_part
    pool_wrong host_wrong function_of_part wrong_in readbacks_wrong above parents last_sibling misplaced any_misplaced misframed from_readbacks
    from_order from_edges from_headers from_count from_frame from_version board_number chain row
examples = record { numbers = refl }
