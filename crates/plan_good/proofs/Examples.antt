-- P10's board over registers, and what the definitions make of it: one table under one claim. Its checks hold, so nothing here is said of
-- no board. Assumes nothing.
use Rattle.std.specs.Prelude.{refl}
use mathlib.Core.List.{flat_map}
use Rattle.std.proofs.Common.{lit<, lit≤}
use Rattle.arith.specs.Align.{align_up}
use Rattle.lists.specs.Lists.{All, keep, any}
use Rattle.plan_rule.specs.Layout.{layout_end, largest_align}
use Rattle.plan_rule.specs.Pieces.{bar_pieces, window_pieces, own_pieces, pieces}
use Rattle.plan_rule.specs.Placing.{place, placed}
use Rattle.plan_rule.specs.Numbering.{bridges, overs_from, over, bus_number, last_below, subordinate_of, numbered_from}
use Rattle.lists.specs.Lists.{front}
use Rattle.plan_rule.specs.Refusals.{out_of_pool, refusal_of}
use Rattle.plan_rule.specs.Examples.{p10, p10_functions}
use Rattle.plan_rule.specs.Above.{above_within, above_by_parents}
use Rattle.walk.specs.Registers.{items_of, items}
use Rattle.walk.specs.Tally.{join, tally_on}
use Rattle.walk.specs.Walk.{walk_over, walk_from}
use Rattle.plan_good.specs.Boards.{HostEdges, Board}
use Rattle.plan_good.specs.Registers.{plan_registers}
use Rattle.plan_good.specs.Examples.{Holds, rows}

pub examples : All Holds rows
unfolding keep any align_up layout_end largest_align bar_pieces window_pieces own_pieces pieces place placed bridges overs_from over last_below
    front bus_number subordinate_of numbered_from out_of_pool refusal_of flat_map items_of items join tally_on walk_over walk_from plan_registers
    above_within above_by_parents
examples = (refl, (refl, (refl, (refl, (refl, (refl, (refl, (refl, (refl, (refl, (refl, tt)))))))))))

pub p10_board : Board p10 p10_functions
p10_board =
    record {
      lawful = record { ordered = (refl, (refl, tt)); sized = (tt, ((((12, refl), ((26, refl), ((8, refl), tt)))), tt)) };
      edges = edges;
    }
  where
    edges : HostEdges p10
    edges =
        record {
          buses_rise = lit≤ tt;
          last_bus_is_byte = lit< tt;
          low_ends_below_4_Gi_b = λ _. lit< tt;
          high_starts_at_4_Gi_b = λ _. lit≤ tt;
          high_ends_below_2^52 = λ _. lit< tt;
          io_ends_below_64_Ki_b = λ _. lit< tt;
        }
