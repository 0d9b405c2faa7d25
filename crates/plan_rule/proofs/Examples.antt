-- Worked examples of the definitions, one table under one claim: P6, P7, P10, source document 001's tree (bridge E on bus 2), edges of the
-- placing rule, and full boards; and one of spares. Assumes nothing.
use Rattle.std.specs.Prelude.{refl, false, [], ◌∷◌}
use Rattle.std.proofs.lemmas.Bool.{false≢true}
use Rattle.arith.specs.Align.{align_up}
use Rattle.lists.specs.Lists.{All, keep, front, any}
use Rattle.plan_rule.specs.Records.{DepthFirst, only_host, Lawful}
use Rattle.plan_rule.specs.Layout.{layout_end, largest_align}
use Rattle.plan_rule.specs.Pieces.{bar_pieces, window_pieces, own_pieces, pieces}
use Rattle.plan_rule.specs.Placing.{place, placed}
use Rattle.plan_rule.specs.Numbering.{bridges, overs_from, over, bus_number, last_below, subordinate_of, numbered_from}
use Rattle.plan_rule.specs.Sizing.{extend, bus_laid}
use Rattle.plan_rule.specs.Refusals.{out_of_pool, refusal_of}
use Rattle.plan_rule.specs.Examples.{Holds, bridge_below, end_below, p10_functions, ranges, rows, sized, spare_rows}

pub examples : All Holds rows
unfolding
    keep front any align_up layout_end largest_align bar_pieces window_pieces own_pieces pieces place placed bridges overs_from over last_below
    bus_number subordinate_of numbered_from ranges out_of_pool refusal_of extend bus_laid
examples = (
  refl,
  (
    refl,
    (
      refl,
      (
        refl,
        (
          refl,
          (
            refl,
            (
              refl,
              (
                refl,
                (
                  refl,
                  (refl, (refl, (refl, (refl, (refl, (refl, (refl, (refl, (refl, (refl, (refl, (refl, tt)))))))))))),
                ),
              ),
            ),
          ),
        ),
      ),
    ),
  ),
)

pub spare_examples : All Holds spare_rows
unfolding
    keep front any align_up layout_end largest_align bar_pieces window_pieces own_pieces pieces place placed bridges overs_from over last_below
    bus_number subordinate_of numbered_from ranges out_of_pool refusal_of extend bus_laid
spare_examples = (refl, (refl, (refl, (refl, (refl, (refl, (refl, tt)))))))

-- P10's functions are lawful. A function below a bridge that a later sibling closed is not in depth-first order
pub p10_lawful : Lawful p10_functions
p10_lawful = record { ordered = (refl, (refl, tt)); sized = (tt, (((12, refl), ((26, refl), ((8, refl), tt))), tt)) }

pub closed_bridge : DepthFirst only_host 1 (bridge_below 0 ∷ bridge_below 0 ∷ end_below 1 [] ∷ []) → ⊥
closed_bridge d = false≢true d.1.1.0
