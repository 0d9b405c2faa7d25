-- `board_record::readbacks_of` meets its contract. Assumes nothing.
use native.Mathlib.Omega.{arith}
use mathlib.Core.Path.{◌∙◌}
use lib.ListN.{get_or}
use Rattle.board_record.specs.Function.{readbacks_for}
use Rattle.board_record.specs.FunctionLaws.{le_length, counted_for, length_counted, counted_start, counted_read, counted_fits}
use Rattle.board_record.specs.FunctionLaws.{rest_turn, rest_end}
use Rattle.board_record.proofs.readbacks_of.Goals as goal

pub bounds-part-3 : goal.bounds-part-3
bounds-part-3 c = omega (arith, le_length _ c.requires)

pub loop-j-init : goal.loop-j-init
loop-j-init c = counted_start (get_or c.args.part.now 3 0) c.args.part.now

pub read_be32-requires : goal.read_be32-requires
read_be32-requires c = counted_fits _ _ c.requires (omega (arith, c.slot_count-n.ensures.0))

pub loop-j-preserved : goal.loop-j-preserved
loop-j-preserved c =
    rest_turn c.loop-j.set (counted_for (get_or c.args.part.now 3 0) c.args.part.now) (readbacks_for (get_or c.args.part.now 3 0) c.args.part.now) c.loop-j.j c.loop-j.invariant
    (c.read_be32.ensures.0 ∙ counted_read (get_or c.args.part.now 3 0) c.args.part.now c.loop-j.j (omega (arith, c.slot_count-n.ensures.0)))
    (omega (arith, c.slot_count-n.ensures.0, length_counted (get_or c.args.part.now 3 0) c.args.part.now))

pub returns : goal.returns
returns c =
    rest_end c.loop-j.set (counted_for (get_or c.args.part.now 3 0) c.args.part.now) (readbacks_for (get_or c.args.part.now 3 0) c.args.part.now) c.loop-j.j c.loop-j.invariant
    (omega (arith, c.slot_count-n.ensures.0, length_counted (get_or c.args.part.now 3 0) c.args.part.now))
