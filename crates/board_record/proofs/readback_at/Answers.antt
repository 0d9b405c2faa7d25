-- `board_record::readback_at` meets its contract: past a bridge's two stands 0. Assumes nothing.
use mathlib.Core.Path.{◌∙◌}
use Rattle.board_record.specs.FunctionLaws.{readback_none, readback_read, readback_fits}
use Rattle.board_record.proofs.readback_at.Goals as goal

pub returns-then-j-is_bridge : goal.returns-then-j-is_bridge
returns-then-j-is_bridge c = readback_none c.args.part.now c.args.j _ c.is_bridge.ensures c.if-j-is_bridge.true c.requires.1

pub read_be32-requires : goal.read_be32-requires
read_be32-requires c = readback_fits c.args.part.now c.args.j _ c.is_bridge.ensures c.if-j-is_bridge.false c.requires.1 c.requires.0

pub returns : goal.returns
returns c = c.read_be32.ensures.0 ∙ readback_read c.args.part.now c.args.j _ c.is_bridge.ensures
    c.if-j-is_bridge.false c.requires.1
