-- `board_record::wrong_for` meets its contract, by the header type. Assumes nothing.
use mathlib.Core.Path.{sym, ◌∙◌}
use Rattle.board_record.specs.FunctionLaws.{wrong_bridge, wrong_end}
use Rattle.board_record.proofs.wrong_for.Goals as goal

pub returns-then-is_bridge : goal.returns-then-is_bridge
returns-then-is_bridge c = let bridge = sym c.is_bridge.ensures ∙ c.if-is_bridge.true in
    sym (wrong_bridge c.args.version c.args.n c.args.header c.bridge_length.ensures bridge)

pub returns : goal.returns
returns c = sym (wrong_end c.args.version c.args.n c.args.header (sym c.is_bridge.ensures ∙ c.if-is_bridge.false))
