-- `board_record::spares_of` meets its contract: a bridge of 17 bytes has them, no other record does. Assumes nothing.
use Rattle.board_record.specs.Function.{spares_at}
use mathlib.Core.Path.{sym, ◌∙◌}
use native.Mathlib.Omega.{arith}
use Rattle.board_record.specs.FunctionLaws.{le_length, spares_short, spares_whole, spares_other}
use Rattle.board_record.proofs.spares_of.Goals as goal

pub bounds-part-3 : goal.bounds-part-3
bounds-part-3 c = omega (arith, le_length _ c.requires)

pub returns-then-part-lt-BRIDGE_WITH_SPARES : goal.returns-then-part-lt-BRIDGE_WITH_SPARES
returns-then-part-lt-BRIDGE_WITH_SPARES c = (
  spares_short c.args.part.now c.requires (sym c.is_bridge.ensures ∙ c.if-is_bridge.true) c.if-part-lt-BRIDGE_WITH_SPARES.true,
  omega arith,
)

pub overflow_cast-result : goal.overflow_cast-result
overflow_cast-result c = omega (arith, c.type_inv.part spares_at)

pub overflow_mul-result : goal.overflow_mul-result
overflow_mul-result c = omega (arith, c.type_inv.part spares_at)

pub overflow_add-result : goal.overflow_add-result
overflow_add-result c = omega (arith, c.type_inv.part spares_at, c.read_be16.ensures)

pub returns-then-is_bridge : goal.returns-then-is_bridge
returns-then-is_bridge c = (
  rw c.read_be16.ensures.0
      (spares_whole c.args.part.now (sym c.is_bridge.ensures ∙ c.if-is_bridge.true)),
  omega (arith, c.type_inv.part spares_at, c.read_be16.ensures),
)

pub returns : goal.returns
returns c = (spares_other c.args.part.now (sym c.is_bridge.ensures ∙ c.if-is_bridge.false), omega arith)
