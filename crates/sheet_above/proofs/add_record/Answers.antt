-- `sheet_above::add_record` meets its contract: another function's record leaves the table. Assumes nothing.
use Rattle.sheet_above.specs.TableLaws.{with_other, with_bridge}
use Rattle.sheet_above.proofs.add_record.Goals as goal

pub returns-then-not-is_bridge : goal.returns-then-not-is_bridge
returns-then-not-is_bridge c = with_other _ _ _ _ c.is_bridge.ensures (c.if-not-is_bridge.true)

pub returns : goal.returns
returns c = with_bridge _ _ _ _ c.is_bridge.ensures (c.if-not-is_bridge.false) _
    c.secondary_of-bus.ensures _ c.joined.ensures
