-- `sheet_where::nibble_spot` meets its contract: window by window. Assumes nothing.
use mathlib.Core.Path.{sym, ◌∙◌}
use Rattle.sheet_where.specs.OwnLaws.{nibbles_end, nibble_low, nibble_high, nibble_io}
use Rattle.sheet_where.proofs.nibble_spot.Goals as goal

pub returns-then-not-is_bridge : goal.returns-then-not-is_bridge
returns-then-not-is_bridge c = nibbles_end c.args.part.now (sym c.is_bridge.ensures ∙ c.if-not-is_bridge.true)

pub returns-then-not-is_nibbled : goal.returns-then-not-is_nibbled
returns-then-not-is_nibbled c = rw c.at.ensures (
    nibble_low c.args.part.now (sym c.is_bridge.ensures ∙ c.if-not-is_bridge.false) _
    c.window_of-low.ensures _ c.is_nibbled.ensures (c.if-not-is_nibbled.true))

pub returns-then-not-is_nibbled-2 : goal.returns-then-not-is_nibbled-2
returns-then-not-is_nibbled-2 c = rw c.at-then-not-is_nibbled-2.ensures (
    nibble_high c.args.part.now (sym c.is_bridge.ensures ∙ c.if-not-is_bridge.false) _
    c.window_of-low.ensures _ c.is_nibbled.ensures (c.if-not-is_nibbled.false) _
    c.window_of-high.ensures _ c.is_nibbled-2.ensures (c.if-not-is_nibbled-2.true))

pub returns : goal.returns
returns c = nibble_io c.args.part.now (sym c.is_bridge.ensures ∙ c.if-not-is_bridge.false) _
    c.window_of-low.ensures _ c.is_nibbled.ensures (c.if-not-is_nibbled.false) _
    c.window_of-high.ensures _ c.is_nibbled-2.ensures (c.if-not-is_nibbled-2.false) _
    c.window_of-io.ensures _ c.is_nibbled-3.ensures _ c.wrong_if.ensures
