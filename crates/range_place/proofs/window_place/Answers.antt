-- `range_place::window_place` meets its contract: low, high, I/O, those that are open. Assumes nothing.
use mathlib.Core.Path.{sym, ◌∙◌}
use Rattle.range_place.specs.PlaceLaws.{windows_none, window_low, window_high, window_io, window_past}
use Rattle.range_place.proofs.window_place.Goals as goal

pub returns-then-not-is_bridge : goal.returns-then-not-is_bridge
returns-then-not-is_bridge c = windows_none c.args.part.now _ (sym c.is_bridge.ensures ∙ c.if-not-is_bridge.true)

pub returns-then-n-low : goal.returns-then-n-low
returns-then-n-low c = window_low c.args.part.now _ (sym c.is_bridge.ensures ∙ c.if-not-is_bridge.false) _
    c.open_in-low.ensures.0 c.if-n-low.true

pub returns-then-n-memory : goal.returns-then-n-memory
returns-then-n-memory c = window_high c.args.part.now _ (sym c.is_bridge.ensures ∙ c.if-not-is_bridge.false) _
    c.open_in-low.ensures.0 c.if-n-low.false _ c.open_in.ensures.0 c.if-n-memory.true

pub returns-then-n-memory-2 : goal.returns-then-n-memory-2
returns-then-n-memory-2 c = window_io c.args.part.now _ (sym c.is_bridge.ensures ∙ c.if-not-is_bridge.false) _
    c.open_in-low.ensures.0 c.if-n-low.false _ c.open_in.ensures.0 c.if-n-memory.false _ c.open_in-2.ensures.0
    c.if-n-memory-2.true

pub returns : goal.returns
returns c = window_past c.args.part.now _ (sym c.is_bridge.ensures ∙ c.if-not-is_bridge.false) _
    c.open_in-low.ensures.0 c.if-n-low.false _ c.open_in.ensures.0 c.if-n-memory.false _ c.open_in-2.ensures.0
    c.if-n-memory-2.false
