-- `plan_pass::place_record` meets its contract. Assumes nothing.
use mathlib.Core.Path.{sym, ◌∙◌}
use Rattle.plan_pass.proofs.place_record.Goals as goal

pub place_bridge-requires : goal.place_bridge-requires
place_bridge-requires c = (c.requires.0, c.requires.1 (sym c.is_bridge.ensures ∙ c.if-is_bridge.true), c.own_bars-bars.ensures)

pub returns-then-is_bridge : goal.returns-then-is_bridge
returns-then-is_bridge c = let e = sym c.is_bridge.ensures ∙ c.if-is_bridge.true in
    (rw e c.place_bridge.ensures.0, rw e c.place_bridge.ensures.1)

pub returns : goal.returns
returns c = let e = sym c.is_bridge.ensures ∙ c.if-is_bridge.false in
    (rw e c.place_leaf.ensures.0, rw e c.place_leaf.ensures.1)
