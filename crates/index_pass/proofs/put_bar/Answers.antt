-- `index_pass::put_bar`: a BAR that starts in the segment is one slot. Assumes nothing.
use native.Mathlib.Omega.{arith}
use Rattle.index_pass.specs.PlacingLaws.{none_placed, one_placed, one_room}
use Rattle.index_pass.specs.BarsLaws.{no_bar, bar_outside, bar_inside, start_below}
use Rattle.index_pass.proofs.put_bar.Goals as goal

pub returns-then-not-starts_in : goal.returns-then-not-starts_in
returns-then-not-starts_in c = none_placed _ _ _ _
    (bar_outside c.args.g c.args.end _ c.in-Bar.q c.in-Bar.field-1 _ _ _ c.in-Bar.is
    c.base_of-start.ensures _ c.starts_in.ensures (c.if-not-starts_in.true))

pub overflow_add-g : goal.overflow_add-g
overflow_add-g c = let below =
    start_below c.args.g c.args.end _ c.in-Bar.q c.in-Bar.field-1 _ _ _ c.in-Bar.is
    c.base_of-start.ensures _ c.starts_in.ensures (c.if-not-starts_in.false) in
    omega (arith, below, c.requires.0)

pub put_slot-requires : goal.put_slot-requires
put_slot-requires c = (
  one_room _ _ _ c.requires.2 _
      (bar_inside c.args.g c.args.end _ c.in-Bar.q c.in-Bar.field-1 _ _ _ c.in-Bar.is
      c.base_of-start.ensures _ c.starts_in.ensures (c.if-not-starts_in.false) _ c.exponent_of.ensures.0),
  c.requires.3,
)

pub returns : goal.returns
returns c = one_placed _ _ _ _ _
    (bar_inside c.args.g c.args.end _ c.in-Bar.q c.in-Bar.field-1 _ _ _ c.in-Bar.is
    c.base_of-start.ensures _ c.starts_in.ensures (c.if-not-starts_in.false) _ c.exponent_of.ensures.0)
    _ c.put_slot.ensures

pub returns-in_default : goal.returns-in_default
returns-in_default c = none_placed _ _ _ _ (no_bar _ _ _ _ c.in_default.not-Bar)
