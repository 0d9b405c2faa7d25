-- `board_order::level_of` meets its contract. Assumes nothing.
use Rattle.std.proofs.Common.{◌≡◌, ◌-◌, sym, ap, ◌∙◌, arith}
use Rattle.board_order.specs.Levels.{found_in}
use Rattle.board_order.specs.LevelsLaws.{found_here, found_later}
use Rattle.board_order.proofs.level_of.Goals as goal

pub returns-then-buses-i : goal.returns-then-buses-i
returns-then-buses-i c =
    sym (found_here c.args.parent c.args.buses.now c.loop-i.i (c.loop-i.i - 1) (omega arith) c.if-buses-i.true) ∙ c.loop-i.invariant

pub loop-i-preserved : goal.loop-i-preserved
loop-i-preserved c =
    sym (found_later c.args.parent c.args.buses.now c.loop-i.i (c.loop-i.i - 1) (omega arith) c.if-buses-i.false) ∙ c.loop-i.invariant

pub returns : goal.returns
unfolding found_in
returns c = let e : c.loop-i.i ≡ 0 = omega arith in sym (ap (found_in c.args.parent c.args.buses.now) e) ∙ c.loop-i.invariant
