-- `index_table::shift_of` meets its contract. Invariant: from here on the same shift is found. Assumes nothing.
use Rattle.std.proofs.Common.{◌≡◌, refl, sym, ◌∙◌, arith}
use Rattle.index_table.specs.SegmentLaws.{shift_stop, shift_on, shift_end}
use Rattle.index_table.proofs.shift_of.Goals as goal

pub loop-s-init : goal.loop-s-init
loop-s-init c = refl

pub returns-then-d-s : goal.returns-then-d-s
returns-then-d-s c = shift_stop _ _ _ c.loop-s-test.true c.if-d-s.true ∙ c.loop-s.invariant

pub loop-s-preserved : goal.loop-s-preserved
loop-s-preserved c = shift_on _ _ _ c.loop-s-test.true c.if-d-s.false ∙ c.loop-s.invariant

pub returns : goal.returns
returns c = let all : c.loop-s.s ≡ 63 = omega arith in
    sym all ∙ shift_end _ _ _ c.loop-s-test.false ∙ c.loop-s.invariant
