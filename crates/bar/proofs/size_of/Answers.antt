-- `bar::size_of`: each early return is a mask with no size; the last is the complement plus one. Assumes nothing.
use mathlib.Core.Path.{sym}
use native.Mathlib.Omega.{arith}
use Rattle.bar.specs.SizeLaws.{size_zero_of_zero, size_zero_of_past, size_zero_of_small, size_zero_of_mixed, size_of_complement}
use Rattle.bar.proofs.size_of.Goals as goal

pub returns-then-mask-eq0 : goal.returns-then-mask-eq0
returns-then-mask-eq0 c = λ w k e f. sym (size_zero_of_zero w k _ _ _ e f c.if-mask-eq0.true)

pub returns-then-ones-mask : goal.returns-then-ones-mask
returns-then-ones-mask c = λ w k e f. sym (size_zero_of_past w k _ _ _ e f c.if-ones-mask.true)

pub returns-then-size-least : goal.returns-then-size-least
returns-then-size-least c = λ w k e f. sym (size_zero_of_small w k _ _ _ e f c.if-size-least.true)

pub returns-then-size-eq0 : goal.returns-then-size-eq0
returns-then-size-eq0 c = λ w k e f. sym (size_of_complement w k _ _ _ e f (omega arith) (omega arith) (omega arith) c.if-size-eq0.true)

pub returns-else-size-eq0 : goal.returns-else-size-eq0
returns-else-size-eq0 c = λ w k e f. sym (size_zero_of_mixed w k _ _ _ e f c.if-size-eq0.false)
