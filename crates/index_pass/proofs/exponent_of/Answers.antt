-- `index_pass::exponent_of`: the greatest power of two that is not above. Assumes nothing.
use Rattle.std.proofs.Common.{◌∙◌, arith}
use Rattle.index_rule.specs.Owners.{exponent_of}
use Rattle.index_pass.specs.BarsLaws.{exponent_is, exponent_none}
use Rattle.index_pass.proofs.exponent_of.Goals as goal

pub returns-then-size-eq0 : goal.returns-then-size-eq0
returns-then-size-eq0 c = (rw c.if-size-eq0.true exponent_none, omega arith)

pub returns : goal.returns
unfolding exponent_of
returns c = (c.from.ensures ∙ exponent_is 64 c.args.size c.ilog2.result c.ilog2.ensures.bound c.ilog2.ensures.power_le c.ilog2.ensures.next_power_gt, omega arith)
