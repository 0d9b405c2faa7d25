-- `route_list::put_list`: what is left to store from here gives the final content. Assumes nothing.
use Rattle.std.proofs.Common.{sym, ◌∙◌}
use Rattle.route_list.specs.CountedLaws.{rest_all, rest_more, rest_none}
use Rattle.route_list.proofs.put_list.Goals as goal

pub loop-i-init : goal.loop-i-init
loop-i-init c = rest_all _ _ _

pub loop-i-preserved : goal.loop-i-preserved
loop-i-preserved c = rest_more _ _ _ _ c.loop-i-test.true ∙ c.loop-i.invariant

pub returns : goal.returns
returns c = sym (rest_none _ _ _ _ c.loop-i-test.false) ∙ c.loop-i.invariant
