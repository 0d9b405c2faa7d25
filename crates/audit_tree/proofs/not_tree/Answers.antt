-- `audit_tree::not_tree` meets its contract: the three tests in order. Assumes nothing.
use Rattle.std.proofs.Common.{arith}
use Rattle.std.proofs.lemmas.Grind.{common_steps}
use Rattle.audit_rule.specs.Audit.{not_tree}
use Rattle.audit_tree.proofs.not_tree.Goals as goal

pub returns-then-any_way_up_wrong : goal.returns-then-any_way_up_wrong
unfolding not_tree
returns-then-any_way_up_wrong c = grind (arith, common_steps)

pub returns-else-any_way_up_wrong : goal.returns-else-any_way_up_wrong
unfolding not_tree
returns-else-any_way_up_wrong c = grind (arith, common_steps)
