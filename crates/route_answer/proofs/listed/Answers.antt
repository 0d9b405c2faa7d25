-- `route_answer::listed`: a broadcast's list in a slice with room for it. Assumes nothing.
use Rattle.std.proofs.Common.{◌∙◌}
use Rattle.route_answer.proofs.ListedLaws.{stored}
use Rattle.route_answer.proofs.listed.Goals as goal

pub returns-else-list-size-clause-list_after : goal.returns-else-list-size-clause-list_after
returns-else-list-size-clause-list_after c = c.put_list.ensures ∙ stored _ _ c.if-list-size.false
