-- `auditor::audit` meets its contract: what 51 is asked of. Assumes nothing.
use Rattle.audit_rule.specs.Audit.{audit_number}
use Rattle.auditor.proofs.audit.Goals as goal

pub returns : goal.returns
unfolding audit_number
returns c = c.judge.ensures
