-- `auditor::sound` meets its contract: what 51 is asked of. Assumes nothing.
use Rattle.audit_rule.specs.Audit.{sound_number}
use Rattle.auditor.proofs.sound.Goals as goal

pub returns : goal.returns
unfolding sound_number
returns c = c.judge.ensures
