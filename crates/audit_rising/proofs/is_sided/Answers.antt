-- `audit_rising::is_sided`: by the number of its pool. Assumes nothing.
use Rattle.audit_rising.specs.PassLaws.{sided_of_item}
use Rattle.audit_rising.proofs.is_sided.Goals as goal

pub returns : goal.returns
returns c = sided_of_item c.args.a
