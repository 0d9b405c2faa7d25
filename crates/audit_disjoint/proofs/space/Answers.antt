-- `audit_disjoint::space`: by the pool's number. Assumes nothing.
use Rattle.sheet_ranges.specs.ItemsLaws.{space_of_item}
use Rattle.audit_disjoint.proofs.space.Goals as goal

pub returns : goal.returns
returns c = space_of_item c.args.a.pool
