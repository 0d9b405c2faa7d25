-- `audit_rising::key_of`: by the number of its pool. Assumes nothing.
use native.Mathlib.Omega.{arith}
use Rattle.audit_rising.specs.PassLaws.{key_of_item}
use Rattle.audit_rising.proofs.key_of.Goals as goal

pub returns : goal.returns
returns c = (key_of_item _ c.args.a, omega arith)
