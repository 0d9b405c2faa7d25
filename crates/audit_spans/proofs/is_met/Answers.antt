-- `audit_spans::is_met`: what is not met is beside. Assumes nothing.
use Rattle.audit_spans.specs.SpansLaws.{beside_test}
use Rattle.audit_spans.proofs.is_met.Goals as goal

pub returns : goal.returns
returns c = λ e. beside_test c.args.spans.now c.args.i c.args.key c.args.first c.args.last e
