-- `audit_spans::touches`: of the same key. Assumes nothing.
use Rattle.audit_spans.specs.SpansLaws.{key_test}
use Rattle.audit_spans.proofs.touches.Goals as goal

pub returns : goal.returns
returns c = λ e. key_test _ _ _ e
