-- `audit_spans::hold`: a span widened, or one more. Assumes nothing.
use native.Mathlib.Omega.{arith}
use Rattle.audit_spans.specs.SpansLaws.{grown_put, grown_wide}
use Rattle.audit_spans.proofs.hold.Goals as goal

pub returns-in-Some : goal.returns-in-Some
returns-in-Some c = (
  c.requires.1,
  grown_wide c.args.spans.now c.args.n c.in-Some.i c.args.key c.args.first c.args.last _ _
      (omega (arith, c.in-Some.ensures)) c.in-Some.ensures.0 c.in-Some.ensures.1
      (omega arith) (omega arith) (omega arith) (omega arith) _ c.put.ensures,
)

pub returns : goal.returns
returns c = (
  omega arith,
  grown_put c.args.spans.now c.args.n c.args.key c.args.first c.args.last (omega
      (arith, c.if-n-eq-MOST.false, c.requires.0, c.requires.1)) _
      c.put-2.ensures,
)
