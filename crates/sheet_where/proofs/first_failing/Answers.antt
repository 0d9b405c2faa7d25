-- `sheet_where::first_failing`: record by record. Assumes nothing.
use Rattle.std.proofs.Common.{rules}
use Rattle.sheet_where.specs.Own.{check_for}
use Rattle.sheet_where.proofs.first_failing.Goals as goal

pub returns : goal.returns
returns c = λ h. c.first_wrong.ensures (check_for c.args.own) h (λ k x l p. search rules)
