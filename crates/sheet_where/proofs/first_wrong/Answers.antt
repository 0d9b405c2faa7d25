-- `sheet_where::first_wrong`: the loop over the records. Invariant: the first that fails from record k on is the first of all, for each
-- check that is told. Assumes nothing.
use mathlib.Core.Path.{refl, sym, ◌∙◌}
use native.Mathlib.Omega.{arith}
use Rattle.sheet.specs.Sheet.{entries_of}
use Rattle.finding.specs.Places.{nobodies}
use Rattle.audit_finding.specs.Fails.{fails}
use Rattle.audit_finding.specs.Finding.{named, first_failing}
use Rattle.audit_finding.specs.Spots.{pass_past, turn_right, turn_wrong}
use Rattle.sheet_where.proofs.first_wrong.Goals as goal

pub loop-k-init : goal.loop-k-init
unfolding first_failing
loop-k-init g c = λ check h t. refl

pub returns-in-Some : goal.returns-in-Some
returns-in-Some g c = λ check h t.
    sym (turn_wrong c.args.sheet.now c.requires.framed _ _ c.count-k-end.ensures check h (entries_of c.args.sheet.now) _
    (t c.loop-k.k _ (omega arith) c.told.ensures) c.loop-k-test.true _ _ c.in-Some.is)
    ∙ c.loop-k.invariant check h t

pub loop-k-preserved : goal.loop-k-preserved
loop-k-preserved g c = λ check h t.
    sym (turn_right c.args.sheet.now c.requires.framed _ _ c.count-k-end.ensures check h (entries_of c.args.sheet.now) _
    (t c.loop-k.k _ (omega arith) c.told.ensures) c.loop-k-test.true c.in_default.is)
    ∙ c.loop-k.invariant check h t

pub returns : goal.returns
returns g c = λ check h t.
    sym (pass_past c.args.sheet.now c.requires.framed _ _ c.count-k-end.ensures (fails check h (entries_of c.args.sheet.now))
    (named check h (entries_of c.args.sheet.now)) nobodies c.loop-k-test.false)
    ∙ c.loop-k.invariant check h t
