-- `sheet_where::first_wrong`: the loop over the records. Invariant: the first that fails from record k on is the first of all, whatever
-- the host is. Assumes nothing.
use mathlib.Core.Path.{◌≡◌}
use Rattle.board_record.specs.declared.Host.{Host}
use Rattle.sheet.specs.Sheet.{entries_of}
use Rattle.finding.specs.Places.{nobodies}
use Rattle.finding.specs.First.{first}
use Rattle.audit_finding.specs.declared.Check.{Check}
use Rattle.audit_finding.specs.Fails.{fails}
use Rattle.audit_finding.specs.Finding.{named, first_failing}
use Rattle.audit_finding.specs.Spots.{records_from}
use Rattle.sheet_where.specs.Own.{TellsOf}
use Rattle.sheet_where.proofs.first_wrong.Given as goal

abbrev pub invariant-loop-k : goal.invariant-loop-k
invariant-loop-k g l =
    (c : Check) (h : Host)
    → TellsOf c h l.sheet (λ k x. g.F.Fn.post l.told (k, tt) x)
    → first (fails c h (entries_of l.sheet)) (named c h (entries_of l.sheet)) nobodies (records_from l.sheet l.k)
    ≡ first_failing c h (entries_of l.sheet)
