-- `audit_met::first_met`: the loop over the records. Invariant: the first that is met from record j on is the first of all. Assumes
-- nothing.
use mathlib.Core.Path.{◌≡◌}
use Rattle.sheet.specs.Sheet.{entries_of}
use Rattle.finding.specs.First.{first}
use Rattle.audit_finding.specs.Placed.{numbered}
use Rattle.audit_finding.specs.Fails.{is_met, least_met}
use Rattle.audit_finding.specs.Spots.{record_of, records_from}
use Rattle.audit_met.proofs.first_met.Given as goal

abbrev pub invariant-loop-j : goal.invariant-loop-j
invariant-loop-j l =
    first (is_met l.relation (record_of l.sheet l.k)) (λ q. q.number) 0 (records_from l.sheet l.j)
    ≡ least_met l.relation (numbered (entries_of l.sheet)) (record_of l.sheet l.k)
