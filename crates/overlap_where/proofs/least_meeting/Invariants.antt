-- `overlap_where::least_meeting`: the loop over the records. Invariant: the least that is met from record j on is the least of all. Assumes
-- nothing.
use mathlib.Core.Path.{◌≡◌}
use Rattle.sheet.specs.Sheet.{entries_of}
use Rattle.sheet_ranges.specs.Items.{range_of}
use Rattle.audit_finding.specs.Placed.{numbered, placed_at}
use Rattle.audit_finding.specs.Where.{least_meeting}
use Rattle.audit_finding.specs.Spots.{record_of}
use Rattle.overlap_where.specs.MeetingLaws.{least_from}
use Rattle.overlap_where.proofs.least_meeting.Given as goal

abbrev pub invariant-loop-j : goal.invariant-loop-j
invariant-loop-j l =
    least_from l.sheet (placed_at (record_of l.sheet l.k) l.place (range_of l.x)) l.j
    ≡ least_meeting (numbered (entries_of l.sheet)) (placed_at (record_of l.sheet l.k) l.place (range_of l.x))
