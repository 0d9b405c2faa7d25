-- `overlap_where::first_overlap`: the loop over the record's ranges. Invariant: the first from index i on that meets another one is the
-- first of all. Assumes nothing.
use mathlib.Core.Path.{◌≡◌}
use Rattle.sheet.specs.Sheet.{entries_of}
use Rattle.finding.specs.First.{first}
use Rattle.audit_finding.specs.Placed.{numbered, placed_of}
use Rattle.audit_finding.specs.Fails.{meets_any}
use Rattle.audit_finding.specs.Spots.{record_of}
use Rattle.range_place.specs.TurnsLaws.{placed_left}
use Rattle.overlap_where.specs.MeetingLaws.{say}
use Rattle.overlap_where.proofs.first_overlap.Given as goal
use Rattle.finding.specs.Places.{right}

abbrev pub invariant-loop-i : goal.invariant-loop-i
invariant-loop-i l =
    first (meets_any (numbered (entries_of l.sheet))) (say (entries_of l.sheet)) right (placed_left (record_of l.sheet l.k) l.own l.n l.i)
    ≡ first (meets_any (numbered (entries_of l.sheet))) (say (entries_of l.sheet)) right (placed_of (record_of l.sheet l.k))
