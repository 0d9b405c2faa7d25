-- `overlap_where::meets_here` meets its contract: by whether the two overlap. Assumes nothing.
use lib.ListN.{get_or}
use Rattle.sheet_record.specs.Entry.{entry_of}
use Rattle.sheet_ranges.specs.Items.{range_of}
use Rattle.audit_finding.specs.Zipped.{places_of}
use Rattle.overlap_where.specs.MeetingLaws.{apart_here, overlap_here}
use Rattle.overlap_where.proofs.meets_here.Goals as goal

pub returns-then-not-overlap : goal.returns-then-not-overlap
returns-then-not-overlap c = apart_here (range_of c.args.x) (range_of c.args.y) c.args.same c.args.place (get_or (places_of (entry_of c.args.part.now)) c.args.i 0) _
    c.overlap.ensures (c.if-not-overlap.true)

pub returns : goal.returns
returns c = overlap_here (range_of c.args.x) (range_of c.args.y) c.args.same c.args.place (get_or (places_of (entry_of c.args.part.now)) c.args.i 0) _
    c.overlap.ensures (c.if-not-overlap.false) _ c.place_of.ensures
