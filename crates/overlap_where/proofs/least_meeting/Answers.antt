-- `overlap_where::least_meeting`: the loop over the records. Invariant: the least that is met from record j on is the least of all. Assumes
-- nothing.
use mathlib.Core.Path.{refl, sym, ◌∙◌}
use native.Mathlib.Omega.{arith}
use Rattle.sheet_ranges.specs.Items.{range_of}
use Rattle.audit_finding.specs.Placed.{placed_at}
use Rattle.audit_finding.specs.Where.{least_meeting}
use Rattle.audit_finding.specs.Spots.{record_of}
use Rattle.overlap_where.specs.MeetingLaws.{least_past, least_miss, least_hit}
use Rattle.overlap_where.proofs.least_meeting.Goals as goal

pub met_at-requires : goal.met_at-requires
met_at-requires c = (c.requires.0, c.requires.1, omega (arith, c.loop-j-test.true, c.count-j-end.ensures))

pub returns-in-Some : goal.returns-in-Some
returns-in-Some c = (
  sym (least_hit c.args.sheet.now c.requires.0.framed _ _ c.count-j-end.ensures (placed_at (record_of c.args.sheet.now c.args.k)
      c.args.place (range_of c.args.x)) c.loop-j-test.true _ c.met_at.ensures _ _ c.in-Some.is)
      ∙ c.loop-j.invariant,
  omega arith,
)

pub loop-j-preserved : goal.loop-j-preserved
loop-j-preserved c = sym (least_miss c.args.sheet.now c.requires.0.framed _ _ c.count-j-end.ensures (placed_at
    (record_of c.args.sheet.now c.args.k)
    c.args.place (range_of c.args.x)) c.loop-j-test.true _ c.met_at.ensures c.in_default.is)
    ∙ c.loop-j.invariant

pub returns : goal.returns
returns c = sym c.loop-j.invariant
    ∙ least_past c.args.sheet.now c.requires.0.framed _ _ c.count-j-end.ensures (placed_at (record_of c.args.sheet.now c.args.k)
    c.args.place (range_of c.args.x)) c.loop-j-test.false

pub loop-j-init : goal.loop-j-init
unfolding least_meeting
loop-j-init c = refl
