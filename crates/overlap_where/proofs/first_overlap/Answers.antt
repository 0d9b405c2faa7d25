-- `overlap_where::first_overlap`: the loop over the record's ranges. Invariant: the first from index i on that meets another one is the
-- first of all. Assumes nothing.
use mathlib.Core.Path.{refl, sym, ◌∙◌}
use native.Mathlib.Omega.{arith}
use Rattle.sheet.specs.Sheet.{entries_of}
use Rattle.audit_finding.specs.Placed.{numbered}
use Rattle.audit_finding.specs.Fails.{meets_any}
use Rattle.audit_finding.specs.Spots.{record_of}
use Rattle.sheet_ranges.specs.SearchLaws.{part_fits, part_sized, part_lawful}
use Rattle.range_place.specs.TurnsLaws.{turn_start, turn_past, turn_hit, turn_miss}
use Rattle.overlap_where.specs.MeetingLaws.{say, spot_is, meets_number, meets_none, told_other, place_at}
use Rattle.overlap_where.proofs.first_overlap.Goals as goal
use Rattle.finding.specs.Places.{right, nobody}

pub loop-i-init : goal.loop-i-init
loop-i-init c = turn_start (record_of c.args.sheet.now c.args.k) _ _ c.requires.3 (meets_any (numbered (entries_of c.args.sheet.now)))
    (say (entries_of c.args.sheet.now)) right

pub part-requires : goal.part-requires
part-requires c = part_fits _ c.requires.0 _ c.requires.1

pub place_of-place-requires : goal.place_of-place-requires
place_of-place-requires c = (
  part_sized _ c.requires.0 _ c.requires.1 _ c.part.ensures,
  part_lawful _ c.requires.0 _ c.requires.1 _ c.part.ensures,
)

pub returns-in-Some : goal.returns-in-Some
returns-in-Some c = let es = entries_of c.args.sheet.now in
    let r = record_of c.args.sheet.now c.args.k in
    λ h.
    told_other es r _ _ _ c.in-Some.ensures.0
    ∙ sym (turn_hit r _ _ c.requires.3 (meets_any (numbered es)) (say es) right _ c.loop-i-test.true _
    c.item_at.ensures _ (place_at c.args.sheet.now c.args.k _ c.part.ensures _ _ c.place_of-place.ensures)
    (meets_number es _ _ c.in-Some.ensures.0 (λ z. omega (arith, c.in-Some.ensures.1))))
    ∙ c.loop-i.invariant ∙ spot_is es h r

pub loop-i-preserved : goal.loop-i-preserved
loop-i-preserved c = let es = entries_of c.args.sheet.now in
    let r = record_of c.args.sheet.now c.args.k in
    sym (turn_miss r _ _ c.requires.3 (meets_any (numbered es)) (say es) right _ c.loop-i-test.true _ c.item_at.ensures
    _ (place_at c.args.sheet.now c.args.k _ c.part.ensures _ _ c.place_of-place.ensures)
    (meets_none es _ nobody (sym c.in_default.ensures) refl))
    ∙ c.loop-i.invariant

pub returns : goal.returns
returns c = let es = entries_of c.args.sheet.now in
    let r = record_of c.args.sheet.now c.args.k in
    λ h.
    sym (turn_past r _ _ c.requires.3 (meets_any (numbered es)) (say es) right _ c.loop-i-test.false) ∙ c.loop-i.invariant
    ∙ spot_is es h r
