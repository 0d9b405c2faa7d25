-- `audit_rising::take_records`: the loop over the records. Invariant: where what is left rises from here, all rises from the start. Assumes
-- nothing.
use mathlib.Core.Path.{refl}
use Prim.Native.Nat.{◌<◌}
use native.Mathlib.Omega.{arith}
use lib.ListN.{length}
use Rattle.sheet.specs.Sheet.{entries_of}
use Rattle.sheet_ranges.specs.SearchLaws.{part_fits, part_sized, part_lawful}
use Rattle.audit_rising.specs.Rising.{Rising}
use Rattle.audit_rising.specs.Spots.{spots_of}
use Rattle.audit_rising.specs.PassLaws.{records_past, records_turn, ranges_told}
use Rattle.audit_rising.proofs.take_records.Goals as goal
use Rattle.audit_rising.proofs.take_records.Goals.{In-loop-k}

-- the record of a turn is one of the sheet's
inside : (c : In-loop-k)
    → c.loop-k.k < length (entries_of c.args.sheet.now)
inside c = omega (arith, c.count-k-end.ensures, c.loop-k-test.true)

pub loop-k-init : goal.loop-k-init
loop-k-init c = (c.requires.1, refl, λ h. h)

pub part-requires : goal.part-requires
part-requires c = part_fits _ c.requires.0 _ (inside (goal.at.part-requires c).In-loop-k)

pub take_record-requires : goal.take_record-requires
take_record-requires c = (
  c.loop-k.invariant.0,
  part_sized _ c.requires.0 _ (inside (goal.at.take_record-requires c).In-loop-k) _ c.part.ensures,
  part_lawful _ c.requires.0 _ (inside (goal.at.take_record-requires c).In-loop-k) _ c.part.ensures,
  omega (arith, c.loop-k.invariant.1),
)

pub loop-k-preserved : goal.loop-k-preserved
loop-k-preserved c = (
  omega arith,
  omega arith,
  λ h. c.loop-k.invariant.2
      (records_turn Rising spots_of _ c.requires.0.framed _ _ c.count-k-end.ensures _
      c.loop-k-test.true _ c.part.ensures _ (c.take_record.ensures (c.if-not-take_record.false)) h),
)

pub returns : goal.returns
returns c = λ e. ranges_told _ _
    (c.loop-k.invariant.2 (records_past Rising spots_of _ c.requires.0.framed _ _ c.count-k-end.ensures _
    c.loop-k-test.false tt))
