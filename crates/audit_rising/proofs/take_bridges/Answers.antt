-- `audit_rising::take_bridges`: the loop over the records. Invariant: where what is left rises from here, all rises from the start. Assumes
-- nothing.
use mathlib.Core.Path.{ap, ◌∙◌}
use Prim.Native.Nat.{◌<◌}
use native.Mathlib.Omega.{arith}
use lib.ListN.{length}
use Rattle.sheet.specs.Sheet.{entries_of}
use Rattle.sheet.proofs.IndexLaws.{record_fits, length_part}
use Rattle.audit_rising.specs.Rising.{Rising}
use Rattle.audit_rising.specs.Spots.{buses_of}
use Rattle.audit_rising.specs.PassLaws.{records_past, records_turn, buses_told}
use Rattle.audit_rising.proofs.take_bridges.Goals as goal
use Rattle.audit_rising.proofs.take_bridges.Goals.{In-loop-k}

-- the record of a turn is one of the sheet's
inside : (c : In-loop-k)
    → c.loop-k.k < length (entries_of c.args.sheet.now)
inside c = omega (arith, c.count-k-end.ensures, c.loop-k-test.true)

pub loop-k-init : goal.loop-k-init
loop-k-init c = (c.requires.1, λ h. h)

pub part-requires : goal.part-requires
part-requires c = record_fits _ c.requires.0 _ (inside (goal.at.part-requires c).In-loop-k)

pub take_buses-requires : goal.take_buses-requires
take_buses-requires c = (
  c.loop-k.invariant.0,
  ap length c.part.ensures ∙ length_part _ _ (record_fits _ c.requires.0 _ (inside (goal.at.take_buses-requires c).In-loop-k)),
)

pub loop-k-preserved : goal.loop-k-preserved
loop-k-preserved c = (
  omega arith,
  λ h. c.loop-k.invariant.1
      (records_turn Rising buses_of _ c.requires.0 _ _ c.count-k-end.ensures _
      c.loop-k-test.true _ c.part.ensures _ (c.take_buses.ensures (c.if-not-take_buses.false)) h),
)

pub returns : goal.returns
returns c = λ e. buses_told _ _
    (c.loop-k.invariant.1 (records_past Rising buses_of _ c.requires.0 _ _ c.count-k-end.ensures _
    c.loop-k-test.false tt))
