-- `index_pass::put_pass`: the loop over the records. Invariant: inserting what the records from k on own gives what inserting all gives.
-- Assumes nothing.
use Prim.Native.Nat.{◌+◌, ◌<◌}
use native.Mathlib.Omega.{arith}
use lib.ListN.{length}
use Rattle.sheet.specs.Sheet.{entries_of}
use Rattle.sheet.proofs.IndexLaws.{record_fits}
use Rattle.sheet_above.specs.BridgesLaws.{part_sized, on_bus_index}
use Rattle.index_pass.specs.Pass.{record_slots}
use Rattle.index_pass.specs.PlacingLaws.{placing_start, placing_end, placing_room, placing_next}
use Rattle.index_pass.specs.PassLaws.{slots_after, pass_start, pass_step, pass_end, part_lawful}
use Rattle.index_pass.proofs.put_pass.Goals as goal
use Rattle.index_pass.proofs.put_pass.Goals.{In-loop-k}

-- the record of this turn
here : (c : In-loop-k)
    → c.loop-k.k < length (entries_of c.args.sheet.now)
here c = omega (arith, c.loop-k-test.true, c.count-k-end.ensures)

pub count-k-end-requires : goal.count-k-end-requires
count-k-end-requires c = c.requires.0.checked.framed

pub loop-k-init : goal.loop-k-init
loop-k-init c = placing_start c.args.n _ c.args.count _ _ (pass_start c.args.pass c.args.root c.args.sheet.now)

pub part-part-requires : goal.part-part-requires
part-part-requires c = record_fits _ c.requires.0.checked.framed _ (here (goal.at.part-part-requires c).In-loop-k)

pub bus_of-requires : goal.bus_of-requires
bus_of-requires c = part_sized _ c.requires.0.checked.framed
    _ (here (goal.at.bus_of-requires c).In-loop-k) _ c.part-part.ensures

pub bridges_above-bridges-requires : goal.bridges_above-bridges-requires
bridges_above-bridges-requires c = (c.requires.0, on_bus_index _ c.requires.0.checked.framed _ (here (goal.at.bridges_above-bridges-requires c).In-loop-k) _ c.part-part.ensures _ c.bus_of.ensures)

pub put_record-at-requires : goal.put_record-at-requires
put_record-at-requires c = (
  part_sized _ c.requires.0.checked.framed _ (here (goal.at.put_record-at-requires c).In-loop-k) _ c.part-part.ensures,
  part_lawful _ c.requires.0.checked _ (here (goal.at.put_record-at-requires c).In-loop-k) _ c.part-part.ensures,
  c.requires.1,
  omega (arith, here (goal.at.put_record-at-requires c).In-loop-k, c.requires.0.checked.count),
  placing_room _ _ _ _ _ _ _ c.loop-k.invariant
      (record_slots c.args.pass c.bridges_above-bridges.result (c.loop-k.k + 1) c.part-part.result.now)
      (slots_after c.args.pass c.args.root c.args.sheet.now (c.loop-k.k + 1))
      (pass_step _ c.requires.0.checked.framed _ (here (goal.at.put_record-at-requires c).In-loop-k) _ c.part-part.ensures _ _ c.bus_of.ensures _ c.bridges_above-bridges.ensures
      c.args.pass)
      _ c.requires.2,
  omega (arith, c.loop-k.invariant.same_length, c.requires.3),
)

pub loop-k-preserved : goal.loop-k-preserved
loop-k-preserved c = placing_next _ _ _ _ _ _ _ c.loop-k.invariant _ _
    (pass_step _ c.requires.0.checked.framed _ (here (goal.at.loop-k-preserved c).In-loop-k) _ c.part-part.ensures _ _ c.bus_of.ensures _
    c.bridges_above-bridges.ensures c.args.pass)
    _ _ c.put_record-at.auto.index c.put_record-at.ensures.0 c.put_record-at.ensures.1

pub returns : goal.returns
returns c = placing_end _ _ _ _ _ _ _ c.loop-k.invariant
    (pass_end _ c.requires.0.checked.framed c.args.pass _ _ (omega (arith, c.count-k-end.ensures, c.loop-k-test.false)))
