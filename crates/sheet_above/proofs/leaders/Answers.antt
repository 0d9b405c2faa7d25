-- `sheet_above::leaders` meets its contract. Invariant: what the table says of a bus, joined with what the records that are left say, is
-- what all say. Assumes nothing.
use mathlib.Core.Path.{sym, ap, ◌∙◌}
use Prim.Native.Nat.{◌<◌}
use native.Mathlib.Omega.{arith}
use lib.ListN.{length}
use Rattle.sheet.specs.Sheet.{entries_of}
use Rattle.sheet.proofs.IndexLaws.{record_fits, length_part}
use Rattle.sheet_above.specs.TableLaws.{leads_start, leads_more, leads_end}
use Rattle.sheet_above.proofs.leaders.Goals as goal
use Rattle.sheet_above.proofs.leaders.Goals.{In-loop-k}

-- the record of this turn
here : (c : In-loop-k)
    → c.loop-k.k < length (entries_of c.args.sheet.now)
here c = omega (arith, c.loop-k-test.true, c.count-k-end.ensures)

pub count-k-end-requires : goal.count-k-end-requires
count-k-end-requires c = c.requires.0.framed

pub loop-k-init : goal.loop-k-init
loop-k-init c = leads_start _ _ c.requires.1

pub part-requires : goal.part-requires
part-requires c = record_fits _ c.requires.0.framed _ (here (goal.at.part-requires c).In-loop-k)

pub add_record-requires : goal.add_record-requires
add_record-requires c = (
  c.loop-k.invariant.size,
  ap length c.part.ensures ∙ length_part _ _ (record_fits _ c.requires.0.framed _ (here (goal.at.add_record-requires c).In-loop-k)),
  omega arith,
)

pub loop-k-preserved : goal.loop-k-preserved
loop-k-preserved c =
    leads_more _ c.requires.0.framed _ _ c.count-k-end.ensures _ c.loop-k.invariant c.loop-k-test.true _ c.part.ensures _ c.add_record.ensures

pub shape_of-table : goal.shape_of-table
shape_of-table c = c.loop-k.invariant.size ∙ sym (leads_start c.args.sheet.now _ c.requires.1).size

pub returns : goal.returns
returns c = leads_end _ c.requires.0.framed _ _ c.count-k-end.ensures _ c.loop-k.invariant
    c.loop-k-test.false
