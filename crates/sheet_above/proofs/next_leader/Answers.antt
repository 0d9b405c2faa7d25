-- `sheet_above::next_leader`: the loop. Invariant: what the records left say of the bus is what those from the first on say. Assumes nothing.
use mathlib.Core.Path.{refl, ap, ◌∙◌}
use Prim.Native.Nat.{◌<◌}
use native.Mathlib.Omega.{arith}
use lib.ListN.{length}
use Rattle.sheet.specs.Sheet.{entries_of}
use Rattle.sheet.proofs.IndexLaws.{record_fits, length_part}
use Rattle.sheet_above.specs.SearchLaws.{leader_miss, leader_hit, leader_none}
use Rattle.sheet_above.proofs.next_leader.Goals as goal
use Rattle.sheet_above.proofs.next_leader.Goals.{In-loop-k}

-- the record of this turn: it is in the sheet, and its part is whole
here : (c : In-loop-k) → c.loop-k.k < length (entries_of c.args.sheet.now)
here c = omega (arith, c.loop-k-test.true, c.count-k-end.ensures)

pub count-k-end-requires : goal.count-k-end-requires
count-k-end-requires c = c.requires.0.framed

pub loop-k-init : goal.loop-k-init
loop-k-init c = refl

pub part-requires : goal.part-requires
part-requires c = record_fits _ c.requires.0.framed _ (here (goal.at.part-requires c).In-loop-k)

pub leads_to-requires : goal.leads_to-requires
leads_to-requires c = ap length c.part.ensures
    ∙ length_part _ _ (record_fits _ c.requires.0.framed _ (here (goal.at.leads_to-requires c).In-loop-k))

pub returns-then-leads_to : goal.returns-then-leads_to
returns-then-leads_to c = (
  here (goal.at.returns-then-leads_to c).In-loop-k,
  leader_hit _ c.requires.0.framed _ c.count-k-end.ensures _ _ c.loop-k-test.true _
      c.part.ensures _ c.leads_to.ensures _ c.if-leads_to.true c.loop-k.invariant,
)

pub loop-k-preserved : goal.loop-k-preserved
loop-k-preserved c =
    leader_miss _ c.requires.0.framed _ c.count-k-end.ensures _ _ c.loop-k-test.true _ c.part.ensures _ c.leads_to.ensures c.if-leads_to.false
    ∙ c.loop-k.invariant

pub returns : goal.returns
returns c =
    let e = leader_none _ c.requires.0.framed _ c.count-k-end.ensures _ _ c.loop-k.k c.loop-k-test.false (omega arith) c.loop-k.invariant in
    rw c.count-k-end.ensures at e
