-- `sheet::any_breaks` meets its contract: one turn is one law of the records by index. Assumes nothing.
use Rattle.std.proofs.Common.{◌<◌, length, sym, ap, ◌∙◌, arith}
use Rattle.sheet.specs.Sheet.{entries_of}
use Rattle.sheet.proofs.IndexLaws.{record_fits, part_sized, breaks_hit, breaks_miss, breaks_past}
use Rattle.sheet.proofs.any_breaks.Goals as goal
use Rattle.sheet.proofs.any_breaks.Goals.{In-loop-k}

-- the record of this turn is in the sheet
here : (c : In-loop-k) → c.loop-k.k < length (entries_of c.args.sheet.now)
here c = omega (arith, c.loop-k-test.true, c.count-k-end.ensures)

pub part-requires : goal.part-requires
part-requires c = record_fits _ c.requires _ (here (goal.at.part-requires c).In-loop-k)

pub breaks-requires : goal.breaks-requires
breaks-requires c = ap length c.part.ensures ∙ part_sized _ c.requires _ (here (goal.at.breaks-requires c).In-loop-k)

pub returns-then-breaks : goal.returns-then-breaks
returns-then-breaks c =
    let h = here (goal.at.returns-then-breaks c).In-loop-k in
    let e = sym c.breaks.ensures ∙ c.if-breaks.true in
    sym (breaks_hit _ c.requires _ _ h (rw c.part.ensures at e)) ∙ c.loop-k.invariant

pub loop-k-preserved : goal.loop-k-preserved
loop-k-preserved c =
    let h = here (goal.at.loop-k-preserved c).In-loop-k in
    let e = sym c.breaks.ensures ∙ c.if-breaks.false in
    sym (breaks_miss _ c.requires _ _ h (rw c.part.ensures at e)) ∙ c.loop-k.invariant

pub returns : goal.returns
returns c = sym (breaks_past _ c.requires _ c.loop-k.k (omega (arith, c.count-k-end.ensures, c.loop-k-test.false))) ∙ c.loop-k.invariant
