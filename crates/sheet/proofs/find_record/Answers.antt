-- `sheet::find_record` meets its contract: one turn is one law of the records by index. Assumes nothing.
use Rattle.std.proofs.Common.{◌≡◌, ◌+◌, ◌*◌, ◌<◌, length, sym, ap, ◌∙◌, arith}
use Rattle.sheet_record.specs.Entry.{id_of}
use Rattle.sheet.specs.Sheet.{entries_of, part_at, record_at}
use Rattle.sheet.proofs.IndexLaws.{record_fits, part_sized, find_hit, find_miss, find_past}
use Rattle.sheet.proofs.find_record.Goals as goal
use Rattle.sheet.proofs.find_record.Goals.{In-loop-k}

-- the record of this turn is in the sheet
here : (c : In-loop-k) → c.loop-k.k < length (entries_of c.args.sheet.now)
here c = omega (arith, c.loop-k-test.true, c.count-k-end.ensures)

pub part-requires : goal.part-requires
part-requires c = record_fits _ c.requires _ (here (goal.at.part-requires c).In-loop-k)

pub id_of-requires : goal.id_of-requires
id_of-requires c = ap length c.part.ensures ∙ part_sized _ c.requires _ (here (goal.at.id_of-requires c).In-loop-k)

pub returns-then-id_of-id : goal.returns-then-id_of-id
returns-then-id_of-id c =
    let h = here (goal.at.returns-then-id_of-id c).In-loop-k in
    let e : id_of (part_at c.args.sheet.now c.loop-k.k) ≡ c.args.id = sym (c.id_of.ensures ∙ ap id_of c.part.ensures) ∙ c.if-id_of-id.true in
    let n : 92 * c.loop-k.k + 1 ≡ record_at c.loop-k.k = omega arith in
    rw n (sym (find_hit _ c.requires _ _ h e) ∙ c.loop-k.invariant)

pub loop-k-preserved : goal.loop-k-preserved
loop-k-preserved c =
    let h = here (goal.at.loop-k-preserved c).In-loop-k in
    sym (find_miss _ c.requires _ _ h (λ e. c.if-id_of-id.false (c.id_of.ensures ∙ ap id_of c.part.ensures ∙ e))) ∙ c.loop-k.invariant

pub returns : goal.returns
returns c = sym (find_past _ c.requires _ c.loop-k.k (omega (arith, c.count-k-end.ensures, c.loop-k-test.false))) ∙ c.loop-k.invariant

pub overflow_mul-result : goal.overflow_mul-result
overflow_mul-result c = omega (arith, record_fits _ c.requires _ (here (goal.at.overflow_mul-result c).In-loop-k))

pub overflow_add-result : goal.overflow_add-result
overflow_add-result c = omega (arith, record_fits _ c.requires _ (here (goal.at.overflow_add-result c).In-loop-k))
