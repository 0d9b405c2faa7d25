-- `sheet::id_of` meets its contract: the sheet's number, no such record, the ID in the record's part. Assumes nothing.
use mathlib.Core.Path.{sym, ap, ◌∙◌}
use Prim.Native.Nat.{◌-◌, ◌+◌, ◌≤◌}
use native.Mathlib.Omega.{arith}
use lib.ListN.{length}
use Rattle.sheet.specs.Sheet.{sheet_length}
use Rattle.sheet.proofs.IndexLaws.{record_fits, length_part}
use Rattle.sheet.proofs.SheetLaws.{checked_of_zero}
use Rattle.sheet.proofs.RecordIdLaws.{record_id_bad, record_id_host, record_id_past, record_id_here}
use Rattle.sheet.proofs.id_of.Goals as goal
use Rattle.sheet.proofs.id_of.Goals.{Else-count-number}

-- the record lies inside the sheet
fits : (c : Else-count-number)
    → sheet_length (c.args.number - 1 + 1)
    ≤ length c.args.sheet.now
fits c =
    let f = (checked_of_zero _ (sym c.check-n.ensures ∙ c.if-n-ne0.false)).framed in
    record_fits c.args.sheet.now f (c.args.number - 1) (omega (arith, c.count.ensures, c.if-number-eq0.false))

pub returns-then-n-ne0 : goal.returns-then-n-ne0
returns-then-n-ne0 c = record_id_bad _ c.check-n.ensures _ c.if-n-ne0.true

pub returns-then-number-eq0 : goal.returns-then-number-eq0
returns-then-number-eq0 c = record_id_host _ c.check-n.ensures _ c.if-n-ne0.false c.if-number-eq0.true

pub count-requires : goal.count-requires
count-requires c = (checked_of_zero _ (sym c.check-n.ensures ∙ c.if-n-ne0.false)).framed

pub returns-then-count-number : goal.returns-then-count-number
returns-then-count-number c = record_id_past _ c.check-n.ensures _ _ c.if-n-ne0.false c.count.ensures c.if-count-number.true

pub part-requires : goal.part-requires
part-requires c = fits (goal.at.part-requires c).Else-count-number

pub id_of-requires : goal.id_of-requires
id_of-requires c = ap length c.part.ensures ∙ length_part _ _ (fits (goal.at.id_of-requires c).Else-count-number)

pub returns : goal.returns
returns c = let f = (checked_of_zero _ (sym c.check-n.ensures ∙ c.if-n-ne0.false)).framed in
    record_id_here _ c.check-n.ensures _ _ _ _ c.if-n-ne0.false f c.count.ensures
    c.if-number-eq0.false
    c.if-count-number.false c.part.ensures c.id_of.ensures
