-- `sheet::id_twice` meets its contract: one turn is one law of the records by index. Assumes nothing.
use Rattle.std.proofs.Common.{◌/◌, ◌<◌, length, refl, sym, ap, ◌∙◌, arith}
use Rattle.sheet_record.specs.Entry.{id_of}
use Rattle.sheet.specs.Sheet.{entries_of}
use Rattle.sheet.proofs.IndexLaws.{record_fits, part_sized}
use Rattle.sheet.proofs.ReadSoFarLaws.{read_start, read_hit, read_miss, read_past}
use Rattle.sheet.proofs.id_twice.Goals as goal
use Rattle.sheet.proofs.id_twice.Goals.{In-loop-k}

-- the record of this turn is in the sheet
here : (c : In-loop-k) → c.loop-k.k < length (entries_of c.args.sheet.now)
here c = omega (arith, c.loop-k-test.true, c.count-k-end.ensures)

pub part-requires : goal.part-requires
part-requires c = record_fits _ c.requires _ (here (goal.at.part-requires c).In-loop-k)

pub loop-k-init : goal.loop-k-init
loop-k-init c = record { read = read_start _ 1024; room = refl }

pub id_of-id-requires : goal.id_of-id-requires
id_of-id-requires c = ap length c.part.ensures ∙ part_sized _ c.requires _ (here (goal.at.id_of-id-requires c).In-loop-k)

pub returns-then-test_and_mark : goal.returns-then-test_and_mark
returns-then-test_and_mark c =
    let h = here (goal.at.returns-then-test_and_mark c).In-loop-k in
    let own = c.id_of-id.ensures ∙ ap id_of c.part.ensures in
    sym (read_hit _ c.requires _ h _ c.loop-k.invariant.read _ own (sym c.test_and_mark.ensures.answer ∙ c.if-test_and_mark.true))

pub loop-k-preserved : goal.loop-k-preserved
loop-k-preserved c =
    let h = here (goal.at.loop-k-preserved c).In-loop-k in
    let own = c.id_of-id.ensures ∙ ap id_of c.part.ensures in
    let room : c.id_of-id.result / 64 < length c.loop-k.seen = omega (arith, c.loop-k.invariant.room) in
    record {
      read = read_miss _ c.requires _ h _ c.loop-k.invariant.read _ own _ (sym c.test_and_mark.ensures.answer ∙ c.if-test_and_mark.false) room
          c.test_and_mark.ensures.content;
      room = omega (arith, c.loop-k.invariant.room, c.test_and_mark.auto.seen);
    }

pub returns : goal.returns
returns c = sym (read_past _ c.requires c.loop-k.k (omega (arith, c.count-k-end.ensures, c.loop-k-test.false)) _ c.loop-k.invariant.read)
