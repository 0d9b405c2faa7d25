-- `route_cards::start::is_type_0`: from 1, in the sheet, and no bridge. Assumes nothing.
use Rattle.route_cards.specs.Search.{IsRecord}
use Rattle.route_cards.specs.RecordLaws.{told_0, told_past, record_of, part_fits, sized, told}
use Rattle.route_cards.proofs.start.is_type_0.Goals as goal
use Rattle.route_cards.proofs.start.is_type_0.Goals.{Else-count-record}

-- the record is there
here : (c : Else-count-record) → IsRecord c.args.sheet.now c.args.number
here c = record_of _ c.requires _ _ c.count.ensures c.if-record-eq0.false c.if-count-record.false

pub returns-then-record-eq0 : goal.returns-then-record-eq0
returns-then-record-eq0 c = told_0 _ c.requires _ c.if-record-eq0.true

pub count-requires : goal.count-requires
count-requires c = c.requires.framed

pub returns-then-count-record : goal.returns-then-count-record
returns-then-count-record c = told_past _ c.requires _ _ c.count.ensures c.if-count-record.true

pub part-requires : goal.part-requires
part-requires c = part_fits _ c.requires _ (here (goal.at.part-requires c).Else-count-record)

pub is_bridge-requires : goal.is_bridge-requires
is_bridge-requires c = sized _ c.requires _ (here (goal.at.is_bridge-requires c).Else-count-record) _ c.part.ensures

pub returns : goal.returns
returns c = told _ c.requires _ (here (goal.at.returns c).Else-count-record) _ c.part.ensures _
    c.is_bridge.ensures
