-- `sheet_where::spot_at` meets its contract: check by check. Assumes nothing.
use mathlib.Core.Path.{◌≡◌, ap, ◌∙◌}
use lib.ListN.{length}
use Rattle.sheet_record.specs.Places.{record_size}
use Rattle.sheet.proofs.IndexLaws.{record_fits, length_part}
use Rattle.sheet_where.specs.OwnLaws.{type_spot, buses_spot, read_back_spot, nibble_spot_lem}
use Rattle.sheet_where.proofs.spot_at.Goals as goal
use Rattle.sheet_where.proofs.spot_at.Goals.{After-part-part}

-- the record's part
sized : (c : After-part-part) → length c.part-part.result.now ≡ record_size
sized c = ap length c.part-part.ensures ∙ length_part _ _ (record_fits _ c.requires.0 _ c.requires.1)

pub part-part-requires : goal.part-part-requires
part-part-requires c = record_fits _ c.requires.0 _ c.requires.1

pub type_wrong-requires : goal.type_wrong-requires
type_wrong-requires c = sized (goal.at.type_wrong-requires c).After-part-part

pub buses_wrong-requires : goal.buses_wrong-requires
buses_wrong-requires c = sized (goal.at.buses_wrong-requires c).After-part-part

pub read_back_spot-requires : goal.read_back_spot-requires
read_back_spot-requires c = sized (goal.at.read_back_spot-requires c).After-part-part

pub nibble_spot-requires : goal.nibble_spot-requires
nibble_spot-requires c = sized (goal.at.nibble_spot-requires c).After-part-part

pub returns-in-HeaderType : goal.returns-in-HeaderType
returns-in-HeaderType c = λ h. rw c.in-HeaderType.is (type_spot h c.args.sheet.now c.args.k _ c.part-part.ensures _ _
    c.type_wrong.ensures c.wrong_if.ensures)

pub returns-in-Buses : goal.returns-in-Buses
returns-in-Buses c = λ h. rw c.in-Buses.is (buses_spot h c.args.sheet.now c.args.k _ c.part-part.ensures _ _
    c.buses_wrong.ensures c.wrong_if-in-Buses.ensures)

pub returns-in-Ids : goal.returns-in-Ids
returns-in-Ids c = λ h. rw c.in-Ids.is (c.id_spot.ensures h)

pub returns-in-ReadBacks : goal.returns-in-ReadBacks
returns-in-ReadBacks c = λ h. rw c.in-ReadBacks.is (read_back_spot h c.args.sheet.now c.args.k _ c.part-part.ensures _
    c.read_back_spot.ensures)

pub returns-in-Nibbles : goal.returns-in-Nibbles
returns-in-Nibbles c = λ h. rw c.in-Nibbles.is (nibble_spot_lem h c.args.sheet.now c.args.k _ c.part-part.ensures _ c.nibble_spot.ensures)
