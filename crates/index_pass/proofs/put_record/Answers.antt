-- `index_pass::put_record`: by the pass. Assumes nothing.
use Rattle.index_pass.specs.PlacingLaws.{none_placed, one_placed, same_placed, one_room, same_room}
use Rattle.index_pass.specs.PassLaws.{record_live, record_off, record_id_lem, fits_bars}
use Rattle.index_pass.proofs.put_record.Goals as goal

pub put_bars-requires : goal.put_bars-requires
put_bars-requires c = (
  c.requires.0,
  c.requires.1,
  fits_bars _ _ c.in-Bars.is c.requires.2,
  c.word_end-end.ensures.1,
  same_room _ _ _ c.requires.4 _
      (record_live _ c.args.bridges c.args.number _ _ c.word_end-end.ensures.0 _ c.in-Bars.is _ _
      c.is_enabled.ensures c.all_on.ensures c.if-is_enabled-all_on.true),
  c.requires.5,
)

pub returns-then-is_enabled-all_on : goal.returns-then-is_enabled-all_on
returns-then-is_enabled-all_on c = same_placed _ _ _ _ _
    (record_live _ c.args.bridges c.args.number _ _ c.word_end-end.ensures.0 _ c.in-Bars.is _ _
    c.is_enabled.ensures c.all_on.ensures c.if-is_enabled-all_on.true)
    _ _ c.put_bars.ensures

pub put_slot-requires : goal.put_slot-requires
put_slot-requires c = (
  one_room _ _ _ c.requires.4 _
      (record_id_lem _ c.args.bridges c.args.number _ _ c.word_end-end.ensures.0 c.in-Ids.is _
      c.id_of-id.ensures),
  c.requires.5,
)

pub returns-else-is_enabled-all_on : goal.returns-else-is_enabled-all_on
returns-else-is_enabled-all_on c = none_placed _ _ _ _
    (record_off _ c.args.bridges c.args.number _ _ c.word_end-end.ensures.0 _ c.in-Bars.is _ _
    c.is_enabled.ensures c.all_on.ensures c.if-is_enabled-all_on.false)

pub returns-in-Ids : goal.returns-in-Ids
returns-in-Ids c = one_placed _ _ _ _ _
    (record_id_lem _ c.args.bridges c.args.number _ _ c.word_end-end.ensures.0 c.in-Ids.is _
    c.id_of-id.ensures)
    _ c.put_slot.ensures
