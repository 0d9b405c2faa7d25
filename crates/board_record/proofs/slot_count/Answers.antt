-- `board_record::slot_count` meets its contract. Assumes nothing.
use mathlib.Core.Path.{ap, ◌∙◌}
use Rattle.bar.specs.Header.{slot_count}
use Rattle.board_record.proofs.slot_count.Goals as goal

pub returns : goal.returns
returns c = c.slot_count.ensures.0 ∙ ap slot_count c.header_of.ensures
