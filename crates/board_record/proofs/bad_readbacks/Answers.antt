-- `board_record::bad_readbacks` meets its contract. Assumes nothing.
use Rattle.board_record.specs.FunctionLaws.{readbacks_wrong_lem}
use Rattle.board_record.proofs.bad_readbacks.Goals as goal

pub returns : goal.returns
returns c = readbacks_wrong_lem c.args.part.now _ _ _ c.readbacks_of-set.ensures c.slot_count.ensures
    c.is_lawful.ensures
