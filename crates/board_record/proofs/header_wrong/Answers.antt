-- `board_record::header_wrong` meets its contract: a record too short for a header type has the wrong length for any. Assumes nothing.
use mathlib.Core.Path.{sym}
use Rattle.board_record.specs.Function.{wrong_in}
use Rattle.board_record.specs.FunctionLaws.{header_wrong_short}
use Rattle.board_record.proofs.header_wrong.Goals as goal

pub returns-then-part-lt4 : goal.returns-then-part-lt4
returns-then-part-lt4 c = sym (header_wrong_short c.args.version c.args.part.now c.if-part-lt4.true)

pub returns : goal.returns
unfolding wrong_in
returns c = c.wrong_for.ensures
