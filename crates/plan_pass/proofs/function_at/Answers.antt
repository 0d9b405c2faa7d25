-- `plan_pass::function_at` meets its contract. Assumes nothing.
use mathlib.Core.Path.{ap, ◌∙◌}
use Rattle.records.specs.RecordsLaws.{fits_at}
use Rattle.board_record.specs.Function.{function_of_part, header_wrong}
use Rattle.plan_pass.proofs.function_at.Goals as goal

pub part_at-requires : goal.part_at-requires
part_at-requires c = fits_at c.args.board.now c.args.at c.args.n c.requires.0

pub function_of-requires : goal.function_of-requires
function_of-requires c = ap header_wrong c.part_at.ensures ∙ c.requires.1

pub returns : goal.returns
returns c = c.function_of.ensures ∙ ap function_of_part c.part_at.ensures
