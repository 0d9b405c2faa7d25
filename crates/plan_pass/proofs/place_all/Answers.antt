-- `plan_pass::place_all` meets its contract. Assumes nothing.
use mathlib.Core.Path.{◌∙◌}
use native.Mathlib.Omega.{arith}
use lib.ListN.{length-set}
use Rattle.plan_pass.specs.Loop.{plan_on}
use Rattle.plan_pass.specs.LoopLaws.{ready_of_placing, version_first}
use Rattle.plan_pass.proofs.place_all.Goals as goal

pub place_records-requires : goal.place_records-requires
place_records-requires c = ready_of_placing _ _ c.requires c.bases_of.ensures c.fill_cursors.ensures c.fill_cursors.auto.cursors

pub shape_of-sheet : goal.shape_of-sheet
shape_of-sheet c = omega (arith, c.place_records.auto.sheet, length-set c.args.sheet.now 0 1)

pub returns : goal.returns
returns c = c.place_records.ensures ∙ version_first c.args.sheet.now (plan_on c.args.board.now)
