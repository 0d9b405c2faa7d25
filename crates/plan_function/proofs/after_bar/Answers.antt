-- `after_bar` meets its contract: the cursor of the BAR's pool stands at its end, the others where they were. Assumes nothing.
use mathlib.Core.Path.{◌∙◌}
use Rattle.plan_function.proofs.KeptLaws.{kept_bar}
use Rattle.plan_function.proofs.after_bar.Goals as goal

pub returns-in-Bar : goal.returns-in-Bar
returns-in-Bar c = rw c.in-Bar.is (c.with_cursor.ensures ∙ kept_bar c.args.c c.in-Bar.q c.in-Bar.field-1 c.in-Bar.size _ _ _
    c.requires.1 c.cursor.ensures c.start_at-start.ensures.0 c.end_of.ensures)
