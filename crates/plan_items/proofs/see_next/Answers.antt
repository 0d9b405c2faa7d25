-- `plan_items::see_next` meets its contract. Assumes nothing.
use native.Mathlib.Numerals.{add-one}
use Rattle.plan_items.specs.LoopLaws.{told_next_lem}
use Rattle.plan_items.proofs.see_next.Goals as goal

pub returns : goal.returns
returns c = told_next_lem _ _ _ _ c.args.memo.now c.args.cursors.now (add-one c.args.i) c.cursor_of-end.ensures c.inner_of.ensures
    c.see_record.ensures
