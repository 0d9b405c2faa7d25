-- `index_slots::write_copies` meets its contract. Invariant: storing the copies that are left gives the final bytes. Assumes nothing.
use mathlib.Core.Path.{sym, ◌∙◌}
use Rattle.index_slots.specs.ClearedLaws.{copies_start, copies_turn, copies_end}
use Rattle.index_slots.proofs.write_copies.Goals as goal

pub loop-i-init : goal.loop-i-init
loop-i-init c = copies_start _ _ _ _

pub loop-i-preserved : goal.loop-i-preserved
loop-i-preserved c = copies_turn _ _ _ _ _ c.loop-i-test.true c.write_le64.ensures ∙ c.loop-i.invariant

pub returns : goal.returns
returns c = sym (copies_end _ _ _ _ _ c.loop-i-test.false) ∙ c.loop-i.invariant
