-- `auditor::judge_checked` meets its contract: the first check that fails. Assumes nothing.
use mathlib.Core.Path.{sym}
use Rattle.auditor.specs.AuditorLaws.{not_tree_lem, not_nested_lem, not_disjoint_lem, all_passed}
use Rattle.auditor.proofs.judge_checked.Goals as goal

pub returns-then-fails : goal.returns-then-fails
returns-then-fails c = sym (not_tree_lem _ _ _ _ c.fails.ensures c.if-fails.true)

pub returns-then-fails-2 : goal.returns-then-fails-2
returns-then-fails-2 c = sym (not_nested_lem _ _ _ _ c.fails.ensures c.if-fails.false _ c.fails-2.ensures c.if-fails-2.true)

pub returns-then-fails-3 : goal.returns-then-fails-3
returns-then-fails-3 c = sym (not_disjoint_lem _ _ _ _ c.fails.ensures c.if-fails.false _ c.fails-2.ensures c.if-fails-2.false _
    c.fails-3.ensures c.if-fails-3.true)

pub returns : goal.returns
returns c = sym (all_passed _ _ _ _ c.fails.ensures c.if-fails.false _ c.fails-2.ensures c.if-fails-2.false _
    c.fails-3.ensures c.if-fails-3.false)
