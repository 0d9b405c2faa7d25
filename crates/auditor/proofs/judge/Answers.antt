-- `auditor::judge` meets its contract: one law for each answer. Assumes nothing.
use mathlib.Core.Path.{sym, ◌∙◌}
use Rattle.sheet.proofs.SheetLaws.{checked_of_zero}
use Rattle.auditor.specs.AuditorLaws.{short_host, off_edges_lem, sheet_refused, sheet_passed}
use Rattle.auditor.proofs.judge.Goals as goal

pub returns-then-host-ne-HOST_LENGTH : goal.returns-then-host-ne-HOST_LENGTH
returns-then-host-ne-HOST_LENGTH c = sym (short_host _ _ _ c.if-host-ne-HOST_LENGTH.true)

pub returns-then-host_wrong : goal.returns-then-host_wrong
returns-then-host_wrong c = sym (off_edges_lem _ _ _ c.if-host-ne-HOST_LENGTH.false _ c.host_of-h.ensures _ c.host_wrong.ensures c.if-host_wrong.true)

pub returns-then-n-ne0 : goal.returns-then-n-ne0
returns-then-n-ne0 c = sym (sheet_refused _ _ _ c.if-host-ne-HOST_LENGTH.false _ c.host_of-h.ensures _ c.host_wrong.ensures
    c.if-host_wrong.false _
    c.check-n.ensures c.if-n-ne0.true)

pub judge_checked-requires : goal.judge_checked-requires
judge_checked-requires c = checked_of_zero _ (sym c.check-n.ensures ∙ c.if-n-ne0.false)

pub returns : goal.returns
returns c = c.judge_checked.ensures
    ∙ sym (sheet_passed _ _ _ c.if-host-ne-HOST_LENGTH.false _ c.host_of-h.ensures _ c.host_wrong.ensures
    c.if-host_wrong.false _
    c.check-n.ensures c.if-n-ne0.false)
