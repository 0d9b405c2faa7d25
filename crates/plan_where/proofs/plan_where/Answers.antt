-- `plan_where::plan_where` meets its contract: a board's own number, else what its measure tells. Assumes nothing.
use mathlib.Core.Path.{sym, ap₂, ◌∙◌}
use Prim.Native.Nat.{ℕ}
use borrow.Author.Tests.{eq-eqb, ne_eqb}
use Rattle.board.specs.Board.{board_number}
use Rattle.finding.specs.declared.Party.{Party}
use Rattle.plan_where.specs.Finding.{unlawful_finding, plan_finding_of}
use Rattle.plan_where.proofs.plan_where.Goals as goal

pub returns-then-number-ne0 : goal.returns-then-number-ne0
unfolding plan_finding_of unlawful_finding
returns-then-number-ne0 c = rw (ne_eqb (board_number c.args.board.now) 0 (λ e. c.if-number-ne0.true (c.check-number.ensures ∙ e)))
    (ap₂ (λ (n : ℕ) (p : Party). unlawful_finding n p) c.check-number.ensures c.failing.ensures)

pub returns : goal.returns
unfolding plan_finding_of
returns c = rw (eq-eqb (board_number c.args.board.now) 0 (sym c.check-number.ensures ∙ c.if-number-ne0.false)) c.where_lawful.ensures
