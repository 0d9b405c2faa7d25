-- `plan_sizing::with_window` meets its contract: none where there is nothing inside, or a window over a cut end. Assumes nothing.
use borrow.Author.Tests.{eq-eqb}
use Rattle.plan_sizing.specs.CutLaws.{cut_window}
use mathlib.Core.Path.{◌∙◌}
use Rattle.plan_sizing.proofs.with_window.Goals as goal

pub returns-then-inner-eq0 : goal.returns-then-inner-eq0
returns-then-inner-eq0 c = rw (eq-eqb c.args.inner.align 0 c.if-inner-eq0.true, c.cap.ensures.0)

pub returns : goal.returns
returns c = c.grow.ensures ∙ rw (c.window_size-size.ensures, c.window_align.ensures)
    (cut_window c.args.q c.args.e c.args.inner c.if-inner-eq0.false)
