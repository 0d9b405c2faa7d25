-- `text::copy_in` meets its contract. Assumes nothing.
use Rattle.std.specs.Prelude.{refl, List, ℕ, ◌+◌, get_or, set}
use Rattle.std.proofs.Common.{arith, ap, ◌∙◌, length-set}
use Rattle.text.specs.TextLaws.{copied_more}
use Rattle.text.proofs.copy_in.Goals as goal

pub loop-i-init : goal.loop-i-init
loop-i-init c = (refl, refl)

pub loop-i-preserved : goal.loop-i-preserved
loop-i-preserved c = (
  length-set c.loop-i.out (c.args.start + c.loop-i.i) (get_or c.args.text.now c.loop-i.i 0) ∙ c.loop-i.invariant.0,
  ap (λ (o : List ℕ). set o (c.args.start + c.loop-i.i) (get_or c.args.text.now c.loop-i.i 0)) c.loop-i.invariant.1
      ∙ copied_more c.args.out.now c.args.text.now c.args.start c.loop-i.i (omega arith),
)
