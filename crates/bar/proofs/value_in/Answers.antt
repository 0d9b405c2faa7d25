-- `bar::value_in`: one register or two. Assumes nothing.
use mathlib.Core.Path.{sym, ap₂, ◌∙◌}
use lib.ListN.{take}
use Rattle.bar.specs.Bar.{joined}
use Rattle.bar.specs.ValuesLaws.{value_here_at}
use Rattle.bar.proofs.value_in.Goals as goal

pub returns-then-takes_next : goal.returns-then-takes_next
returns-then-takes_next c = let t = sym c.takes_next.ensures ∙ c.if-takes_next.true in
    c.joined.ensures.0 ∙ ap₂ joined c.entry-low.ensures c.entry.ensures
    ∙ sym (value_here_at c.args.x (take c.args.n c.args.values.now) c.args.i ∙ rw t)

pub returns : goal.returns
returns c = let t = sym c.takes_next.ensures ∙ c.if-takes_next.false in
    c.entry-low.ensures ∙ sym (value_here_at c.args.x (take c.args.n c.args.values.now) c.args.i ∙ rw t)
