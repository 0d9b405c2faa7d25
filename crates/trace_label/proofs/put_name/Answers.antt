-- `trace_label::put_name` meets its contract: the word stored whole, or its name put as far as it fits. Assumes nothing.
use native.Mathlib.Omega.{arith}
use Rattle.trace_label.specs.WordLaws.{name_over, name_put}
use Rattle.trace_label.proofs.put_name.Goals as goal

pub returns-then-out-at-lt8 : goal.returns-then-out-at-lt8
returns-then-out-at-lt8 c = name_put c.args.out.now c.args.start c.place-at.result c.args.name c.requires _ _
    c.put_short.ensures

pub returns : goal.returns
returns c = name_over c.args.out.now c.args.start _ c.args.name c.requires c.place-at.ensures.place
    (omega (arith, c.if-out-at-lt8.false)) _ c.write_be64.ensures
