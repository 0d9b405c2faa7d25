-- `tlp_judge::judge` meets its contract: 0 for what passes, or by reading. Assumes nothing.
use mathlib.Core.Path.{sym, ap, ◌∙◌}
use Rattle.tlp.specs.Reading.{number_of, read_of}
use Prim.Native.Nat.{ℕ, ◌-◌}
use mathlib.Core.List.{List}
use native.Mathlib.Omega.{arith}
use lib.ListN.{length}
use lib.Seq.{take_all}
use Rattle.tlp_judge.proofs.judge.Goals as goal

pub returns-then-is_lawful : goal.returns-then-is_lawful
returns-then-is_lawful c = sym (c.is_lawful.ensures c.if-is_lawful.true)

pub returns : goal.returns
returns c = c.number.ensures ∙ ap number_of c.read.ensures ∙ ap (λ (x : List ℕ). number_of (read_of x)) (take_all (length c.args.header.now - 0) c.args.header.now (omega arith))
