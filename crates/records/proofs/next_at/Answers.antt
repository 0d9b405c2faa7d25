-- `records::next_at` meets its contract: one law for each thing that can stand at a place. Assumes nothing.
use mathlib.Core.Path.{sym, ap, ◌∙◌}
use native.Mathlib.Omega.{arith}
use Rattle.records.specs.declared.Next.TheVariants.{Record}
use Rattle.records.specs.RecordsLaws.{next_end, next_stray, next_broken, next_record}
use Rattle.records.proofs.next_at.Goals as goal

pub returns-then-s-at : goal.returns-then-s-at
returns-then-s-at c = sym (next_end _ _ c.if-s-at.true)

pub returns-then-left-lt2 : goal.returns-then-left-lt2
returns-then-left-lt2 c = sym (next_stray c.args.s.now c.args.at (omega arith))

pub returns-then-left-n : goal.returns-then-left-n
returns-then-left-n c = sym (next_broken c.args.s.now c.args.at (omega arith) (omega arith))

pub returns : goal.returns
returns c = ap Record c.read_be16-n.ensures.0 ∙ sym (next_record c.args.s.now c.args.at (omega arith) (omega arith))
