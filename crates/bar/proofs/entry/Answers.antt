-- `bar::entry`: an entry of the first n, by the laws of a set of six. Assumes nothing.
use mathlib.Core.Path.{sym}
use native.Mathlib.Omega.{arith}
use Rattle.bar.specs.ValuesLaws.{entry_past, entry_within}
use Rattle.bar.proofs.entry.Goals as goal

pub returns-then-min-i : goal.returns-then-min-i
returns-then-min-i c = sym (entry_past c.args.set.now c.args.n c.args.i c.requires (omega arith))

pub returns : goal.returns
returns c = sym (entry_within c.args.set.now c.args.n c.args.i (omega arith))
