-- `text::put_byte` meets its contract: one store, or none past the end. Assumes nothing.
use mathlib.Core.Path.{refl, sym}
use native.Mathlib.Omega.{arith}
use lib.Seq.{set_out}
use Rattle.text.proofs.put_byte.Goals as goal

pub returns-then-at-size : goal.returns-then-at-size
returns-then-at-size c = record { stored = refl; place = omega arith }

pub returns : goal.returns
returns c = record { stored = sym (set_out _ _ _ c.if-at-size.false); place = omega arith }
