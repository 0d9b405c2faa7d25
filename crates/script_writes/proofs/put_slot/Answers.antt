-- `script_writes::put_slot` meets its contract. Assumes nothing.
use mathlib.Core.Path.{refl, sym, ◌∙◌}
use native.Mathlib.Omega.{arith}
use Rattle.script_writes.proofs.Wrote.{wrote_if_not, wrote_if, room_if}
use Rattle.script_writes.proofs.put_slot.Goals as goal

pub returns-then-not-is_used : goal.returns-then-not-is_used
returns-then-not-is_used c = λ k. wrote_if_not _ _ (sym c.is_used.ensures ∙ c.if-not-is_used.true)

pub put_write-requires : goal.put_write-requires
put_write-requires c = let h = room_if _ _ _ 1 _ (sym c.is_used.ensures ∙ c.if-not-is_used.false) refl c.requires.2 in
    (c.requires.0, record { inside = omega (arith, c.requires.1); aligned = omega arith }, omega (arith, h))

pub returns : goal.returns
returns c = λ k.
    wrote_if _ _ (sym c.is_used.ensures ∙ c.if-not-is_used.false) (c.put_write.ensures k)
