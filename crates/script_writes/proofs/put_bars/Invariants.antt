-- `script_writes::put_bars` meets its contract: the slots before this one are written. Assumes nothing.
use Prim.Native.Nat.{ℕ}
use Rattle.script_writes.specs.Wrote.{Wrote}
use Rattle.script_writes.specs.Writes.{bar_writes}
use Rattle.script_writes.proofs.put_bars.Given as goal

abbrev pub invariant-loop-j : goal.invariant-loop-j
invariant-loop-j l = (k : ℕ) → Wrote l.boot l.initial.room l.initial.next (bar_writes k l.part l.j 0) l.room l.next
