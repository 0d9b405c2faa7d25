-- `index_slots::write_copies` meets its contract. Invariant: storing the copies that are left gives the final bytes. Assumes nothing.
use mathlib.Core.Path.{◌≡◌}
use Prim.Native.Nat.{◌-◌, ◌+◌, ◌*◌}
use lib.Seq.{sets}
use Rattle.index_slots.specs.Cleared.{copies}
use Rattle.index_slots.proofs.write_copies.Given as goal

abbrev pub invariant-loop-i : goal.invariant-loop-i
invariant-loop-i l = sets l.out (l.at + 8 * l.i) (copies (l.k - l.i) l.v) ≡ sets l.initial.out l.at (copies l.k l.v)
