-- `sheet_bytes::put_four` meets its contract. Four stores are `sets` of the four bytes, by computation. Assumes nothing.
use mathlib.Core.Path.{◌≡◌}
use Prim.Native.Nat.{suc, ◌+◌}
use native.Mathlib.Numerals.{add-one}
use native.Mathlib.Omega.{arith}
use lib.ListN.{length-set}
use Rattle.sheet_bytes.proofs.put_four.Goals as goal

pub bounds-out-at-2 : goal.bounds-out-at-2
bounds-out-at-2 c = simp length-set (omega arith)

pub bounds-out-at-3 : goal.bounds-out-at-3
bounds-out-at-3 c = simp length-set (omega arith)

pub bounds-out-at-4 : goal.bounds-out-at-4
bounds-out-at-4 c = simp length-set (omega arith)

pub returns : goal.returns
returns c = let second : c.args.at + 2 ≡ suc (suc c.args.at) = omega arith in
    let third : c.args.at + 3 ≡ suc (suc (suc c.args.at)) = omega arith in
    rw (add-one c.args.at, second, third)
