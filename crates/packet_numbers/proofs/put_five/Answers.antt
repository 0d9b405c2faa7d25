-- `packet_numbers::put_five` meets its contract: five stores are `sets` of the five numbers, by computation. Assumes nothing.
use Prim.Native.Nat.{suc, ◌+◌}
use lib.ListN.{length-set}
use mathlib.Core.Path.{◌≡◌}
use native.Mathlib.Numerals.{add-one}
use native.Mathlib.Omega.{arith}
use Rattle.packet_numbers.proofs.put_five.Goals as goal

pub bounds-out-at-2 : goal.bounds-out-at-2
bounds-out-at-2 c = simp length-set (omega arith)

pub bounds-out-at-3 : goal.bounds-out-at-3
bounds-out-at-3 c = simp length-set (omega arith)

pub bounds-out-at-4 : goal.bounds-out-at-4
bounds-out-at-4 c = simp length-set (omega arith)

pub bounds-out-at-5 : goal.bounds-out-at-5
bounds-out-at-5 c = simp length-set (omega arith)

pub returns : goal.returns
returns c = let second : c.args.at + 2 ≡ suc (suc c.args.at) = omega arith in
    let third : c.args.at + 3 ≡ suc (suc (suc c.args.at)) = omega arith in
    let fourth : c.args.at + 4 ≡ suc (suc (suc (suc c.args.at))) = omega arith in
    rw (add-one c.args.at, second, third, fourth)
