-- `claims::address::slot_from`: the slot by its read-back, and by the next one where it is a pair. Assumes nothing.
use mathlib.Core.Path.{◌≡◌, refl}
use Prim.Native.Nat.{min}
use native.Mathlib.Omega.{arith}
use lib.ListN.{length}
use borrow.Author.Rules.{rules}
use Rattle.bar.specs.BarLaws.{slot_of_none, slot_of_pair, slot_of_single}
use Rattle.claims.proofs.address.slot_from.Goals as goal

pub returns-then-r-eq0 : goal.returns-then-r-eq0
returns-then-r-eq0 c = let six : length c.args.set ≡ 6 = search rules in
    let all : c.args.n ≡ min c.args.n 6 = omega (arith, c.requires.1) in
    slot_of_none c.args.set c.args.n _ c.args.i six all c.requires.0 c.if-r-eq0.true

pub bounds-set-i-then-is_paired : goal.bounds-set-i-then-is_paired
bounds-set-i-then-is_paired c = omega (arith, c.is_paired.ensures.1 c.if-is_paired.true, c.requires.1)

pub returns-then-is_paired : goal.returns-then-is_paired
returns-then-is_paired c = let six : length c.args.set ≡ 6 = search rules in
    let all : c.args.n ≡ min c.args.n 6 = omega (arith, c.requires.1) in
    slot_of_pair c.args.set c.args.n _ c.args.i _ _ _ _ six all c.requires.0 refl refl c.is_paired.ensures.0 (c.is_paired.ensures.1 c.if-is_paired.true) c.if-is_paired.true c.wide_slot.ensures

pub returns : goal.returns
returns c = let six : length c.args.set ≡ 6 = search rules in
    let all : c.args.n ≡ min c.args.n 6 = omega (arith, c.requires.1) in
    slot_of_single c.args.set c.args.n _ c.args.i _ _ _ six all c.requires.0 refl c.is_paired.ensures.0 c.if-is_paired.false
    c.narrow_slot.ensures
