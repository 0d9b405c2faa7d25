-- `capi_sent::give_broadcast` meets its contract: 24 numbers and the list where the slice has room for them. Assumes nothing.
use mathlib.Core.Path.{◌≡◌}
use mathlib.Core.List.{List, ◌∷◌, ◌++◌}
use Prim.Native.Nat.{ℕ, ◌+◌}
use native.Mathlib.Omega.{arith}
use lib.ListN.{length, set, length-set, length-append}
use Rattle.endian.specs.SetsLaws.{sets_append}
use Rattle.packet.specs.declared.Packet.{Packet}
use Rattle.packet_numbers.specs.Numbers.{numbers_of}
use Rattle.packet_numbers.specs.NumbersLaws.{length_numbers_of}
use Rattle.route_list.specs.Counted.{counted}
use Rattle.route_list.specs.CountedLaws.{length_counted}
use Rattle.capi_answers.proofs.AnswersLaws.{answered_short, answered_filled}
use Rattle.capi_sent.proofs.give_broadcast.Goals as goal

abbrev front : ℕ → Packet → List ℕ
front functions p = 0 ∷ 3 ∷ 0 ∷ functions ∷ numbers_of p

abbrev whole : ℕ → Packet → List ℕ
whole functions p = front functions p ++ counted 1 functions

length_front : (functions : ℕ) (p : Packet) → length (front functions p) ≡ 24
length_front functions p = omega (arith, length_numbers_of p)

length_whole : (functions : ℕ) (p : Packet) → length (whole functions p) ≡ 24 + functions
length_whole functions p = omega (arith, length-append (numbers_of p) (counted 1 functions), length_numbers_of p, length_counted 1 functions)

pub returns-then-out-front : goal.returns-then-out-front
returns-then-out-front c = let both = answered_short (whole c.args.functions c.args.p) c.args.out.now (omega (arith, length_whole c.args.functions c.args.p)) in
    record { value = both.0; out_after = both.1 }

pub returns-then-out-front-2 : goal.returns-then-out-front-2
returns-then-out-front-2 c = let both = answered_short (whole c.args.functions c.args.p) c.args.out.now (omega (arith, length_whole c.args.functions c.args.p)) in
    record { value = both.0; out_after = both.1 }

pub bounds-out-1 : goal.bounds-out-1
bounds-out-1 c = simp length-set (omega arith)

pub bounds-out-2 : goal.bounds-out-2
bounds-out-2 c = simp length-set (omega arith)

pub bounds-out-3 : goal.bounds-out-3
bounds-out-3 c = simp length-set (omega arith)

pub put_list-requires : goal.put_list-requires
put_list-requires c = omega (arith, c.put_packet.auto.out, length-set (set (set (set c.args.out.now 0 0) 1 3) 2 0) 3 c.args.functions, length-set (set (set c.args.out.now 0 0) 1 3) 2 0, length-set (set c.args.out.now 0 0) 1 3, length-set c.args.out.now 0 0)

pub shape_of-out : goal.shape_of-out
shape_of-out c = omega (arith, c.put_list.auto.list, c.put_packet.auto.out, length-set (set (set (set c.args.out.now 0 0) 1 3) 2 0) 3 c.args.functions, length-set (set (set c.args.out.now 0 0) 1 3) 2 0, length-set (set c.args.out.now 0 0) 1 3, length-set c.args.out.now 0 0)

pub returns : goal.returns
returns c = let both = answered_filled (whole c.args.functions c.args.p) c.args.out.now (omega (arith, length_whole c.args.functions c.args.p)) (sets_append c.args.out.now 0 24 (front c.args.functions c.args.p) (counted 1 c.args.functions) (length_front c.args.functions c.args.p) c.put_packet.ensures c.put_list.ensures) in
    record { value = both.0; out_after = both.1 }
