-- `capi_sent::give_ends` meets its contract: 24 numbers where the slice has room for them, and nothing else. Assumes nothing.
use mathlib.Core.List.{◌∷◌}
use native.Mathlib.Omega.{arith}
use lib.ListN.{set, length-set}
use Rattle.packet_numbers.specs.Numbers.{numbers_of}
use Rattle.packet_numbers.specs.NumbersLaws.{length_numbers_of}
use Rattle.capi_answers.proofs.AnswersLaws.{answered_short, answered_filled}
use Rattle.capi_sent.proofs.give_ends.Goals as goal

pub returns-then-out : goal.returns-then-out
returns-then-out c = let both = answered_short (c.args.from ∷ c.args.goal ∷ c.args.owner ∷ c.args.bridges ∷ numbers_of c.args.p) c.args.out.now (omega (arith, length_numbers_of c.args.p)) in
    record { value = both.0; out_after = both.1 }

pub bounds-out-1 : goal.bounds-out-1
bounds-out-1 c = simp length-set (omega arith)

pub bounds-out-2 : goal.bounds-out-2
bounds-out-2 c = simp length-set (omega arith)

pub bounds-out-3 : goal.bounds-out-3
bounds-out-3 c = simp length-set (omega arith)

pub shape_of-out : goal.shape_of-out
shape_of-out c = omega (arith, c.put_packet.auto.out, length-set (set (set (set c.args.out.now 0 c.args.from) 1 c.args.goal) 2 c.args.owner) 3 c.args.bridges, length-set (set (set c.args.out.now 0 c.args.from) 1 c.args.goal) 2 c.args.owner, length-set (set c.args.out.now 0 c.args.from) 1 c.args.goal, length-set c.args.out.now 0 c.args.from)

pub returns : goal.returns
returns c = let both = answered_filled (c.args.from ∷ c.args.goal ∷ c.args.owner ∷ c.args.bridges ∷ numbers_of c.args.p) c.args.out.now (omega (arith, length_numbers_of c.args.p)) c.put_packet.ensures in
    record { value = both.0; out_after = both.1 }
