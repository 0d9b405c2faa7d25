-- `capi_answers::give_packet` meets its contract: twenty numbers where the slice has room for them, and nothing else. Assumes nothing.
use native.Mathlib.Omega.{arith}
use Rattle.capi_answers.proofs.AnswersLaws.{answered_short, answered_filled}
use Rattle.packet_numbers.specs.Numbers.{numbers_of}
use Rattle.packet_numbers.specs.NumbersLaws.{length_numbers_of}
use Rattle.capi_answers.proofs.give_packet.Goals as goal

pub returns-then-out-lt-SIZE : goal.returns-then-out-lt-SIZE
returns-then-out-lt-SIZE c = let both = answered_short (numbers_of c.args.p) c.args.out.now (omega (arith, length_numbers_of c.args.p)) in
    record { value = both.0; out_after = both.1 }

pub returns : goal.returns
returns c = let both = answered_filled (numbers_of c.args.p) c.args.out.now (omega (arith, length_numbers_of c.args.p)) c.put_packet.ensures in
    record { value = both.0; out_after = both.1 }
