-- `capi_ledger::count` meets its contract: a slice too short, or the ledger at its front. Assumes nothing.
use lib.Seq.{length-take-le}
use mathlib.Core.Path.{sym}
use native.Mathlib.Omega.{arith}
use Rattle.capi_ledger.specs.CallsLaws.{count_short, count_whole}
use Rattle.capi_ledger.proofs.count.Goals as goal

pub returns-then-ledger-lt-PLACES : goal.returns-then-ledger-lt-PLACES
returns-then-ledger-lt-PLACES c = let both = count_short c.args.ledger.now c.args.out.now c.if-ledger-lt-PLACES.true in
    record { value = both.0; out_after = both.1 }

pub slice_bounds-count-end : goal.slice_bounds-count-end
slice_bounds-count-end c = sym (length-take-le 256 c.args.ledger.now (omega arith))

pub returns : goal.returns
returns c = let both = count_whole c.args.ledger.now c.args.out.now c.if-ledger-lt-PLACES.false _ _ _ c.count-n.ensures (c.give_one.ensures.value, c.give_one.ensures.out_after) in
    record { value = both.0; out_after = both.1 }
