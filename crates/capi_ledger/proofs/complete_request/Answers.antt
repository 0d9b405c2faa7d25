-- `capi_ledger::complete_request` meets its contract: a slice too short, or the ledger at its front. Assumes nothing.
use lib.Seq.{length-take-le}
use mathlib.Core.Path.{sym}
use native.Mathlib.Omega.{arith}
use Rattle.capi_ledger.specs.CallsLaws.{complete_short, complete_whole}
use Rattle.capi_ledger.proofs.complete_request.Goals as goal

pub returns-then-ledger-lt-PLACES : goal.returns-then-ledger-lt-PLACES
returns-then-ledger-lt-PLACES c = let both = complete_short c.args.header.now c.args.ledger.now c.if-ledger-lt-PLACES.true in
    record { value = both.0; ledger_after = both.1 }

pub slice_bounds-complete_in-end-2 : goal.slice_bounds-complete_in-end-2
slice_bounds-complete_in-end-2 c = sym (length-take-le 256 c.args.ledger.now (omega arith))

pub returns : goal.returns
returns c = let both = complete_whole c.args.header.now c.args.ledger.now c.if-ledger-lt-PLACES.false _ _ c.complete_in.ensures in
    record { value = both.0; ledger_after = both.1 }
