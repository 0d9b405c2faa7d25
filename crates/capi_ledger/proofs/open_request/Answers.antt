-- `capi_ledger::open_request` meets its contract: a slice too short, or the ledger at its front. Assumes nothing.
use lib.Seq.{length-take-le}
use mathlib.Core.Path.{sym}
use native.Mathlib.Omega.{arith}
use Rattle.capi_ledger.specs.CallsLaws.{open_short, open_whole}
use Rattle.capi_ledger.proofs.open_request.Goals as goal

pub returns-then-ledger-lt-PLACES : goal.returns-then-ledger-lt-PLACES
returns-then-ledger-lt-PLACES c = let both = open_short c.args.header.now c.args.ledger.now c.if-ledger-lt-PLACES.true in
    record { value = both.0; ledger_after = both.1 }

pub slice_bounds-open_in-end-2 : goal.slice_bounds-open_in-end-2
slice_bounds-open_in-end-2 c = sym (length-take-le 256 c.args.ledger.now (omega arith))

pub returns : goal.returns
returns c = let both = open_whole c.args.header.now c.args.ledger.now c.if-ledger-lt-PLACES.false _ _ c.open_in.ensures in
    record { value = both.0; ledger_after = both.1 }
