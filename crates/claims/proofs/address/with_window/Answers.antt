-- `claims::address::with_window`: a window that holds the address is one claim. Assumes nothing.
use Rattle.claims.specs.HitsLaws.{window_hit, window_miss}
use Rattle.claims.proofs.address.with_window.Goals as goal

pub returns-then-holds : goal.returns-then-holds
returns-then-holds c = window_hit _ _ _ _ _ _ _ c.window_of.ensures c.holds.ensures _ _ c.with_claim.ensures
    c.secondary_of.ensures c.if-holds.true

pub returns : goal.returns
returns c = window_miss _ _ c.args.number _ _ _ _ c.window_of.ensures c.holds.ensures
    c.if-holds.false
