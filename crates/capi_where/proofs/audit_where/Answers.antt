-- `capi_where::audit_where` meets its contract: what was found, and four stores where the slice has room. Assumes nothing.
use Rattle.capi_where.specs.CallsLaws.{told_short, told_whole}
use Rattle.capi_where.proofs.audit_where.Goals as goal

pub returns-then-who-lt-WHO : goal.returns-then-who-lt-WHO
returns-then-who-lt-WHO c = let both = told_short _ _ c.audit_where-found.ensures _ c.if-who-lt-WHO.true _ c.short_number.ensures in
    record { value = both.0; who_after = both.1 }

pub returns : goal.returns
returns c = let both = told_whole _ _ c.audit_where-found.ensures c.args.who.now c.if-who-lt-WHO.false _ _ c.put_party.ensures
    c.put_party-2.ensures in
    record { value = both.0; who_after = both.1 }
