-- `capi_where::plan_where` meets its contract: what was found, and eight stores or eleven, where the slice has room. Assumes nothing.
use Rattle.capi_where.specs.CallsLaws.{plan_short, plan_eight, plan_whole}
use Rattle.capi_where.proofs.plan_where.Goals as goal

pub returns-then-room-lt-WHO_OF_BOARD : goal.returns-then-room-lt-WHO_OF_BOARD
returns-then-room-lt-WHO_OF_BOARD c = let both = plan_short _ _ c.plan_where-found.ensures _ c.if-room-lt-WHO_OF_BOARD.true _ c.short_number.ensures in
    record { value = both.0; who_after = both.1 }

pub returns-then-room-lt-WITH_ALIGNMENTS : goal.returns-then-room-lt-WITH_ALIGNMENTS
returns-then-room-lt-WITH_ALIGNMENTS c = let both = plan_eight _ _ c.plan_where-found.ensures c.args.who.now c.if-room-lt-WHO_OF_BOARD.false c.if-room-lt-WITH_ALIGNMENTS.true _ c.put_plan.ensures in
    record { value = both.0; who_after = both.1 }

pub returns : goal.returns
returns c = let both = plan_whole _ _ c.plan_where-found.ensures c.args.who.now c.if-room-lt-WITH_ALIGNMENTS.false _ _ c.put_plan.ensures
    c.put_aligns.ensures in
    record { value = both.0; who_after = both.1 }
