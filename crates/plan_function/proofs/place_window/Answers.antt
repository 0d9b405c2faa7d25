-- `place_window` meets its contract: closed where there is nothing inside, else from its start to its stop. Assumes nothing.
use Rattle.plan_function.proofs.KeptLaws.{window_none, window_some}
use Rattle.plan_function.proofs.place_window.Goals as goal

pub returns-then-inner-eq0 : goal.returns-then-inner-eq0
returns-then-inner-eq0 c = cc (window_none c.args.q c.args.inner c.args.end c.args.below c.if-inner-eq0.true)

pub returns : goal.returns
returns c = cc (window_some c.args.q c.args.inner c.args.end c.args.below c.window_align.result c.window_size.result c.start_at-start.result c.end_of-stop.result c.if-inner-eq0.false
    c.window_align.ensures c.window_size.ensures c.start_at-start.ensures.0 c.end_of-stop.ensures)
