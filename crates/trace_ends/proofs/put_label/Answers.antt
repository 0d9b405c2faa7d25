use Rattle.text.specs.Text.{ascii}
use Rattle.trace_ends.specs.EndsLaws.{label_put, label_refused}
use Rattle.trace_ends.proofs.put_label.Goals as goal

pub returns-in-Accepted : goal.returns-in-Accepted
returns-in-Accepted c = label_put _ _ _ _ c.read.ensures _ c.in-Accepted.is _ c.ends_over.ensures c.put_kind-next.ensures c.put_ends.ensures

pub returns-in-Refused : goal.returns-in-Refused
unfolding ascii
returns-in-Refused c = rw (← label_refused c.args.host_id c.args.sheet.now c.args.header.now c.read.result c.read.ensures c.in-Refused.n c.in-Refused.is) c.put_named.ensures
