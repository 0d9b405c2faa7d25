use Rattle.text.specs.TextLaws.{put_append}
use Rattle.text.specs.Text.{ascii}
use Rattle.trace_ends.proofs.put_ends.Goals as goal

pub returns-in-FromHost : goal.returns-in-FromHost
unfolding ascii
returns-in-FromHost c = rw c.in-FromHost.is (put_append c.put_text-next.ensures c.put_routed.ensures)

pub returns-in-FromFunction : goal.returns-in-FromFunction
unfolding ascii
returns-in-FromFunction c = rw c.in-FromFunction.is (put_append c.put_named-next.ensures c.put_fate.ensures)

pub returns-in-Refused : goal.returns-in-Refused
unfolding ascii
returns-in-Refused c = rw c.in-Refused.is c.put_named.ensures
