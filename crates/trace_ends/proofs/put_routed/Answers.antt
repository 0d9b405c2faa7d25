use Rattle.text.specs.Text.{ascii}
use Rattle.trace_ends.proofs.put_routed.Goals as goal

pub returns-in-Delivered : goal.returns-in-Delivered
unfolding ascii
returns-in-Delivered c = rw c.in-Delivered.is c.put_named.ensures

pub returns-in-Broadcast : goal.returns-in-Broadcast
unfolding ascii
returns-in-Broadcast c = rw c.in-Broadcast.is c.put_text.ensures

pub returns-in-Port : goal.returns-in-Port
unfolding ascii
returns-in-Port c = rw c.in-Port.is c.put_text-in-Port.ensures

pub returns-in-Refused : goal.returns-in-Refused
unfolding ascii
returns-in-Refused c = rw c.in-Refused.is c.put_named-in-Refused.ensures
