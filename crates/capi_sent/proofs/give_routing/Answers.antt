-- `capi_sent::give_routing` meets its contract: by what the router answers. Assumes nothing.
use Rattle.capi_sent.proofs.give_routing.Goals as goal

pub returns-in-Delivered : goal.returns-in-Delivered
returns-in-Delivered c = record { value = rw c.in-Delivered.is c.give_ends.ensures.value; out_after = rw c.in-Delivered.is c.give_ends.ensures.out_after }

pub returns-in-Broadcast : goal.returns-in-Broadcast
returns-in-Broadcast c = record { value = rw c.in-Broadcast.is c.give_broadcast.ensures.value; out_after = rw c.in-Broadcast.is c.give_broadcast.ensures.out_after }

pub returns-in-Port : goal.returns-in-Port
returns-in-Port c = record { value = rw c.in-Port.is c.give_ends-in-Port.ensures.value; out_after = rw c.in-Port.is c.give_ends-in-Port.ensures.out_after }
