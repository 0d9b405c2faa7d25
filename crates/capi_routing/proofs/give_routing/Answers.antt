-- `capi_routing::give_routing` meets its contract: one return for each routing. Assumes nothing.
use Rattle.capi_routing.proofs.give_routing.Goals as goal

pub returns-in-Delivered : goal.returns-in-Delivered
returns-in-Delivered c = record { value = rw c.in-Delivered.is c.give_delivery.ensures.value; out_after = rw c.in-Delivered.is c.give_delivery.ensures.out_after }

pub returns-in-Broadcast : goal.returns-in-Broadcast
returns-in-Broadcast c = record { value = rw c.in-Broadcast.is c.give_broadcast.ensures.value; out_after = rw c.in-Broadcast.is c.give_broadcast.ensures.out_after }

pub returns-in-Port : goal.returns-in-Port
returns-in-Port c = record { value = rw c.in-Port.is c.give_delivery-in-Port.ensures.value; out_after = rw c.in-Port.is c.give_delivery-in-Port.ensures.out_after }

pub returns-in-Refused : goal.returns-in-Refused
returns-in-Refused c = record { value = rw c.in-Refused.is; out_after = rw c.in-Refused.is }
