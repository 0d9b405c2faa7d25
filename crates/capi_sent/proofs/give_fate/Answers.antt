-- `capi_sent::give_fate` meets its contract: by what becomes of the packet. Assumes nothing.
use Rattle.capi_sent.proofs.give_fate.Goals as goal

pub returns-in-Delivered : goal.returns-in-Delivered
returns-in-Delivered c = record { value = rw c.in-Delivered.is c.give_ends.ensures.value; out_after = rw c.in-Delivered.is c.give_ends.ensures.out_after }

pub returns-in-Host : goal.returns-in-Host
returns-in-Host c = record { value = rw c.in-Host.is c.give_ends-in-Host.ensures.value; out_after = rw c.in-Host.is c.give_ends-in-Host.ensures.out_after }

pub returns-in-Port : goal.returns-in-Port
returns-in-Port c = record { value = rw c.in-Port.is c.give_ends-in-Port.ensures.value; out_after = rw c.in-Port.is c.give_ends-in-Port.ensures.out_after }
