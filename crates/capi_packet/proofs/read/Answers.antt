-- `capi_packet::read` meets its contract: by what the reader answers. Assumes nothing.
use mathlib.Core.Path.{sym, ◌∙◌}
use Rattle.capi_packet.proofs.read.Goals as goal

pub returns-in-Accepted : goal.returns-in-Accepted
returns-in-Accepted c = record { value = rw (sym c.read.ensures ∙ c.in-Accepted.is) c.give_packet.ensures.value; packet_after = rw (sym c.read.ensures ∙ c.in-Accepted.is) c.give_packet.ensures.out_after }

pub returns-in-Refused : goal.returns-in-Refused
returns-in-Refused c = let e = sym c.read.ensures ∙ c.in-Refused.is in record { value = rw e; packet_after = rw e }
