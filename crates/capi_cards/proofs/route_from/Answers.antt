-- `capi_cards::route_from` meets its contract: by what becomes of the request. Assumes nothing.
use mathlib.Core.Path.{sym, ◌∙◌}
use Rattle.capi_cards.proofs.route_from.Goals as goal

pub returns-in-Delivered : goal.returns-in-Delivered
returns-in-Delivered c = record { value = rw (sym c.send.ensures ∙ c.in-Delivered.is) c.give_delivery.ensures.value; answer_after = rw (sym c.send.ensures ∙ c.in-Delivered.is) c.give_delivery.ensures.out_after }

pub returns-in-Host : goal.returns-in-Host
returns-in-Host c = record { value = rw (sym c.send.ensures ∙ c.in-Host.is) c.give_delivery-in-Host.ensures.value; answer_after = rw (sym c.send.ensures ∙ c.in-Host.is) c.give_delivery-in-Host.ensures.out_after }

pub returns-in-Refused : goal.returns-in-Refused
returns-in-Refused c = let e = sym c.send.ensures ∙ c.in-Refused.is in record { value = rw e; answer_after = rw e }
