-- `capi_sheet::id_of` meets its contract: by whether there is such a record. Assumes nothing.
use mathlib.Core.Path.{sym, ◌∙◌}
use Rattle.capi_sheet.proofs.id_of.Goals as goal

pub returns-in-Id : goal.returns-in-Id
returns-in-Id c = record { value = rw (sym c.id_of.ensures ∙ c.in-Id.is) c.give_one.ensures.value; id_after = rw (sym c.id_of.ensures ∙ c.in-Id.is) c.give_one.ensures.out_after }

pub returns-in-Refused : goal.returns-in-Refused
returns-in-Refused c = let e = sym c.id_of.ensures ∙ c.in-Refused.is in record { value = rw e; id_after = rw e }
