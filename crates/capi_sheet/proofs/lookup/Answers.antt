-- `capi_sheet::lookup` meets its contract: by what the lookup finds. Assumes nothing.
use mathlib.Core.Path.{sym, ◌∙◌}
use Rattle.capi_sheet.proofs.lookup.Goals as goal

pub returns-in-Registers : goal.returns-in-Registers
returns-in-Registers c = record { value = rw (sym c.find.ensures ∙ c.in-Registers.is) c.give_one.ensures.value; offset_after = rw (sym c.find.ensures ∙ c.in-Registers.is) c.give_one.ensures.out_after }

pub returns-in-Refused : goal.returns-in-Refused
returns-in-Refused c = let e = sym c.find.ensures ∙ c.in-Refused.is in record { value = rw e; offset_after = rw e }
