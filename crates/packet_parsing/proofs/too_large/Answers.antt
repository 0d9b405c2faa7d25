-- `packet_parsing::too_large` meets its contract: by what the table says of the kind and form. Assumes nothing.
use mathlib.Core.Path.{sym, ◌∙◌}
use Rattle.packet_parsing.proofs.too_large.Goals as goal

pub returns-in-Carried : goal.returns-in-Carried
returns-in-Carried c = rw (sym c.row_of.ensures ∙ c.in-Carried.is)

pub returns-in-NotCarried : goal.returns-in-NotCarried
returns-in-NotCarried c = rw (sym c.row_of.ensures ∙ c.in-NotCarried.is)

pub returns-in-Unknown : goal.returns-in-Unknown
returns-in-Unknown c = rw (sym c.row_of.ensures ∙ c.in-Unknown.is)
