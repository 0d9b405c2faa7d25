-- `index_search::search_listed`: the search's answer with its list. Assumes nothing.
use mathlib.Core.Path.{sym}
use Rattle.index_search.proofs.search_listed.Goals as goal

pub returns : goal.returns
returns c = record { value = rw (sym c.search.ensures) c.listed.ensures.value; list_after = c.listed.ensures.list_after }
