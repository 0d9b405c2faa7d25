-- `capi_find::find_any` meets its contract: by what the search answers. Assumes nothing.
use mathlib.Core.Path.{sym}
use Rattle.capi_find.proofs.find_any.Goals as goal

pub returns : goal.returns
returns c = record { value = rw (sym c.search.ensures) c.give_routing.ensures.value; answer_after = rw (sym c.search.ensures) c.give_routing.ensures.out_after }
