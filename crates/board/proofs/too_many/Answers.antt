-- `board::too_many` meets its contract: there is a function after the most that may be. Assumes nothing.
use Rattle.std.proofs.Common.{ap, ◌∙◌, length, ltb}
use Rattle.std.proofs.lemmas.Iterator.Consumers.{nth_from_yields_List, YieldsList-from_shown}
use Rattle.records.specs.Limits.{most_functions}
use Rattle.records.specs.Records.{Parts}
use Rattle.records.specs.Iterating.{PartsGive, parts_left}
use Rattle.board.proofs.BoardLaws.{more_by_nth}
use Rattle.board.proofs.too_many.Goals as goal

pub returns : goal.returns
returns c =
    let nth = nth_from_yields_List c.nth.result c.nth.new.self most_functions c.nth.ensures.ran
    (YieldsList-from_shown PartsGive (λ x. x.now) parts_left (λ s t h. ap length h.0) (λ s x t h. ap (λ (r : Parts). r.parts) h) c.parts_from.result) in
    c.is_some.ensures ∙ more_by_nth (λ x. x.now) c.nth.result (parts_left c.parts_from.result) most_functions nth
    ∙ ap (λ (r : Parts). ltb most_functions (length r.parts)) c.parts_from.ensures
