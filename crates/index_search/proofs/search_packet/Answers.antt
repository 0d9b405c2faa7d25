-- `index_search::search_packet`: by the checks before the search, or what the index has for its key. Assumes nothing.
use mathlib.Core.Path.{subst}
use Rattle.route_answer.specs.Routing.{Goes}
use Rattle.route_answer.proofs.OnwardLaws.{some_functions, answered, looked_for}
use Rattle.index_search.specs.Search.{outcome_over}
use Rattle.index_search.specs.AnswerLaws.{functions_fit, over_index}
use Rattle.index_search.proofs.search_packet.Goals as goal

pub search_aimed-requires : goal.search_aimed-requires
search_aimed-requires c = functions_fit _ _ c.functions_in-n.ensures.0
    (some_functions c.args.p c.functions_in-n.result c.root_in.result _ (subst (Goes c.args.p c.functions_in-n.result c.root_in.result) c.in-Aimed.is c.onward.ensures))

pub returns-in-Aimed : goal.returns-in-Aimed
returns-in-Aimed c = looked_for c.args.p c.functions_in-n.result c.root_in.result _ c.onward.ensures
    (λ aim. outcome_over c.args.index.now c.functions_in-n.result aim)
    (over_index c.args.p _ _ _ c.functions_in-n.ensures.0 c.root_in.ensures) _
    c.in-Aimed.is _ c.search_aimed.ensures

pub returns-in-Answered : goal.returns-in-Answered
returns-in-Answered c = answered c.args.p c.functions_in-n.result c.root_in.result _ c.onward.ensures
    (λ aim. outcome_over c.args.index.now c.functions_in-n.result aim)
    (over_index c.args.p _ _ _ c.functions_in-n.ensures.0 c.root_in.ensures) _ c.in-Answered.is
