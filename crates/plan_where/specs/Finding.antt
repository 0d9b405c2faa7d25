-- Who does not fit: the planner's number, for a board's own checks the function that fails, for 31 to 33 the root bus item that runs out of
-- its pool with the item before which most room is lost, and what a lawful board needs. Assumes nothing.
use Rattle.std.specs.Prelude.{cond, List, ℕ, eqb}
use Rattle.plan_rule.specs.Pools.{Pool, low, high, io}
use Rattle.plan_rule.specs.Records.{Host, Function}
use Rattle.plan_rule.specs.Refusals.{refusal_of}
use Rattle.board.specs.Board.{board_number, host_of, functions_of}
use Rattle.board.specs.ToPlacing.{to_host, to_placing}
use Rattle.finding.specs.declared.Party.{Party}
use Rattle.finding.specs.declared.Parties.{Parties}
use Rattle.finding.specs.Places.{nobody, nobodies}
use Rattle.board_where.specs.Where.{failing_of}
use Rattle.plan_where.specs.declared.PlanFinding.{PlanFinding}
use Rattle.plan_items.specs.Items.{first_out, most_lost}
use Rattle.plan_needs.specs.Needs.{needs_of, no_needs}

-- of the pool that ran out
unfoldable pub in_pool : Host → List Function → Pool → Parties
in_pool h fs q = record { party = first_out h fs q; other = (most_lost h fs q).party }

-- by the number; of 30 and 0 nobody
unfoldable pub parties_under : ℕ → Host → List Function → Parties
parties_under n h fs =
    cond (eqb n 31) (in_pool h fs low) (cond (eqb n 32) (in_pool h fs high) (cond (eqb n 33) (in_pool h fs io) nobodies))

unfoldable pub lawful_finding : Host → List Function → PlanFinding
lawful_finding h fs =
    let n = refusal_of h fs in
    let parties = parties_under n h fs in
    record { number = n; party = parties.party; other = parties.other; needs = needs_of h fs }

unfoldable pub unlawful_finding : ℕ → Party → PlanFinding
unlawful_finding n party = record { number = n; party = party; other = nobody; needs = no_needs }

unfoldable pub plan_finding_of : List ℕ → PlanFinding
plan_finding_of b =
    let lawful = lawful_finding (to_host (host_of b)) (to_placing (functions_of b)) in
    let unlawful = unlawful_finding (board_number b) (failing_of b) in
    cond (eqb (board_number b) 0) lawful unlawful
