-- `capi_sent::route_sent` meets its contract: 10 first, then by what becomes of the packet. Assumes nothing.
use mathlib.Core.Path.{refl, sym, ◌∙◌}
use Rattle.route_sent.specs.declared.BothEnds.TheVariants.{FromHost, FromFunction, Refused}
use Rattle.capi_sent.specs.CallsLaws.{id_wide, ends_answered}
use Rattle.capi_sent.proofs.route_sent.Goals as goal

pub returns-then-host_id-gt-LAST_ID : goal.returns-then-host_id-gt-LAST_ID
returns-then-host_id-gt-LAST_ID c = let both = id_wide c.args.host_id _ _ c.if-host_id-gt-LAST_ID.true in
    record { value = both.0; answer_after = both.1 }

pub returns-in-FromHost : goal.returns-in-FromHost
returns-in-FromHost c = let both = ends_answered c.args.host_id _ _ _ c.if-host_id-gt-LAST_ID.false (FromHost c.in-FromHost.r) (sym c.in-FromHost.is ∙ c.route_sent.ensures) _ _ (c.give_routing.ensures.value, c.give_routing.ensures.out_after) in
    record { value = both.0; answer_after = both.1 }

pub returns-in-FromFunction : goal.returns-in-FromFunction
returns-in-FromFunction c = let both = ends_answered c.args.host_id _ _ _ c.if-host_id-gt-LAST_ID.false (FromFunction c.in-FromFunction.number c.in-FromFunction.f) (sym c.in-FromFunction.is ∙ c.route_sent.ensures) _ _ (c.give_fate.ensures.value, c.give_fate.ensures.out_after) in
    record { value = both.0; answer_after = both.1 }

pub returns-in-Refused : goal.returns-in-Refused
returns-in-Refused c = let both = ends_answered c.args.host_id _ _ _ c.if-host_id-gt-LAST_ID.false (Refused c.in-Refused.n) (sym c.in-Refused.is ∙ c.route_sent.ensures) _ _ (refl, refl) in
    record { value = both.0; answer_after = both.1 }
