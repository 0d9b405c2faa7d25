-- `route_sent::route_sent_listed`: the answer with its list, of the host's broadcast only. Assumes nothing.
use Rattle.route_sent.proofs.StepLaws.{listed_host, listed_function, listed_refused}
use Rattle.route_sent.proofs.route_sent_listed.Goals as goal

pub returns-in-FromHost : goal.returns-in-FromHost
returns-in-FromHost c = let both = listed_host _ _ c.route_sent.ensures _ _ c.in-FromHost.is _ _ (c.listed.ensures.value, c.listed.ensures.list_after) in
    record { value = both.0; list_after = both.1 }

pub returns-in-FromFunction : goal.returns-in-FromFunction
returns-in-FromFunction c = let both = listed_function _ _ c.route_sent.ensures _ _ _ c.in-FromFunction.is in
    record { value = both.0; list_after = both.1 }

pub returns-in-Refused : goal.returns-in-Refused
returns-in-Refused c = let both = listed_refused _ _ c.route_sent.ensures _ _ c.in-Refused.is in
    record { value = both.0; list_after = both.1 }
