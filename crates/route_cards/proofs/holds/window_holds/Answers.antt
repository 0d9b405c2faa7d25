-- `route_cards::holds::window_holds`: the window's own test. Assumes nothing.
use Rattle.route_cards.specs.HoldsLaws.{window_any}
use Rattle.route_cards.proofs.holds.window_holds.Goals as goal

pub returns : goal.returns
returns c = window_any _ _ _ _ _ c.window_of.ensures c.holds.ensures
