-- `sheet_above::leader_of`: none, one or several, by the first record that leads to the bus and the next after it. Assumes nothing.
use Rattle.std.proofs.Common.{refl, arith}
use Rattle.sheet_above.specs.SearchLaws.{leads_none, leads_one, leads_several}
use Rattle.sheet_above.proofs.leader_of.Goals as goal

pub returns-in_default : goal.returns-in_default
returns-in_default c = leads_none _ c.requires.framed _ refl _ _ c.in_default.ensures (omega arith)

pub returns-in-Some-next_leader : goal.returns-in-Some-next_leader
returns-in-Some-next_leader c =
    leads_several _ c.requires.framed _ refl _ _ c.in-Some.ensures.1 c.in-Some.ensures.0 _ c.in-Some-next_leader.ensures.1
    c.in-Some-next_leader.ensures.0

pub returns-in-None : goal.returns-in-None
returns-in-None c = leads_one _ c.requires.framed _ refl _ _ c.in-Some.ensures.1 c.in-Some.ensures.0 _ c.in-None.ensures (omega arith)
