-- `packet_parsing::routing_at` meets its contract: each arm is its place in the list of `specs/`, computed, and past them none stands.
-- Assumes nothing.
use lib.ListN.{get_or-eq_default}
use mathlib.Core.Path.{sym}
use Rattle.pairs.specs.declared.MessageRouting.TheVariants.{ToRoot}
use Rattle.packet_parsing.specs.ParsingLaws.{le_of_none}
use Rattle.packet_parsing.specs.Parsing.{routings, routing_at}
use Rattle.packet_parsing.proofs.routing_at.Goals as goal

pub returns-in-0 : goal.returns-in-0
unfolding routing_at routings
returns-in-0 c = rw c.in-0.is

pub returns-in-1 : goal.returns-in-1
unfolding routing_at routings
returns-in-1 c = rw c.in-1.is

pub returns-in-2 : goal.returns-in-2
unfolding routing_at routings
returns-in-2 c = rw c.in-2.is

pub returns-in-3 : goal.returns-in-3
unfolding routing_at routings
returns-in-3 c = rw c.in-3.is

pub returns-in-4 : goal.returns-in-4
unfolding routing_at routings
returns-in-4 c = rw c.in-4.is

pub returns-in-5 : goal.returns-in-5
unfolding routing_at routings
returns-in-5 c = rw c.in-5.is

pub returns-in_default : goal.returns-in_default
unfolding routing_at routings
returns-in_default c = sym (get_or-eq_default routings ToRoot (le_of_none 6 c.args.n c.in_default.in_default-own.rest))
