-- `packet_parsing::kind_at` meets its contract: each arm is its place in the list of `specs/`, computed. Assumes nothing.
use mathlib.Core.Path.{◌≡◌}
use native.Mathlib.Omega.{arith}
use Rattle.packet_parsing.specs.ParsingLaws.{le_of_none}
use Rattle.packet_parsing.specs.Parsing.{kinds, kind_at}
use Rattle.packet_parsing.proofs.kind_at.Goals as goal

pub returns-in-0 : goal.returns-in-0
unfolding kind_at kinds
returns-in-0 c = rw c.in-0.is

pub returns-in-1 : goal.returns-in-1
unfolding kind_at kinds
returns-in-1 c = rw c.in-1.is

pub returns-in-2 : goal.returns-in-2
unfolding kind_at kinds
returns-in-2 c = rw c.in-2.is

pub returns-in-3 : goal.returns-in-3
unfolding kind_at kinds
returns-in-3 c = rw c.in-3.is

pub returns-in-4 : goal.returns-in-4
unfolding kind_at kinds
returns-in-4 c = rw c.in-4.is

pub returns-in-5 : goal.returns-in-5
unfolding kind_at kinds
returns-in-5 c = rw c.in-5.is

pub returns-in-6 : goal.returns-in-6
unfolding kind_at kinds
returns-in-6 c = rw c.in-6.is

pub returns-in-7 : goal.returns-in-7
unfolding kind_at kinds
returns-in-7 c = rw c.in-7.is

pub returns-in-8 : goal.returns-in-8
unfolding kind_at kinds
returns-in-8 c = rw c.in-8.is

pub returns-in-9 : goal.returns-in-9
unfolding kind_at kinds
returns-in-9 c = rw c.in-9.is

pub returns-in-10 : goal.returns-in-10
unfolding kind_at kinds
returns-in-10 c = rw c.in-10.is

pub returns-in-11 : goal.returns-in-11
unfolding kind_at kinds
returns-in-11 c = rw c.in-11.is

pub returns-in-12 : goal.returns-in-12
unfolding kind_at kinds
returns-in-12 c = rw c.in-12.is

pub returns-in-13 : goal.returns-in-13
unfolding kind_at kinds
returns-in-13 c = rw (c.in-13.is, c.routing_at.ensures)

pub returns-in_default : goal.returns-in_default
unfolding kind_at kinds
returns-in_default c = let e : c.args.n ≡ 14 = omega (arith, le_of_none 14 c.args.n c.in_default.in_default-own.rest, c.requires) in
    rw (e, c.routing_at-in_default.ensures)
