-- Document 02, E1: a broadcast's list over a sheet has every function once, in record order. Assumes nothing.
use Rattle.std.specs.Prelude.{ℕ, List, map}
use Rattle.walk.specs.Registers.{Node}
use Rattle.sheet.specs.Spaces.{nodes_of}
use Rattle.route_answer.specs.declared.Routing.{Routing}
use Rattle.route_answer.specs.Listed.{list_over}

-- the number of every record
abbrev pub list_of : List ℕ → List ℕ
list_of s = map (λ (n : Node). n.number) (nodes_of s)

-- what the slice holds after the answer
abbrev pub list_after : Routing → List ℕ → List ℕ → List ℕ
list_after r s list = list_over (λ functions. list_of s) r list
