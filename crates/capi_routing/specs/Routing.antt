-- What a call that delivers packets answers. Assumes nothing.
use Rattle.std.specs.Prelude.{ℕ, List, ◌∷◌, ◌++◌}
use Rattle.packet_numbers.specs.Numbers.{numbers_of}
use Rattle.route_answer.specs.declared.Routing.{Routing}
use Rattle.route_answer.specs.declared.Routing.TheVariants.{Delivered, Broadcast, Port, Refused}
use Rattle.capi_answers.specs.Answers.{Answer, refuses, gives}

-- Record, bridges, and the packet as it arrives. A broadcast has record 0, how many functions, and after the packet their record numbers,
-- a list for so many; the port has 0 and 0.
abbrev pub on_routing : Routing → (ℕ → List ℕ) → Answer
on_routing (Delivered d) list = gives (d.owner ∷ d.bridges ∷ numbers_of d.packet)
on_routing (Broadcast n p) list = gives (0 ∷ n ∷ (numbers_of p ++ list n))
on_routing (Port p) list = gives (0 ∷ 0 ∷ numbers_of p)
on_routing (Refused n) list = refuses n
