-- Document 03, "From C": what the calls on both ends of a packet answer. Assumes nothing.
use Rattle.std.specs.Prelude.{ℕ, cond, List, [], ◌∷◌, ◌++◌, ltb}
use Rattle.packet_numbers.specs.Numbers.{numbers_of}
use Rattle.route_answer.specs.declared.Routing.{Routing}
use Rattle.route_answer.specs.declared.Routing.TheVariants.{Delivered as Routed, Broadcast, Port as RoutedPort, Refused as NotRouted}
use Rattle.route.specs.Listed.{list_of}
use Rattle.route_sender.specs.declared.Sender.{Sender}
use Rattle.route_sender.specs.declared.Sender.TheVariants.{Host as HostSends, Function}
use Rattle.route_sender.specs.declared.SentBy.{SentBy}
use Rattle.route_sender.specs.declared.SentBy.TheVariants.{Told, Refused as NotTold}
use Rattle.route_sender.specs.Sender.{sent_by_of}
use Rattle.route_sent.specs.declared.Fate.{Fate}
use Rattle.route_sent.specs.declared.Fate.TheVariants.{Delivered, Host, Port, Refused}
use Rattle.route_sent.specs.declared.BothEnds.{BothEnds}
use Rattle.route_sent.specs.declared.BothEnds.TheVariants.{FromHost, FromFunction, Refused as NotSent}
use Rattle.route_sent.specs.BothEnds.{both_ends_of}
use Rattle.capi_answers.specs.Answers.{Answer, refuses, gives}

-- "refused by a host ID above FFFFh (10, first)"
abbrev pub below_host : ℕ → Answer → Answer
below_host host_id a = cond (ltb 65535 host_id) (refuses 10) a

-- ## The sender: "0 for the host, else the record"

abbrev pub sender_number : Sender → ℕ
sender_number HostSends = 0
sender_number (Function number) = number

abbrev pub on_sent_by : SentBy → Answer
on_sent_by (Told x) = gives (sender_number x ∷ [])
on_sent_by (NotTold n) = refuses n

abbrev pub sender_answer : ℕ → List ℕ → List ℕ → Answer
sender_answer host_id header sheet = below_host host_id (on_sent_by (sent_by_of host_id header sheet))

-- ## Both ends: "the sender as above, where it goes (0 one function, 1 the host, 2 the port, 3 every function), the record (0 where it is
-- none), bridges crossed both ways (of a broadcast how many functions), the packet as it arrives in twenty numbers, and of a broadcast the
-- list"

-- from the host, with a list for so many functions
abbrev pub on_routing : Routing → (ℕ → List ℕ) → Answer
on_routing (Routed d) list = gives (0 ∷ 0 ∷ d.owner ∷ d.bridges ∷ numbers_of d.packet)
on_routing (Broadcast n p) list = gives (0 ∷ 3 ∷ 0 ∷ n ∷ (numbers_of p ++ list n))
on_routing (RoutedPort p) list = gives (0 ∷ 2 ∷ 0 ∷ 0 ∷ numbers_of p)
on_routing (NotRouted n) list = refuses n

-- from the function with this record number
abbrev pub on_fate : ℕ → Fate → Answer
on_fate number (Delivered d) = gives (number ∷ 0 ∷ d.owner ∷ d.bridges ∷ numbers_of d.packet)
on_fate number (Host bridges p) = gives (number ∷ 1 ∷ 0 ∷ bridges ∷ numbers_of p)
on_fate number (Port p) = gives (number ∷ 2 ∷ 0 ∷ 0 ∷ numbers_of p)
on_fate number (Refused n) = refuses n

abbrev pub on_ends : BothEnds → (ℕ → List ℕ) → Answer
on_ends (FromHost r) list = on_routing r list
on_ends (FromFunction number f) list = on_fate number f
on_ends (NotSent n) list = refuses n

-- a broadcast's list is that of the sheet's record numbers
abbrev pub ends_answer : ℕ → List ℕ → List ℕ → Answer
ends_answer host_id header sheet = below_host host_id (on_ends (both_ends_of host_id header sheet) (λ n. list_of sheet))
