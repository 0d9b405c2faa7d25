-- What the call for a request from a card answers. Assumes nothing.
use Rattle.std.specs.Prelude.{ℕ, List, ◌∷◌}
use Rattle.packet_numbers.specs.Numbers.{numbers_of}
use Rattle.route_cards.specs.declared.Sending.{Sending}
use Rattle.route_cards.specs.declared.Sending.TheVariants.{Delivered, Host, Refused}
use Rattle.route_cards.specs.Sending.{sending_of}
use Rattle.capi_answers.specs.Answers.{Answer, refuses, gives}

-- Record, bridges crossed up and down, and the packet as it arrives; the host has record 0 and the bridges crossed upward.
abbrev pub on_sending : Sending → Answer
on_sending (Delivered d) = gives (d.owner ∷ d.bridges ∷ numbers_of d.packet)
on_sending (Host bridges p) = gives (0 ∷ bridges ∷ numbers_of p)
on_sending (Refused n) = refuses n

abbrev pub send_answer : ℕ → List ℕ → List ℕ → Answer
send_answer number header sheet = on_sending (sending_of number header sheet)
