-- Document 03, E15, worked: a bridge with a function and another bridge behind it, a function behind that one, and one function beside the
-- first. Assumes nothing.
use Rattle.std.specs.Prelude.{◌≡◌, true, false, List, [], ◌∷◌, ℕ}
use Rattle.walk.specs.Registers.{Node}
use Rattle.walk.specs.Climb.{Sent, arrives, leaves, stops}
use Rattle.climb_ids.specs.ById.{sent_up, sent_by_id}

abbrev endpoint : ℕ → ℕ → ℕ → Node
endpoint n bus d = record { number = n; bus = bus; devfn = d; bridge = false; secondary = 0; subordinate = 0 }

abbrev bridge_at : ℕ → ℕ → ℕ → ℕ → ℕ → Node
bridge_at n bus d from to = record { number = n; bus = bus; devfn = d; bridge = true; secondary = from; subordinate = to }

-- 1 at 0008h leads to buses 1 to 3; 2 at 0100h and 3 at 0108h on bus 1, the latter to buses 2 to 3; 4 at 0200h on bus 2; 5 at 0010h
abbrev sheet : List Node
sheet = bridge_at 1 0 8 1 3 ∷ endpoint 2 1 0 ∷ bridge_at 3 1 8 2 3 ∷ endpoint 4 2 0 ∷ endpoint 5 0 16 ∷ []

-- two bridges that lead to bus 1, and none to bus 4: no tree
abbrev torn : List Node
torn = bridge_at 1 0 8 1 1 ∷ bridge_at 2 0 16 1 1 ∷ endpoint 3 1 0 ∷ endpoint 4 4 0 ∷ []

-- below a host with the ID FFFFh
abbrev send : ℕ → ℕ → ℕ → Sent
send number own id = sent_by_id 0xFFFF sheet 0 number own id

pub record Worked : Type 0 where
  pub to_the_host : send 4 0x200 0 ≡ leaves 2
  pub beside_the_bridge : send 4 0x200 0x10 ≡ arrives 5 2
  pub down_again : send 4 0x200 0x100 ≡ arrives 2 1
  pub down_two : send 5 0x10 0x200 ≡ arrives 4 2
  pub to_a_bridge_come_through : send 4 0x200 0x108 ≡ arrives 3 1
  pub to_the_upper_bridge : send 4 0x200 8 ≡ arrives 1 2
  pub own_id : send 4 0x200 0x200 ≡ stops 40
  pub own_id_on_the_root_bus : send 5 0x10 0x10 ≡ stops 40
  pub nobody_on_its_bus : send 4 0x200 0x210 ≡ stops 40
  pub nobody_on_an_empty_bus : send 5 0x10 0x300 ≡ stops 40
  pub from_a_bridge_down : send 3 0x108 0x200 ≡ arrives 4 1
  pub from_a_bridge_beside : send 3 0x108 0x100 ≡ arrives 2 0
  pub from_a_bridge_up : send 3 0x108 0x4000 ≡ leaves 1
  -- the host's own ID, which no function has; which one has, on the sender's bus and above; and from no tree
  pub to_the_host_by_its_id : send 4 0x200 0xFFFF ≡ leaves 2
  pub to_the_host_not_beside : sent_by_id 0x100 sheet 0 3 0x108 0x100 ≡ leaves 1
  pub to_the_host_past_a_bridge : sent_by_id 8 sheet 0 4 0x200 8 ≡ leaves 2
  pub to_the_host_two_above : sent_by_id 0x10 torn 0 3 0x100 0x10 ≡ stops 41
  pub to_the_host_none_above : sent_by_id 0x10 torn 0 4 0x400 0x10 ≡ stops 40
  pub a_message_up : sent_up sheet 0 0x200 ≡ leaves 2
  pub a_message_up_from_the_root_bus : sent_up sheet 0 0x10 ≡ leaves 0
  pub two_above : sent_by_id 0xFFFF torn 0 3 0x100 0x10 ≡ stops 41
  pub none_above : sent_by_id 0xFFFF torn 0 4 0x400 0x10 ≡ stops 40
  pub two_claims : sent_by_id 0xFFFF torn 0 2 0x10 0x100 ≡ stops 41
  pub a_message_two_above : sent_up torn 0 0x100 ≡ stops 41
  pub a_message_none_above : sent_up torn 0 0x400 ≡ stops 40
