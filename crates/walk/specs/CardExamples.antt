-- Document 02, E11, worked: a bridge with two functions behind it and one beside it. Assumes nothing.
use Rattle.std.specs.Prelude.{◌≡◌, Bool, true, false, not, ℕ, eqb}
use mathlib.Core.List.{List, [], ◌∷◌}
use Rattle.walk.specs.Ranges.{Range, low}
use Rattle.walk.specs.Registers.{Node, Registers}
use Rattle.walk.specs.Climb.{Sent, arrives, leaves, stops, send_from}

abbrev range : ℕ → ℕ → Range
range a b = record { pool = low; start = a; stop = b }

abbrev node_at : ℕ → ℕ → ℕ → Bool → ℕ → Node
node_at n bus d is_bridge_lem secondary =
    record { number = n; bus = bus; devfn = d; bridge = is_bridge_lem; secondary = secondary; subordinate = secondary }

abbrev endpoint : ℕ → ℕ → ℕ → List Range → Registers
endpoint n bus d bs = record { node = node_at n bus d false 0; bars = bs; windows = [] }

abbrev bridge_at : ℕ → ℕ → ℕ → List Range → List Range → Registers
bridge_at n bus secondary bs ws = record { node = node_at n bus 0 true secondary; bars = bs; windows = ws }

abbrev second : Registers
second = endpoint 2 1 0 (range 0x1000 0x1100 ∷ [])

abbrev fourth : Registers
fourth = endpoint 4 0 8 (range 0x8000 0x8100 ∷ [])

abbrev sheet : List Registers
sheet =
    bridge_at 1 0 1 (range 0x9000 0x9100 ∷ []) (range 0x1000 0x3000 ∷ [])
    ∷ second
    ∷ endpoint 3 1 8 (range 0x2000 0x2100 ∷ [])
    ∷ fourth
    ∷ []

abbrev all : ℕ → Bool
all n = true

abbrev but : ℕ → ℕ → Bool
but k n = not (eqb n k)

abbrev send : (ℕ → Bool) → (ℕ → Bool) → Registers → ℕ → Sent
send enabled master f address = send_from enabled master sheet address 0 f

pub record Worked : Type 0 where
  pub peer : send all all second 0x2000 ≡ arrives 3 0
  pub up_one : send all all second 0x8000 ≡ arrives 4 1
  pub down_one : send all all fourth 0x1000 ≡ arrives 2 1
  pub own_bar : send all all second 0x1000 ≡ stops 40
  pub own_before_master : send all (but 2) second 0x1000 ≡ stops 44
  pub unused_room : send all all second 0x2800 ≡ stops 40
  pub to_the_host : send all all second 0xA000 ≡ leaves 1
  pub bridge_no_master : send all (but 1) second 0xA000 ≡ stops 44
  pub windows_before_master : send all (but 1) second 0x2800 ≡ stops 40
  pub bridges_own_bar : send all all second 0x9000 ≡ arrives 1 1
  pub peer_disabled : send (but 3) all second 0x2000 ≡ stops 40
  pub down_disabled : send (but 1) all fourth 0x1000 ≡ leaves 0
