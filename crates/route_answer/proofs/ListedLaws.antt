-- An answer with a broadcast's list, one step each in the words of the code. Assumes nothing.
use Rattle.std.specs.Prelude.{◌≡◌, refl, List, ◌++◌, ℕ, ◌<◌, ◌≤◌, length, drop}
use Rattle.std.proofs.Common.{sym, ap, ◌∙◌, zero-add, arith, lt-ltb, le-ltb}
use Rattle.std.proofs.lemmas.List.Edits.{sets, sets-eq}
use Rattle.packet.specs.declared.Packet.{Packet}
use Rattle.route_list.specs.Counted.{counted}
use Rattle.route_list.specs.CountedLaws.{length_counted}
use Rattle.route_answer.specs.declared.Delivery.{Delivery}
use Rattle.route_answer.specs.declared.Routing.{Routing}
use Rattle.route_answer.specs.declared.Routing.TheVariants.{Delivered, Broadcast, Port, Refused}
use Rattle.route_answer.specs.Listed.{on_room, listed_after}

-- stored from the start of a slice with room for it
pub stored : (list : List ℕ) (functions : ℕ) → functions ≤ length list
    → sets list 0 (counted 1 functions) ≡ counted 1 functions ++ drop functions list
stored list functions h =
    sets-eq (counted 1 functions) list 0 (omega (arith, length_counted 1 functions))
    ∙ rw (zero-add (length (counted 1 functions)), length_counted 1 functions)

-- r is the answer without the list
module _ (r : Routing) (list : List ℕ) where
  abbrev room : ℕ
  room = length list

  -- what was answered, and what the slice holds after
  abbrev pub Listed : Routing → List ℕ → Type 0
  Listed x after = (x ≡ on_room r room) × (after ≡ listed_after x list)

  on_room_lem : (x : Routing) → r ≡ x → on_room x room ≡ on_room r room
  on_room_lem x e = ap (λ (y : Routing). on_room y room) (sym e)

  pub listed_delivered : (d : Delivery) → r ≡ Delivered d → Listed (Delivered d) list
  listed_delivered d e = (on_room_lem (Delivered d) e, refl)

  pub listed_port : (p : Packet) → r ≡ Port p → Listed (Port p) list
  listed_port p e = (on_room_lem (Port p) e, refl)

  pub listed_refused : (n : ℕ) → r ≡ Refused n → Listed (Refused n) list
  listed_refused n e = (on_room_lem (Refused n) e, refl)

  module _ (functions : ℕ) (p : Packet) (e : r ≡ Broadcast functions p) where
    pub listed_short : room < functions → Listed (Refused 11) list
    listed_short h = (rw (lt-ltb room functions h) at (on_room_lem (Broadcast functions p) e), refl)

    pub listed_whole : (after : List ℕ) → functions ≤ room → after ≡ sets list 0 (counted 1 functions)
        → Listed (Broadcast functions p) after
    listed_whole after h g = (rw (le-ltb room functions h) at (on_room_lem (Broadcast functions p) e), g ∙ stored list functions h)
