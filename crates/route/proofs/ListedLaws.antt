-- A broadcast's list has each record number of the sheet just once, in order, and its count is the sheet's. Assumes nothing.
use Rattle.std.specs.Prelude.{◌≡◌, refl, Bool, true, false, cond, List, [], ◌∷◌, map, ◌++◌, ℕ, ◌+◌, length, drop, ltb}
use Rattle.std.proofs.Common.{sym, ap, subst, ◌∙◌}
use Rattle.packet.specs.declared.Packet.{Packet}
use Rattle.walk.specs.Registers.{Node}
use Rattle.walk.specs.Walk.{Outcome, delivered, refused}
use Rattle.sheet_record.specs.Entry.{Entry}
use Rattle.sheet.specs.Sheet.{entries_of}
use Rattle.sheet.specs.Spaces.{nodes_from, nodes_of}
use Rattle.route_list.specs.Counted.{counted}
use Rattle.route_answer.specs.declared.Routing.{Routing}
use Rattle.route_answer.specs.declared.Routing.TheVariants.{Delivered, Broadcast, Port, Refused}
use Rattle.route_answer.specs.Routing.{answer}
use Rattle.route_answer.specs.Listed.{on_room, listed_after}
use Rattle.route_answer.proofs.NumberLaws.{over_elim}
use Rattle.route.specs.Route.{walked, root, from42, route_packet, route_of}
use Rattle.route.proofs.NumberLaws.{route_elim}
use Rattle.route.specs.Listed.{list_of, list_after}

-- ## The list

list_from : (k : ℕ) (es : List Entry) → map (λ (n : Node). n.number) (nodes_from k es) ≡ counted k (length (nodes_from k es))
unfolding nodes_from counted
list_from k [] = refl
list_from k (e ∷ es) = ap (k ∷◌) (list_from (k + 1) es)

-- the record numbers are 1 to the count: each of the sheet's functions just once, in record order
pub list_counted : (s : List ℕ) → list_of s ≡ counted 1 (length (nodes_of s))
list_counted s = list_from 1 (entries_of s)

-- ## A broadcast's count is the sheet's

abbrev CountsAll : List ℕ → Routing → Type 0
CountsAll s (Delivered d) = Unit
CountsAll s (Broadcast functions p) = functions ≡ length (nodes_of s)
CountsAll s (Port p) = Unit
CountsAll s (Refused n) = Unit

counts_answer : (s : List ℕ) (p : Packet) (o : Outcome) → CountsAll s (answer p o)
counts_answer s p (delivered number crossed) = tt
counts_answer s p (refused n) = tt

counts_packet : (s : List ℕ) (p : Packet) → CountsAll s (route_packet p s)
unfolding route_packet from42
counts_packet s p =
    over_elim (CountsAll s) (length (nodes_of s)) (root s) (λ aim. walked aim s (root s) 0) p (λ n h. tt) refl tt
    (λ aim. counts_answer s p (walked aim s (root s) 0))

pub broadcast_counts : (header s : List ℕ) (functions : ℕ) (p : Packet) → route_of header s ≡ Broadcast functions p
    → functions ≡ length (nodes_of s)
broadcast_counts header s functions p e =
    subst (CountsAll s) e (route_elim (CountsAll s) header s (λ n h. tt) (λ q c. counts_packet s q))

pub list_of_broadcast : (header s : List ℕ) (functions : ℕ) (p : Packet) → route_of header s ≡ Broadcast functions p
    → list_of s ≡ counted 1 functions
list_of_broadcast header s functions p e = list_counted s ∙ ap (counted 1) (sym (broadcast_counts header s functions p e))

-- ## What a lent slice holds

-- a list of the numbers 1 to a broadcast's count is the sheet's, short room or not
pub listed_over_sheet : (header s list : List ℕ) → let r = on_room (route_of header s) (length list) in
    listed_after r list ≡ list_after r s list
listed_over_sheet header s list = go (route_of header s) refl
  where
    room : (functions : ℕ) (p : Packet) (t : Bool) → route_of header s ≡ Broadcast functions p
        → let r = cond t (Refused 11) (Broadcast functions p) in listed_after r list ≡ list_after r s list
    room functions p true e = refl
    room functions p false e = ap (λ (l : List ℕ). l ++ drop functions list) (sym (list_of_broadcast header s functions p e))

    go : (r : Routing) → route_of header s ≡ r → listed_after (on_room r (length list)) list ≡ list_after (on_room r (length list)) s list
    go (Delivered d) e = refl
    go (Broadcast functions p) e = room functions p (ltb (length list) functions) e
    go (Port p) e = refl
    go (Refused n) e = refl

-- o is the router's answer without the list
pub route_listed : (header s list : List ℕ) (o : Routing) → o ≡ route_of header s → (r : Routing) (after : List ℕ)
    → (r ≡ on_room o (length list)) × (after ≡ listed_after r list)
    → (r ≡ on_room (route_of header s) (length list)) × (after ≡ list_after r s list)
route_listed header s list o e r after (f, g) =
    let same = f ∙ ap (λ (x : Routing). on_room x (length list)) e in (
      same,
      g ∙ ap (λ (x : Routing). listed_after x list) same ∙ listed_over_sheet header s list
          ∙ ap (λ (x : Routing). list_after x s list) (sym same),
    )
