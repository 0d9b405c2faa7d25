-- Every record that an answer names is one of the sheet: the sender, and who gets a packet from a function. Assumes nothing.
use Rattle.std.specs.Prelude.{◌≡◌, refl, Bool, true, false, not, ◌&&◌, ◌⊎◌, Option, Some, None, length, eqb}
use Rattle.std.proofs.Common.{sym, ap, subst, ◌∙◌, inl, inr, suc-ne-zero, arith}
use Rattle.std.proofs.Math.Bool.{cond}
use mathlib.Core.List.Memᴰ
use mathlib.Core.List.{List, [], ◌∷◌, ◌++◌, map}
use Prim.Native.Nat.{ℕ, zero, suc, ◌+◌, ◌/◌, ◌%◌, ◌≤◌, ◌<◌}
use Rattle.refusals.specs.RefusalsLaws.{either}
use Rattle.lists.specs.Lists.{◌∈◌, keep}
use Rattle.lists.specs.KeepLaws.{keep_elim}
use Rattle.pools.specs.declared.Space.{Space}
use Rattle.pools.specs.declared.Space.TheVariants.{Memory}
use Rattle.walk.specs.Registers.{Node, Registers, Item, items, Claim, bar, window}
use Rattle.walk.proofs.RegistersLaws.{node_mem, BarOf, WindowOf, item_elim}
use Rattle.walk.specs.Tally.{Tally, none, one, several, join, claims, claims_in, tally_on}
use Rattle.walk.proofs.TallyLaws.{claims_of_one}
use Rattle.walk.specs.Walk.{Outcome, no_owner, walk_from}
use Rattle.walk.proofs.NumberLaws.{walk_elim}
use Rattle.walk.specs.Ids.{has_id, function_claim, bridge_claim, tally_by_id}
use Rattle.walk.specs.Climb.{Up, to_host, across, halts, not_master, bar_holds, up_from, Sent, arrives, leaves, stops, sent_of, settle_up, go_up}
use Rattle.walk.specs.Climb.{climb_over, climb_from, climb_beside, may_claim, tally_beside, from_bus, send_from, Start, starts, nowhere, start_at}
use Rattle.climb_ids.specs.ById.{function_may_claim, bridge_may_claim, tally_beside_by_id, up_unless, buses_hold, never, nothing, climb_by_id}
use Rattle.climb_ids.specs.ById.{sent_to_other, sent_up, sent_by_id}
use Rattle.packet.specs.declared.Packet.{Packet}
use Rattle.sheet_record.specs.Entry.{Entry}
use Rattle.sheet_record.specs.Spaces.{node_of}
use Rattle.sheet.specs.Sheet.{entries_of}
use Rattle.sheet.proofs.SheetLaws.{nodes_functions}
use Rattle.sheet.specs.Spaces.{nodes_from, nodes_of, registers_of, enabled_of, master_of}
use Rattle.claims.specs.declared.Aim.TheVariants.{Address, Id}
use Rattle.claims.specs.RecordLaws.{claim_in_sheet}
use Rattle.route.specs.Route.{root}
use Rattle.route_cards.specs.declared.Sending.{Sending}
use Rattle.route_cards.specs.declared.Sending.TheVariants.{Delivered as CardDelivered, Host as CardHost, Refused as CardRefused}
use Rattle.route_cards.specs.Sending as cards
use Rattle.route_cards.specs.Sending.{request_of, send_request, on_request, send_packet}

-- ## A climb arrives where a bus has one claim and it is a BAR's, or a function's by ID

module _ (P : ℕ → Type 0) where
  abbrev pub ArrivesAt : Sent → Type 0
  ArrivesAt (arrives number count) = P number
  ArrivesAt (leaves count) = Unit {0}
  ArrivesAt (stops n) = Unit {0}

  module _ (tally : ℕ → Tally) (up : ℕ → Up) (below : (bus number : ℕ) → tally bus ≡ one (bar number) → P number) where
    walk_arrives : (bus crossed : ℕ) → ArrivesAt (sent_of (walk_from tally bus crossed))
    walk_arrives = walk_elim (λ o. ArrivesAt (sent_of o)) tally tt tt (λ bus number crossed e. below bus number e)

    -- one bus, with the climb from the bus above handed in
    module _ (crossed : ℕ) (next : ℕ → ℕ → Sent) (later : (number b : ℕ) → ArrivesAt (next number b)) where
      up_arrives : (u : Up) → ArrivesAt (go_up u crossed next)
      up_arrives to_host = tt
      up_arrives (across number b) = later number b
      up_arrives (halts k) = tt

      bus_arrives : (t : Tally) → ((number : ℕ) → t ≡ one (bar number) → P number) → (u : Up)
          → ArrivesAt (settle_up t crossed (λ b. walk_from tally b (crossed + 1)) (go_up u crossed next))
      bus_arrives none here u = up_arrives u
      bus_arrives several here u = tt
      bus_arrives (one (bar k)) here u = here k refl
      bus_arrives (one (window k secondary)) here u = walk_arrives secondary (crossed + 1)

    over_arrives : (n bus crossed : ℕ) → ArrivesAt (climb_over tally up n bus crossed)
    unfolding climb_over
    over_arrives zero bus crossed = tt
    over_arrives (suc n) bus crossed =
        bus_arrives crossed (λ number b. climb_over tally up n b (crossed + 1)) (λ number b. over_arrives n b (crossed + 1)) (tally bus)
        (below bus) (up bus)

    module _ (beside : ℕ → ℕ → Tally) (here : (came bus number : ℕ) → beside came bus ≡ one (bar number) → P number) where
      beside_arrives : (n came bus crossed : ℕ) → ArrivesAt (climb_beside tally up beside n came bus crossed)
      unfolding climb_beside
      beside_arrives zero came bus crossed = tt
      beside_arrives (suc n) came bus crossed =
          bus_arrives crossed (λ number b. climb_beside tally up beside n number b (crossed + 1))
          (λ number b. beside_arrives n number b (crossed + 1)) (beside came bus) (here came bus) (up bus)

-- ## Who claims is a record of the sheet

-- records k and on
number_lt : (k : ℕ) (es : List Entry) (n : Node) → n ∈ nodes_from k es → n.number < k + length es
unfolding nodes_from
number_lt k [] n m = absurd (Memᴰ.not-nil m)
number_lt k (e ∷ es) n m = go (Memᴰ.cases_cons m) (number_lt (k + 1) es n)
  where
    go : (n ≡ node_of k e) ⊎ (n ∈ nodes_from (k + 1) es) → (n ∈ nodes_from (k + 1) es → n.number < k + 1 + length es)
        → n.number < k + suc (length es)
    go (inl same) later = omega (arith, ap (λ (x : Node). x.number) same)
    go (inr m) later = omega (arith, later m)

module _ (s : List ℕ) where
  abbrev pub InSheet : ℕ → Type 0
  InSheet number = number ≤ length (entries_of s)

  pub node_in : (n : Node) → n ∈ nodes_of s → InSheet n.number
  node_in n m = omega (arith, number_lt 1 (entries_of s) n m)

  -- by address
  module _ (space : Space) (address : ℕ) where
    item_in : (i : Item) → i ∈ items (registers_of space s) → (number : ℕ) → i.claim ≡ bar number → InSheet number
    item_in i m number e = go (item_elim (registers_of space s) m)
      where
        go : BarOf (registers_of space s) i ⊎ WindowOf (registers_of space s) i → InSheet number
        go (inl b) =
            let node = i.owner.node in
            let here : node ∈ nodes_of s = subst (node ∈◌) (nodes_functions space 1 (entries_of s)) (node_mem b.in_sheet) in
            let same : node.number ≡ number = cc in
            omega (arith, node_in node here)
        go (inr w) = absurd (suc-ne-zero 0 (cc))

    beside_in : (start came bus number : ℕ)
        → tally_beside (enabled_of space s) (registers_of space s) address start came bus ≡ one (bar number) → InSheet number
    unfolding tally_beside
    beside_in start came bus number e =
        let on = keep (claims (enabled_of space s) address bus) (items (registers_of space s)) in
        let only : bar number ∈ claims_in (keep (may_claim start came) on) = rw (claims_of_one _ (bar number) e) (Memᴰ.head refl) in
        let from = Memᴰ.of_map (λ (i : Item). i.claim) (keep (may_claim start came) on) only in
        let there = keep_elim (claims (enabled_of space s) address bus) (items (registers_of space s))
        (keep_elim (may_claim start came) on from.1).0 in
        item_in from.0 there.0 number from.2

    card_arrives : (f : Registers)
        → ArrivesAt InSheet (send_from (enabled_of space s) (master_of s) (registers_of space s) address (root s) f)
    unfolding send_from from_bus
    card_arrives f =
        let tally = tally_on (enabled_of space s) (registers_of space s) address in
        let up = up_from (master_of s) (registers_of space s) address (root s) in
        let beside = tally_beside (enabled_of space s) (registers_of space s) address f.node.number in
        let climb = climb_beside tally up beside (suc f.node.bus) 0 f.node.bus 0 in
        let held = cond (bar_holds address f) (stops no_owner) climb in
        either (ArrivesAt InSheet) (master_of s f.node.number) held (stops not_master)
        (either (ArrivesAt InSheet) (bar_holds address f) (stops no_owner) climb tt
        (beside_arrives InSheet tally up (claim_in_sheet s (Address space address)) beside (beside_in f.node.number)
        (suc f.node.bus) 0 f.node.bus 0))
        tt

  -- by ID
  functions_in_lem : (ns ms : List Node) (number : ℕ) → ((n : Node) → n ∈ ns → n ∈ nodes_of s)
      → map function_claim ns ++ map bridge_claim ms ≡ bar number ∷ [] → InSheet number
  functions_in_lem [] [] number inside e = absurd (suc-ne-zero 0 (cc))
  functions_in_lem [] (m ∷ ms) number inside e = absurd (suc-ne-zero 0 (cc))
  functions_in_lem (n ∷ ns) ms number inside e =
      let same : n.number ≡ number = cc in
      omega (arith, node_in n (inside n (Memᴰ.head refl)))

  beside_by_id_in : (target devfn start came bus number : ℕ)
      → tally_beside_by_id (nodes_of s) target devfn start came bus ≡ one (bar number) → InSheet number
  unfolding tally_beside_by_id
  beside_by_id_in target devfn start came bus number e =
      let ns = keep (function_may_claim target devfn start bus) (nodes_of s) in
      let ms = keep (bridge_may_claim target came bus) (nodes_of s) in
      functions_in_lem ns ms number (λ n m. (keep_elim (function_may_claim target devfn start bus) (nodes_of s) m).0)
      (claims_of_one (map function_claim ns ++ map bridge_claim ms) (bar number) e)

  to_other_arrives : (number own id : ℕ) → ArrivesAt InSheet (sent_to_other (nodes_of s) (root s) number own id)
  unfolding sent_to_other climb_by_id
  to_other_arrives number own id =
      let tally = tally_by_id (nodes_of s) (id / 256) (id % 256) in
      let up = up_unless (buses_hold (id / 256)) (nodes_of s) (root s) in
      let beside = tally_beside_by_id (nodes_of s) (id / 256) (id % 256) number in
      either (ArrivesAt InSheet) (eqb id own) (stops no_owner) (climb_beside tally up beside (suc (own / 256)) 0 (own / 256) 0) tt
      (beside_arrives InSheet tally up (claim_in_sheet s (Id id)) beside (beside_by_id_in (id / 256) (id % 256) number) (suc (own / 256)) 0
      (own / 256) 0)

  -- only up: nothing claims
  pub up_arrives_in : (own : ℕ) → ArrivesAt InSheet (sent_up (nodes_of s) (root s) own)
  unfolding sent_up climb_from
  up_arrives_in own =
      over_arrives InSheet nothing (up_unless never (nodes_of s) (root s)) (λ bus number e. absurd (suc-ne-zero 0 (cc))) (suc (own / 256))
      (own / 256) 0

  pub by_id_arrives : (host_id number own id : ℕ) → ArrivesAt InSheet (sent_by_id host_id (nodes_of s) (root s) number own id)
  unfolding sent_by_id
  by_id_arrives host_id number own id =
      either (ArrivesAt InSheet) (eqb id host_id) (sent_up (nodes_of s) (root s) own) (sent_to_other (nodes_of s) (root s) number own id)
      (up_arrives_in own) (to_other_arrives number own id)

  -- ## A request from a card

  abbrev pub SendingIn : Sending → Type 0
  SendingIn (CardDelivered d) = InSheet d.owner
  SendingIn (CardHost bridges p) = Unit {0}
  SendingIn (CardRefused n) = Unit {0}

  answer_in : (p : Packet) (o : Sent) → ArrivesAt InSheet o → SendingIn (cards.answer p o)
  answer_in p (arrives number count) h = h
  answer_in p (leaves count) h = tt
  answer_in p (stops n) h = tt

  pub sending_in : (number : ℕ) (p : Packet) → SendingIn (send_packet number p s)
  unfolding send_packet
  sending_in number p = by_request (request_of p)
    where
      by_start : (space : Space) (address : ℕ) (start : Start) → SendingIn (send_request p s space address start)
      by_start space address nowhere = tt
      by_start space address (starts f) =
          answer_in p (send_from (enabled_of space s) (master_of s) (registers_of space s) address (root s) f) (card_arrives space address f)

      by_request : (r : Option (Space × ℕ)) → SendingIn (on_request number p s r)
      by_request (Some (space, address)) = by_start space address (start_at (registers_of space s) number)
      by_request None = tt
