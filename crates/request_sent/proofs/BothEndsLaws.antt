-- Document 03, E15, is proved: from what a climb by ID comes to on sound bus numbers, what is answered on bytes, over a planned sheet and
-- over one with one owner for every address, which an accepted one is. Assumes nothing.
use Rattle.std.specs.Prelude.{◌≡◌, refl, ◌⊎◌, ◌↔◌, Bool, true, false, List, [], ◌∷◌, map, reverse, ℕ, ◌+◌, ◌/◌, ◌%◌, ◌^◌, ◌≤◌, ◌<◌, eqb, length, take}
use Rattle.std.proofs.Common.{sym, ap, subst, ◌∙◌, inl, inr, true≢false, suc-ne-zero, arith, eqb-true, eq-eqb, ne_eqb}
use mathlib.Core.List.Memᴰ
use Rattle.std.proofs.lemmas.List.{length-map}
use Rattle.std.proofs.lemmas.Bool.{eqb-false}
use Rattle.lists.specs.Lists.{◌∈◌, keep}
use Rattle.lists.specs.KeepLaws.{keep_elim, keep_intro}
use Rattle.endian.specs.Endian.{Bytes}
use Rattle.pairs.specs.declared.MessageRouting.TheVariants.{ToRoot, ByAddress, ById, Broadcast, Local, Gathered}
use Rattle.packet.specs.declared.Packet.{Packet}
use Rattle.packet.specs.declared.Packet.TheVariants.{Memory, Io, Config, Completion, Message}
use Rattle.tlp.specs.declared.Reading.TheVariants.{Accepted as Read}
use Rattle.tlp.specs.Reading.{read_of}
use Rattle.pools.specs.declared.Space.{Space}
use Rattle.pools.specs.declared.Space.TheVariants.{Memory as memory_space, Io as io_space}
use Rattle.records.specs.Limits.{most_above}
use Rattle.board_record.specs.Host.{host_of_part}
use Rattle.board.specs.Board.{host_of, functions_of}
use Rattle.board.specs.ToPlacing.{devfn_of}
use Rattle.walk.specs.Registers.{Node, Registers, nodes, NumberedFrom}
use Rattle.walk.proofs.RegistersLaws.{nodes_elim}
use Rattle.walk.specs.Walk.{no_owner}
use Rattle.walk.specs.Above.{above}
use Rattle.walk.proofs.AboveLaws.{above_is, above_at_most_255}
use Rattle.walk.specs.Good.{Host as WalkHost, BridgesRise, Tree}
use Rattle.walk.proofs.Reach.{numbers_of}
use Rattle.walk.proofs.Delivery.{root_is_first}
use Rattle.walk.specs.Ids.{has_id, by_id, DistinctIds, HasId}
use Rattle.walk.proofs.IdsLaws.{has_id_elim}
use Rattle.walk.proofs.IdsDelivery.{delivered_by_id, has_id_of_delivered}
use Rattle.walk.specs.Climb.{Sent, arrives, leaves, stops, CardTrail}
use Rattle.walk.proofs.MeetingLaws.{without_le}
use Rattle.climb_ids.specs.ById.{up_unless, buses_hold, sent_to_other, sent_up, sent_by_id}
use Rattle.climb_ids.proofs.ByIdLaws.{Sender}
use Rattle.climb_ids.specs.Promise as promise
use Rattle.climb_ids.specs.Promise.{RootLeads, AnswersById}
use Rattle.climb_ids.proofs.PromiseLaws.{TellsIds, sent_answers, sent_crosses, sent_up_lem}
use Rattle.sheet.specs.Sheet.{entries_of, sheet_number}
use Rattle.sheet.specs.Spaces.{registers_of, nodes_of}
use Rattle.sheet.proofs.SheetLaws.{checked_of_zero, passes_of_zero, numbered_functions, nodes_functions}
use Rattle.sheet.specs.Commands.{SameButCommands}
use Rattle.sheet.proofs.CommandsLaws.{nodes_same, number_same}
use Rattle.plan_good.specs.Registers.{plan_host}
use Rattle.plan_good.proofs.Ids.{planned_ids_lem}
use Rattle.plan_good.proofs.Kept.{kept_of_planned}
use Rattle.plan_good.proofs.AboveLaws.{above_agree}
use Rattle.plan_answer.specs.declared.Planning.TheVariants.{Planned}
use Rattle.plan_answer.specs.Plan.{planning, sheet_after}
use Rattle.plan_sheet.specs.Fits.{BoardFits}
use Rattle.plan_sheet.proofs.Accepted.{fits_of_accepted}
use Rattle.plan_sheet.proofs.Delivery.{PlannedSheet}
use Rattle.plan_sheet.proofs.Answer.{AnswersPlanned, planned_of_answer, planned_sheet_of_answer}
use Rattle.audit_rule.specs.Host.{host_for}
use Rattle.audit_rule.specs.Accepted.{OneOwner}
use Rattle.audit_rule.proofs.AcceptedLaws.{one_owner_of_accepted}
use Rattle.claims.specs.declared.Aim.TheVariants.{Address, Id}
use Rattle.claims.specs.Claims.{tally_for}
use Rattle.route_arrival.specs.declared.Heading.{Heading}
use Rattle.route_arrival.specs.declared.Heading.TheVariants.{Aimed, Up, Port as ToPort}
use Rattle.route_arrival.specs.Arrival.{heading_of}
use Rattle.route.specs.Route.{root}
use Rattle.route_cards.specs.declared.Arrival.{Arrival}
use Rattle.route_cards.specs.declared.Sending.{Sending}
use Rattle.route_cards.specs.declared.Sending.TheVariants.{Delivered as CardDelivered, Host as CardHost, Refused as CardRefused}
use Rattle.route_cards.specs.Sending.{number_of as sending_number, sending_of}
use Rattle.route_cards.specs.Search.{IsType0}
use Rattle.route_cards.specs.RequestLaws.{other_45, no_start_45}
use Rattle.route_sent.specs.declared.Fate.{Fate}
use Rattle.route_sent.specs.declared.Fate.TheVariants.{Delivered, Host, Refused}
use Rattle.route_sent.specs.declared.BothEnds.TheVariants.{FromFunction}
use Rattle.route_sender.specs.declared.Sender.TheVariants.{Host as HostSends, Function}
use Rattle.route_sender.specs.Sender.{named_by, starts_at_host, sender_of}
use Rattle.route_sent.specs.BothEnds.{fate_of, answer, on_heading, both_ends_of, fate_number, number_of}
use Rattle.route_sent.proofs.FunctionLaws.{is_sender}
use Rattle.route_sender.specs.NamedLaws.{function_named}
use Rattle.route_sent.proofs.RequestLaws.{header_first, sheet_next, from_host_lem, from_function_lem, sent_as_request}
use Rattle.demands.specs.Demand3 as planned
use Rattle.demands.specs.ById as planned_ids
use Rattle.demands.specs.ById.{GoesById}
use Rattle.demands.proofs.ByIdLaws.{never_contested as planned_never}
use Rattle.demands.specs.Demand3.{route_number}
use Rattle.requests.specs.Audit as audited
use Rattle.requests.specs.Audit.{HasIdOver}
use Rattle.requests.proofs.AuditLaws.{above_agree as audited_above, never_contested as owner_never}
use Rattle.requests.specs.CardToCard.{IsCardRequest, send_number}
use Rattle.requests.proofs.CardToCardLaws.{card_to_card}
use Rattle.request_sent.specs.BothEnds.{StartsAtHost, StartsAt, CrossesById, RoutedFrom, OneOfEach, BothEnds}
use Rattle.request_sent.proofs.SendersLaws.{host_sends, function_sends, some_sender, one_of_each}

-- ## The packet

aim_by_id : (p : Packet) (id : ℕ) → GoesById p id → heading_of p ≡ Aimed (Id id)
aim_by_id (Memory k h e a) id by = absurd by
aim_by_id (Io k h e a) id by = absurd by
aim_by_id (Config k h e t) id by = rw by
aim_by_id (Completion k h o) id by = rw by
aim_by_id (Message k h ToRoot code tail) id by = absurd by
aim_by_id (Message k h ByAddress code tail) id by = absurd by
aim_by_id (Message k h ById code tail) id by = rw by
aim_by_id (Message k h Broadcast code tail) id by = absurd by
aim_by_id (Message k h Local code tail) id by = absurd by
aim_by_id (Message k h Gathered code tail) id by = absurd by

aim_by_address : (p : Packet) (sp : Space) (address : ℕ) → IsCardRequest p sp address → heading_of p ≡ Aimed (Address sp address)
aim_by_address (Memory k h e a) sp address (in_memory, starts) = rw (in_memory, starts)
aim_by_address (Io k h e a) sp address (in_io, starts) = rw (in_io, starts)
aim_by_address (Config k h e t) sp address is = absurd is
aim_by_address (Completion k h o) sp address is = absurd is
aim_by_address (Message k h routing code tail) sp address is = absurd is

-- ## From what a packet by ID comes to, what is answered

module _ (Has : ℕ → Type 0) (above_of : ℕ → List ℕ) (depth most host_id : ℕ) (t header : List ℕ) (p : Packet) (id k : ℕ) where
  abbrev Leads : Type 0
  Leads = RootLeads (root t) (id / 256) (nodes_of t)

  abbrev GoesTo : ℕ → Type 0
  GoesTo j = promise.GoesTo Has above_of Leads k j

  abbrev GoesToHost : Type 0
  GoesToHost = promise.GoesToHost Has above_of Leads

  abbrev ups : ℕ → List ℕ
  ups j = promise.crossed_up Has above_of Leads k j

  abbrev downs : ℕ → List ℕ
  downs j = promise.crossed_down Has above_of Leads k j

  abbrev Becomes : Fate → Type 0
  Becomes f = both_ends_of host_id header t ≡ FromFunction k f

  module _ (o : Sent) (is : both_ends_of host_id header t ≡ FromFunction k (answer p o)) (a : AnswersById Has above_of Leads k o)
      (crosses : (j : ℕ) → Has j → (us ds : List ℕ)
      → CrossesById t id (named_by p) us ds j ↔ ((us ≡ ups j) × (ds ≡ reverse (downs j))))
      (few : length (above_of k) ≤ depth) (few_above : (j : ℕ) → Has j → length (above_of j) ≤ depth) (twice : depth + depth ≤ most) where
    fate_is : (f : Fate) → Becomes f → answer p o ≡ f
    fate_is f e = let both : FromFunction k (answer p o) ≡ FromFunction k f = sym is ∙ e in cc

    sent_of_arrival : (d : Arrival) → Becomes (Delivered d) → (o ≡ arrives d.owner d.bridges) × (d.packet ≡ p)
    sent_of_arrival d e = go o (fate_is (Delivered d) e)
      where
        go : (x : Sent) → answer p x ≡ Delivered d → (x ≡ arrives d.owner d.bridges) × (d.packet ≡ p)
        go (arrives j count) e =
            let same : record { owner = j; bridges = count; packet = p } ≡ d = cc in (
              ap (λ (x : Arrival). arrives x.owner x.bridges) same,
              sym (ap (λ (x : Arrival). x.packet) same),
            )
        go (leaves count) e = absurd (suc-ne-zero 0 (cc))
        go (stops n) e = absurd (suc-ne-zero 0 (cc))

    goes_of : (d : Arrival) → Becomes (Delivered d)
        → GoesTo d.owner × (d.bridges ≡ length (ups d.owner) + length (downs d.owner))
    goes_of d e = (a.arrives_exactly d.owner d.bridges).0 (sent_of_arrival d e).0

    becomes : (x : Sent) → o ≡ x → Becomes (answer p x)
    becomes x e = is ∙ ap (λ (y : Sent). FromFunction k (answer p y)) e

    arrives_at : (j count : ℕ) → o ≡ arrives j count → (d : Arrival) × Becomes (Delivered d) × (d.owner ≡ j)
    arrives_at j count e = (record { owner = j; bridges = count; packet = p }, becomes (arrives j count) e, refl)

    sent_to : (j : ℕ) → GoesTo j → (d : Arrival) × Becomes (Delivered d) × (d.owner ≡ j)
    sent_to j g = arrives_at j _ ((a.arrives_exactly j _).1 (g, refl))

    host_of_lem : (bridges : ℕ) (q : Packet) → Becomes (Host bridges q) → (o ≡ leaves bridges) × (q ≡ p)
    host_of_lem bridges q e = go o (fate_is (Host bridges q) e)
      where
        go : (x : Sent) → answer p x ≡ Host bridges q → (x ≡ leaves bridges) × (q ≡ p)
        go (arrives j count) e = absurd (suc-ne-zero 0 (cc))
        go (leaves count) e = let same : count ≡ bridges = cc in (ap leaves same, cc)
        go (stops n) e = absurd (suc-ne-zero 0 (cc))

    refused_of : (n : ℕ) → Becomes (Refused n) → o ≡ stops n
    refused_of n e = go o (fate_is (Refused n) e)
      where
        go : (x : Sent) → answer p x ≡ Refused n → x ≡ stops n
        go (arrives j count) e = absurd (suc-ne-zero 0 (cc))
        go (leaves count) e = absurd (suc-ne-zero 0 (cc))
        go (stops m) e = let same : m ≡ n = cc in ap stops same

    unowned : o ≡ stops no_owner → ((j : ℕ) → ¬ GoesTo j) × ¬ GoesToHost
    unowned e = (
      λ j g. let q = sym e ∙ (a.arrives_exactly j _).1 (g, refl) in suc-ne-zero 0 (cc),
      λ v. let q = sym e ∙ (a.leaves_exactly _).1 (v, refl) in suc-ne-zero 0 (cc),
    )

    one_of_three : (x : Sent) → o ≡ x → ((j : ℕ) × ((d : Arrival) × Becomes (Delivered d) × (d.owner ≡ j)))
        ⊎ (((bridges : ℕ) × Becomes (Host bridges p)) ⊎ Becomes (Refused 40))
    one_of_three (arrives j count) e = inl (j, arrives_at j count e)
    one_of_three (leaves count) e = inr (inl (count, becomes (leaves count) e))
    one_of_three (stops n) e = inr (inr (becomes (stops n) e ∙ ap (λ (m : ℕ). FromFunction k (Refused m)) (a.no_other_number n e)))

    sent_not_41 : (x : Sent) → o ≡ x → ¬ (number_of (FromFunction k (answer p x)) ≡ 41)
    sent_not_41 (arrives j count) e n = omega (arith, n)
    sent_not_41 (leaves count) e n = omega (arith, n)
    sent_not_41 (stops m) e n = omega (arith, n, a.no_other_number m e)

    pub routed_from : RoutedFrom Has above_of most host_id t header p id k
    routed_from =
        record {
          delivered_exactly = λ j. (λ (d, e, is_j). subst GoesTo is_j (goes_of d e).0, sent_to j);
          one_receiver = λ i j x y. let e = sym ((a.arrives_exactly i _).1 (x, refl)) ∙ (a.arrives_exactly j _).1 (y, refl) in cc;
          host_exactly = λ bridges q. (
            λ e. let (x, same) = host_of_lem bridges q e in let v = (a.leaves_exactly bridges).0 x in (v.0, v.1, same),
            λ (v, count, same).
                becomes (leaves bridges) ((a.leaves_exactly bridges).1 (v, count))
                ∙ ap (λ (z : Packet). FromFunction k (Host bridges z)) (sym same),
          );
          else_no_owner = (
            λ e. unowned (refused_of 40 e),
            λ (no_owner_lem, no_host_lem). becomes (stops no_owner) (a.else_no_owner no_owner_lem no_host_lem),
          );
          nothing_else = one_of_three o refl;
          never_contested = λ e. sent_not_41 o refl (sym (ap number_of is) ∙ e);
          crosses_exactly = λ d e. crosses d.owner (goes_of d e).0.0;
          both_ways_counted = λ d e.
              let g = goes_of d e in (
                g.1,
                omega (
                  arith,
                  g.1,
                  few,
                  few_above d.owner g.0.0,
                  without_le (above_of d.owner) (above_of k),
                  without_le (above_of k) (above_of d.owner),
                  twice,
                ),
              );
          arrives_unchanged = λ d e. (sent_of_arrival d e).1;
        }

-- ## Over sound bus numbers of a sheet

numbered_by_id : (devfn k : ℕ) (fs : List Registers) → NumberedFrom k fs → NumberedFrom k (map (by_id devfn) (nodes fs))
unfolding NumberedFrom
numbered_by_id devfn k [] h = h
numbered_by_id devfn k (f ∷ fs) h = (h.0, numbered_by_id devfn (k + 1) fs h.1)

numbered_nodes : (devfn : ℕ) (t : List ℕ) → NumberedFrom 1 (map (by_id devfn) (nodes_of t))
numbered_nodes devfn t =
    subst (λ (ns : List Node). NumberedFrom 1 (map (by_id devfn) ns)) (nodes_functions memory_space 1 (entries_of t))
    (numbered_by_id devfn 1 (registers_of memory_space t) (numbered_functions memory_space 1 (entries_of t)))

some_node : (ns : List Node) {n : Node} → n ∈ ns → 0 < length ns
some_node [] m = absurd (Memᴰ.not-nil m)
some_node (x ∷ ns) m = omega arith

has_own : (id : ℕ) (n : Node) → n.bus ≡ id / 256 → n.devfn ≡ id % 256 → has_id (id / 256) (id % 256) n ≡ true
has_own id n at same = rw (eq-eqb n.bus (id / 256) at, eq-eqb n.devfn (id % 256) same)

module _ (t header : List ℕ) (p : Packet) (read : read_of header ≡ Read p) (passes : sheet_number t ≡ 0) (host : WalkHost)
    (rise : BridgesRise (nodes_of t)) (tree : Tree host (nodes_of t)) (distinct : DistinctIds (nodes_of t)) (host_id : ℕ) (k : ℕ)
    (start : StartsAt host_id p t k) where
  is_x : HasId (named_by p / 256) (named_by p % 256) (nodes_of t) start.has_id_lem.function
  is_x = start.has_id_lem.has_id_lem

  sender : Sender (nodes_of t) start.has_id_lem.function.number (named_by p)
  sender =
      is_sender t start.has_id_lem.function.number (named_by p) start.has_id_lem.function is_x.in_sheet refl
      (has_own (named_by p) start.has_id_lem.function is_x.bus_is is_x.devfn_is)

  sends : sender_of host_id p t ≡ Function start.has_id_lem.function.number
  sends = function_named host_id p t distinct start.not_hosts_own start.not_host_named start.has_id_lem.function is_x

  -- the root bus is the host's first
  root_first : root t ≡ host.first
  root_first = root_is_first host.first (nodes_of t) tree.first_on_root (some_node (nodes_of t) is_x.in_sheet)

  -- by an ID that is not the host's, and by the host's
  to_other : (id : ℕ) → ¬ (id ≡ host_id)
      → sent_by_id host_id (nodes_of t) (root t) start.has_id_lem.function.number (named_by p) id
      ≡ sent_to_other (nodes_of t) (root t) start.has_id_lem.function.number (named_by p) id
  unfolding sent_by_id
  to_other id other = rw (ne_eqb id host_id other)

  to_host_lem : sent_by_id host_id (nodes_of t) (root t) k (named_by p) host_id ≡ sent_up (nodes_of t) (root t) (named_by p)
  unfolding sent_by_id
  to_host_lem = rw (eq-eqb host_id host_id refl)

  pub by_id_over : (id : ℕ) → GoesById p id → ¬ (id ≡ host_id) → (Has : ℕ → Type 0) (above_of : ℕ → List ℕ)
      → TellsIds host (nodes_of t) (id / 256) (id % 256) Has above_of
      → (depth most : ℕ) → ((n : Node) → n ∈ nodes_of t → length (above_of n.number) ≤ depth) → depth + depth ≤ most
      → RoutedFrom Has above_of most host_id t header p id k
  by_id_over id by other Has above_of tells depth most few twice =
      subst (RoutedFrom Has above_of most host_id t header p id) start.has_id_lem.number_is
      (routed_from Has above_of depth most host_id t header p id number (sent_to_other (nodes_of t) (root t) number (named_by p) id)
      (from_function_lem host_id header t p read passes number sends (Aimed (Id id)) (aim_by_id p id by)
      ∙ ap (λ (o : Sent). FromFunction number (answer p o)) (to_other id other))
      (subst (λ (r : ℕ). AnswersById Has above_of (RootLeads r (id / 256) (nodes_of t)) number (sent_to_other (nodes_of t) r number (named_by p) id))
      (sym root_first)
      (sent_answers rise tree distinct id (named_by p) (numbered_nodes (id % 256) t) Has above_of tells start.has_id_lem.function is_x sender))
      crosses
      (few start.has_id_lem.function is_x.in_sheet)
      (λ j has. let (n, h, is_j) = tells.of_has j has in rw is_j at (few n h.in_sheet)) twice)
    where
      number : ℕ
      number = start.has_id_lem.function.number

      crosses : (j : ℕ) → Has j → (us ds : List ℕ)
          → CrossesById t id (named_by p) us ds j
          ↔ ((us ≡ promise.crossed_up Has above_of (RootLeads (root t) (id / 256) (nodes_of t)) number j)
          × (ds ≡ reverse (promise.crossed_down Has above_of (RootLeads (root t) (id / 256) (nodes_of t)) number j)))
      crosses j has us ds =
          subst (λ (r : ℕ).
          CardTrail (tally_for (Id id) t) (up_unless (buses_hold (id / 256)) (nodes_of t) r) (named_by p / 256) us ds j
          ↔ ((us ≡ promise.crossed_up Has above_of (RootLeads (root t) (id / 256) (nodes_of t)) number j)
          × (ds ≡ reverse (promise.crossed_down Has above_of (RootLeads (root t) (id / 256) (nodes_of t)) number j))))
          (sym root_first)
          (sent_crosses rise tree distinct id (named_by p) (numbered_nodes (id % 256) t) Has above_of tells start.has_id_lem.function is_x sender
          j has us ds)

  -- up to the host, past this many bridges above the sender
  module _ (count : ℕ) (is : length (above host.first (nodes_of t) start.has_id_lem.function.bus) ≡ count) where
    leaves_up : sent_up (nodes_of t) (root t) (named_by p) ≡ leaves count
    leaves_up =
        ap (λ (r : ℕ). sent_up (nodes_of t) r (named_by p)) root_first
        ∙ sent_up_lem rise tree (named_by p) start.has_id_lem.function is_x.in_sheet is_x.bus_is
        ∙ ap leaves is

    headed : (h : Heading) → heading_of p ≡ h → both_ends_of host_id header t ≡ FromFunction k (on_heading host_id k (named_by p) p t h)
    headed h e = from_function_lem host_id header t p read passes k (sends ∙ ap Function start.has_id_lem.number_is) h e

    pub up_over : heading_of p ≡ Up → both_ends_of host_id header t ≡ FromFunction k (Host count p)
    up_over e = headed Up e ∙ ap (λ (o : Sent). FromFunction k (answer p o)) leaves_up

    pub host_id_over : GoesById p host_id → both_ends_of host_id header t ≡ FromFunction k (Host count p)
    host_id_over by =
        headed (Aimed (Id host_id)) (aim_by_id p host_id by)
        ∙ ap (λ (o : Sent). FromFunction k (answer p o)) (to_host_lem ∙ leaves_up)

-- ## Never 41

fate_number_lem : (r : Sending) → fate_number (fate_of r) ≡ sending_number r
fate_number_lem (CardDelivered d) = refl
fate_number_lem (CardHost bridges p) = refl
fate_number_lem (CardRefused n) = refl

-- over a sheet without an ID twice, from what is said of each kind of packet
module _ (host_id : ℕ) (header t : List ℕ) (passes : sheet_number t ≡ 0) (distinct : DistinctIds (nodes_of t))
    (from_the_host : (q : Packet) → read_of header ≡ Read q → ¬ (route_number header t ≡ 41))
    (requests : (q : Packet) → read_of header ≡ Read q → (k : ℕ) → IsType0 t k → (sp : Space) (address : ℕ) → IsCardRequest q sp address
    → ¬ (send_number k header t ≡ 41))
    (ids : (q : Packet) → read_of header ≡ Read q → (k : ℕ) → StartsAt host_id q t k → (id : ℕ) → GoesById q id → ¬ (id ≡ host_id)
    → ¬ (number_of (both_ends_of host_id header t) ≡ 41))
    (host_id_lem : (q : Packet) → read_of header ≡ Read q → (k : ℕ) → StartsAt host_id q t k → GoesById q host_id
    → number_of (both_ends_of host_id header t) ≡ 0)
    (up : (q : Packet) → read_of header ≡ Read q → (k : ℕ) → StartsAt host_id q t k → heading_of q ≡ Up
    → number_of (both_ends_of host_id header t) ≡ 0) where
  module _ (q : Packet) (read : read_of header ≡ Read q) (k : ℕ) (start : StartsAt host_id q t k) where
    goes_as : (h : Heading) → heading_of q ≡ h → both_ends_of host_id header t ≡ FromFunction k (on_heading host_id k (named_by q) q t h)
    goes_as h e = from_function_lem host_id header t q read passes k (function_sends host_id q t distinct k start) h e

    as_E11 : (sp : Space) (address : ℕ) → heading_of q ≡ Aimed (Address sp address)
        → both_ends_of host_id header t ≡ FromFunction k (fate_of (sending_of k header t))
    as_E11 sp address e =
        goes_as (Aimed (Address sp address)) e
        ∙ ap (λ (r : Sending). FromFunction k (fate_of r)) (sent_as_request host_id header t q read passes k)

    number_E11 : (sp : Space) (address : ℕ) → heading_of q ≡ Aimed (Address sp address)
        → number_of (both_ends_of host_id header t) ≡ send_number k header t
    number_E11 sp address e = ap number_of (as_E11 sp address e) ∙ fate_number_lem (sending_of k header t)

    request_not_41 : (sp : Space) (address : ℕ) → IsCardRequest q sp address → ¬ (number_of (both_ends_of host_id header t) ≡ 41)
    request_not_41 sp address is number =
        let sent : send_number k header t ≡ 41 = sym (number_E11 sp address (aim_by_address q sp address is)) ∙ number in
        no_type_0 sent (λ type_0. requests q read k type_0 sp address is sent)
      where
        no_type_0 : send_number k header t ≡ 41 → ¬ IsType0 t k → ⊥
        no_type_0 sent h = let e = ap sending_number (no_start_45 k header t q read passes h) in omega (arith, sent, e)

  by_id_not_41 : (q : Packet) → read_of header ≡ Read q → (k : ℕ) → StartsAt host_id q t k → (id : ℕ) → GoesById q id
      → ¬ (number_of (both_ends_of host_id header t) ≡ 41)
  by_id_not_41 q read k start id by = go (eqb id host_id) refl
    where
      go : (b : Bool) → eqb id host_id ≡ b → ¬ (number_of (both_ends_of host_id header t) ≡ 41)
      go true e n = let z = host_id_lem q read k start (subst (GoesById q) (eqb-true id host_id e) by) in omega (arith, n, z)
      go false e n = ids q read k start id by (eqb-false id host_id e) n

  other_not_41 : (q : Packet) → read_of header ≡ Read q → (k : ℕ) → StartsAt host_id q t k
      → ¬ (number_of (both_ends_of host_id header t) ≡ 41)
  other_not_41 (Memory kind h e a) read k start =
      request_not_41 (Memory kind h e a) read k start memory_space a (refl, refl)
  other_not_41 (Io kind h e a) read k start =
      request_not_41 (Io kind h e a) read k start io_space a (refl, refl)
  other_not_41 (Config kind h e c) read k start = absurd (true≢false start.not_hosts_own)
  other_not_41 (Completion kind h o) read k start = by_id_not_41 (Completion kind h o) read k start h.requester refl
  other_not_41 (Message kind h ToRoot code tail) read k start =
      λ n. let z = up (Message kind h ToRoot code tail) read k start refl in omega (arith, n, z)
  other_not_41 (Message kind h ByAddress code tail) read k start =
      let q = Message kind h ByAddress code tail in
      λ n. let sent = number_E11 q read k start memory_space tail refl in
      let e = ap sending_number (other_45 k header t q read passes refl) in omega (arith, n, sent, e)
  other_not_41 (Message kind h ById code tail) read k start =
      by_id_not_41 (Message kind h ById code tail) read k start (tail / 2 ^ 48) refl
  other_not_41 (Message kind h Broadcast code tail) read k start = absurd (true≢false start.not_hosts_own)
  other_not_41 (Message kind h Local code tail) read k start =
      λ n. let z = ap number_of (goes_as (Message kind h Local code tail) read k start ToPort refl) in omega (arith, n, z)
  other_not_41 (Message kind h Gathered code tail) read k start =
      λ n. let z = up (Message kind h Gathered code tail) read k start refl in omega (arith, n, z)

  pub not_41 : (q : Packet) → read_of header ≡ Read q → ¬ (number_of (both_ends_of host_id header t) ≡ 41)
  not_41 q read = go (some_sender host_id q t)
    where
      go : StartsAtHost host_id q t ⊎ ((k : ℕ) × StartsAt host_id q t k) → ¬ (number_of (both_ends_of host_id header t) ≡ 41)
      go (inl starts) n =
          from_the_host q read (sym (ap number_of (from_host_lem host_id header t q read passes (host_sends host_id q t starts))) ∙ n)
      go (inr (k, start)) n = other_not_41 q read k start n

-- ## A planned sheet

module _ (b room : List ℕ) (n : ℕ) (bytes : Bytes b) (answered : planning b (length room) ≡ Planned n) (t : List ℕ)
    (same : SameButCommands (take n (sheet_after b room)) t) where
  sheet : PlannedSheet (host_of b) (functions_of b) t
  sheet = planned_sheet_of_answer b room n bytes answered t same

  answers_planned : AnswersPlanned b n
  answers_planned = planned_of_answer b (length room) n answered

  fits : BoardFits (host_of b) (functions_of b)
  fits = fits_of_accepted b bytes answers_planned.accepted

  nodes_are : nodes (registers_of memory_space t) ≡ nodes_of t
  nodes_are = nodes_functions memory_space 1 (entries_of t)

  rise : BridgesRise (nodes_of t)
  rise = subst BridgesRise nodes_are (sheet.good memory_space).bridges_rise

  tree : Tree (plan_host memory_space (planned.host b)) (nodes_of t)
  tree = subst (Tree (plan_host memory_space (planned.host b))) nodes_are (sheet.good memory_space).tree

  distinct : DistinctIds (nodes_of t)
  distinct =
      subst DistinctIds (sym sheet.nodes_are)
      (planned_ids_lem (planned.host b) (planned.functions b) fits.board.lawful (devfn_of (functions_of b)) fits.siblings_rise)

  -- the bridges above, by bus numbers and by parent records
  numbers_above : (m : Node) → m ∈ nodes_of t
      → numbers_of (above (plan_host memory_space (planned.host b)).first (nodes_of t) m.bus) ≡ planned.bridges_above b m.number
  numbers_above m mm =
      let (f, mf, is) = nodes_elim (registers_of memory_space t) (subst (λ (ns : List Node). m ∈ ns) (sym nodes_are) mm) in
      let host = plan_host memory_space (planned.host b) in
      let agree : numbers_of (above host.first (nodes (registers_of memory_space t)) f.node.bus)
      ≡ planned.bridges_above b f.node.number =
      ap (λ (rs : List Registers). numbers_of (above host.first (nodes rs) f.node.bus)) (sheet.registers_are memory_space)
      ∙ above_agree (planned.host b) (planned.functions b) fits.board
      (kept_of_planned (planned.host b) (planned.functions b) answers_planned.not_refused).buses (devfn_of (functions_of b)) memory_space f
      (subst (λ (rs : List Registers). f ∈ rs) (sheet.registers_are memory_space) mf) in
      ap (λ (ns : List Node). numbers_of (above host.first ns m.bus)) (sym nodes_are)
      ∙ subst (λ (z : Node). numbers_of (above host.first (nodes (registers_of memory_space t)) z.bus) ≡ planned.bridges_above b z.number)
      is agree

  tells : (id : ℕ)
      → TellsIds (plan_host memory_space (planned.host b)) (nodes_of t) (id / 256) (id % 256) (planned_ids.HasId b id) (planned.bridges_above b)
  tells id =
      let delivers = sheet.delivers_by_id id in
      record {
        has_of = λ m h. ((delivers.delivered_exactly m.number _).0 (delivered_by_id rise tree distinct (id / 256) (id % 256) m h)).0;
        of_has = λ j has.
            let (m, h, is_j, count) =
            has_id_of_delivered rise tree distinct (id / 256) (id % 256) j _ ((delivers.delivered_exactly j _).1 (has, refl)) in
            (m, h, is_j);
        above_agree = numbers_above;
      }

  module _ (host_id : ℕ) (header : List ℕ) (p : Packet) (read : read_of header ≡ Read p) (k : ℕ) (start : StartsAt host_id p t k) where
    planned_by_id : (id : ℕ) → GoesById p id → ¬ (id ≡ host_id)
        → RoutedFrom (planned_ids.HasId b id) (planned.bridges_above b) 64 host_id t header p id k
    planned_by_id id by other =
        by_id_over t header p read sheet.passes (plan_host memory_space (planned.host b)) rise tree distinct host_id k start id by other
        (planned_ids.HasId b id) (planned.bridges_above b) (tells id) most_above 64 (λ m mm. sheet.not_too_deep m.number) (omega arith)

    count_above : length (above (plan_host memory_space (planned.host b)).first (nodes_of t) start.has_id_lem.function.bus)
        ≡ length (planned.bridges_above b k)
    count_above =
        let m = start.has_id_lem.function in
        sym (length-map (above (plan_host memory_space (planned.host b)).first (nodes_of t) m.bus) (λ (z : Node). z.number))
        ∙ ap length (numbers_above m start.has_id_lem.has_id_lem.in_sheet ∙ ap (planned.bridges_above b) start.has_id_lem.number_is)

    planned_up : heading_of p ≡ Up → both_ends_of host_id header t ≡ FromFunction k (Host (length (planned.bridges_above b k)) p)
    planned_up e =
        up_over t header p read sheet.passes (plan_host memory_space (planned.host b)) rise tree distinct host_id k start _ count_above e

    planned_host_id : GoesById p host_id → both_ends_of host_id header t ≡ FromFunction k (Host (length (planned.bridges_above b k)) p)
    planned_host_id by =
        host_id_over t header p read sheet.passes (plan_host memory_space (planned.host b)) rise tree distinct host_id k start _ count_above
        by

  planned_not_41 : (host_id : ℕ) (header : List ℕ) (p : Packet) → read_of header ≡ Read p
      → ¬ (number_of (both_ends_of host_id header t) ≡ 41)
  planned_not_41 host_id header =
      not_41 host_id header t sheet.passes distinct
      (λ q read. planned_never b room n bytes answered t same header q read)
      (λ q read k type_0 sp address is.
      (card_to_card.planned_routed b room n bytes answered t same header q read sp address is k type_0).never_contested)
      (λ q read k start id by other. (planned_by_id host_id header q read k start id by other).never_contested)
      (λ q read k start by. ap number_of (planned_host_id host_id header q read k start by))
      (λ q read k start e. ap number_of (planned_up host_id header q read k start e))

  planned_one : (host_id : ℕ) (header : List ℕ) (p : Packet) → read_of header ≡ Read p → OneOfEach host_id t header p
  planned_one host_id header p read =
      one_of_each host_id header t p read sheet.passes distinct (planned_not_41 host_id header p read)

-- ## A sheet with one owner for every address, which every accepted one is

module _ (host s : List ℕ) (bytes : Bytes s) (a : OneOwner host s) where
  kept_nodes : nodes (registers_of memory_space s) ≡ nodes_of s
  kept_nodes = nodes_functions memory_space 1 (entries_of s)

  rise_s : BridgesRise (nodes_of s)
  rise_s = (passes_of_zero s bytes a.passes).bridges_rise

  above_s : (m : Node) → m ∈ nodes_of s
      → numbers_of (above (host_for memory_space (host_of_part host)).first (nodes_of s) m.bus) ≡ audited.bridges_above host s m.number
  above_s m mm =
      let (f, mf, is) = nodes_elim (registers_of memory_space s) (subst (λ (ms : List Node). m ∈ ms) (sym kept_nodes) mm) in
      let first = (host_for memory_space (host_of_part host)).first in
      ap (λ (ms : List Node). numbers_of (above first ms m.bus)) (sym kept_nodes)
      ∙ subst (λ (z : Node). numbers_of (above first (nodes (registers_of memory_space s)) z.bus) ≡ audited.bridges_above host s z.number) is
      (audited_above host s bytes a memory_space f mf)

  count_s : (m : Node) → m ∈ nodes_of s
      → length (above (host_for memory_space (host_of_part host)).first (nodes_of s) m.bus)
      ≡ length (audited.bridges_above host s m.number)
  count_s m mm =
      sym (length-map (above (host_for memory_space (host_of_part host)).first (nodes_of s) m.bus) (λ (z : Node). z.number))
      ∙ ap length (above_s m mm)

  few_s : (m : Node) → m ∈ nodes_of s → length (audited.bridges_above host s m.number) ≤ 255
  few_s m mm =
      let first = (host_for memory_space (host_of_part host)).first in
      omega (
        arith,
        count_s m mm,
        above_at_most_255 (nodes_of s) rise_s first m.bus (above first (nodes_of s) m.bus)
            (above_is {host = host_for memory_space (host_of_part host)} rise_s (a.tree memory_space) m mm),
      )

  tells_s : (id : ℕ)
      → TellsIds (host_for memory_space (host_of_part host)) (nodes_of s) (id / 256) (id % 256) (HasIdOver s id) (audited.bridges_above host s)
  tells_s id =
      record {
        has_of = λ m h. record { function = m; has_id_lem = h; number_is = refl };
        of_has = λ j h. (h.function, h.has_id_lem, h.number_is);
        above_agree = above_s;
      }

  module _ (t : List ℕ) (same : SameButCommands s t) where
    nodes_kept : nodes_of s ≡ nodes_of t
    nodes_kept = sym (nodes_same same (checked_of_zero s a.passes).framed)

    back : {m : Node} → m ∈ nodes_of t → m ∈ nodes_of s
    back {m} mm = subst (λ (ms : List Node). m ∈ ms) (sym nodes_kept) mm

    module _ (host_id : ℕ) (header : List ℕ) (p : Packet) (read : read_of header ≡ Read p) (k : ℕ) (start : StartsAt host_id p t k) where
      owner_by_id : (id : ℕ) → GoesById p id → ¬ (id ≡ host_id)
          → RoutedFrom (HasIdOver s id) (audited.bridges_above host s) 510 host_id t header p id k
      owner_by_id id by other =
          by_id_over t header p read (number_same same ∙ a.passes) (host_for memory_space (host_of_part host))
          (subst BridgesRise nodes_kept rise_s) (subst (Tree (host_for memory_space (host_of_part host))) nodes_kept (a.tree memory_space))
          (subst DistinctIds nodes_kept (passes_of_zero s bytes a.passes).distinct_ids) host_id k start id by other (HasIdOver s id)
          (audited.bridges_above host s)
          (subst (λ (ms : List Node). TellsIds (host_for memory_space (host_of_part host)) ms (id / 256) (id % 256) (HasIdOver s id)
          (audited.bridges_above host s)) nodes_kept (tells_s id)) 255 510 (λ m mm. few_s m (back mm)) (omega arith)

      count_t : length (above (host_for memory_space (host_of_part host)).first (nodes_of t) start.has_id_lem.function.bus)
          ≡ length (audited.bridges_above host s k)
      count_t =
          let m = start.has_id_lem.function in
          ap (λ (ms : List Node). length (above (host_for memory_space (host_of_part host)).first ms m.bus)) (sym nodes_kept)
          ∙ count_s m (back start.has_id_lem.has_id_lem.in_sheet)
          ∙ ap (λ (j : ℕ). length (audited.bridges_above host s j)) start.has_id_lem.number_is

      owner_up : heading_of p ≡ Up → both_ends_of host_id header t ≡ FromFunction k (Host (length (audited.bridges_above host s k)) p)
      owner_up e =
          up_over t header p read (number_same same ∙ a.passes) (host_for memory_space (host_of_part host))
          (subst BridgesRise nodes_kept rise_s) (subst (Tree (host_for memory_space (host_of_part host))) nodes_kept (a.tree memory_space))
          (subst DistinctIds nodes_kept (passes_of_zero s bytes a.passes).distinct_ids) host_id k start _ count_t e

      owner_host_id : GoesById p host_id → both_ends_of host_id header t ≡ FromFunction k (Host (length (audited.bridges_above host s k)) p)
      owner_host_id by =
          host_id_over t header p read (number_same same ∙ a.passes) (host_for memory_space (host_of_part host))
          (subst BridgesRise nodes_kept rise_s) (subst (Tree (host_for memory_space (host_of_part host))) nodes_kept (a.tree memory_space))
          (subst DistinctIds nodes_kept (passes_of_zero s bytes a.passes).distinct_ids) host_id k start _ count_t by

    owner_not_41 : (host_id : ℕ) (header : List ℕ) (p : Packet) → read_of header ≡ Read p
        → ¬ (number_of (both_ends_of host_id header t) ≡ 41)
    owner_not_41 host_id header =
        not_41 host_id header t (number_same same ∙ a.passes)
        (subst DistinctIds nodes_kept (passes_of_zero s bytes a.passes).distinct_ids)
        (λ q read. owner_never host s bytes a t same header q read)
        (λ q read k type_0 sp address is.
        (card_to_card.sound_routed host s bytes a t same header q read sp address is k type_0).never_contested)
        (λ q read k start id by other. (owner_by_id host_id header q read k start id by other).never_contested)
        (λ q read k start by. ap number_of (owner_host_id host_id header q read k start by))
        (λ q read k start e. ap number_of (owner_up host_id header q read k start e))

    owner_one : (host_id : ℕ) (header : List ℕ) (p : Packet) → read_of header ≡ Read p → OneOfEach host_id t header p
    owner_one host_id header p read =
        one_of_each host_id header t p read (number_same same ∙ a.passes)
        (subst DistinctIds nodes_kept (passes_of_zero s bytes a.passes).distinct_ids) (owner_not_41 host_id header p read)

-- ## The request

as_request : (host_id : ℕ) (header t : List ℕ) (p : Packet) → read_of header ≡ Read p → sheet_number t ≡ 0 → Bytes t
    → (k : ℕ) → StartsAt host_id p t k → (sp : Space) (address : ℕ) → heading_of p ≡ Aimed (Address sp address)
    → both_ends_of host_id header t ≡ FromFunction k (fate_of (sending_of k header t))
as_request host_id header t p read passes bytes k start sp address e =
    from_function_lem host_id header t p read passes k
    (function_sends host_id p t (passes_of_zero t bytes passes).distinct_ids k start) (Aimed (Address sp address)) e
    ∙ ap (λ (r : Sending). FromFunction k (fate_of r)) (sent_as_request host_id header t p read passes k)

pub both_ends : BothEnds
both_ends =
    record {
      header_first = header_first;
      sheet_next = sheet_next;
      from_host_lem = λ host_id header t p read passes starts. from_host_lem host_id header t p read passes (host_sends host_id p t starts);
      from_function_lem = λ host_id header t p read passes bytes k start. (
        on_heading host_id k (named_by p) p t (heading_of p),
        from_function_lem host_id header t p read passes k
            (function_sends host_id p t (passes_of_zero t bytes passes).distinct_ids k start) (heading_of p) refl,
      );
      some_sender = some_sender;
      one_sender = λ host_id p t passes bytes j k x y.
          let distinct = (passes_of_zero t bytes passes).distinct_ids in
          let e = sym (function_sends host_id p t distinct j x) ∙ function_sends host_id p t distinct k y in cc;
      request_as_E11 = λ host_id header t p read passes bytes k start sp address is.
          as_request host_id header t p read passes bytes k start sp address (aim_by_address p sp address is);
      bridge_45 = λ host_id header t p read passes bytes k start sp address is no_type_0.
          as_request host_id header t p read passes bytes k start sp address (aim_by_address p sp address is)
          ∙ ap (λ (r : Sending). FromFunction k (fate_of r)) (no_start_45 k header t p read passes no_type_0);
      by_address_45 = λ host_id header t kind h code tail read passes bytes k start.
          as_request host_id header t (Message kind h ByAddress code tail) read passes bytes k start memory_space tail refl
          ∙ ap (λ (r : Sending). FromFunction k (fate_of r)) (other_45 k header t (Message kind h ByAddress code tail) read passes refl);
      ends_at_port = λ host_id header t p read passes bytes k start e.
          from_function_lem host_id header t p read passes k
          (function_sends host_id p t (passes_of_zero t bytes passes).distinct_ids k start) ToPort e;
      planned_by_id = λ b room n bytes answered t same host_id header p read k start id by other.
          planned_by_id b room n bytes answered t same host_id header p read k start id by other;
      accepted_by_id = λ host s bytes a t same host_id header p read k start id by other.
          owner_by_id host s bytes (one_owner_of_accepted host s a) t same host_id header p read k start id by other;
      sound_by_id = λ host s bytes a t same host_id header p read k start id by other.
          owner_by_id host s bytes a t same host_id header p read k start id by other;
      planned_host_id = λ b room n bytes answered t same host_id header p read k start by.
          planned_host_id b room n bytes answered t same host_id header p read k start by;
      accepted_host_id = λ host s bytes a t same host_id header p read k start by.
          owner_host_id host s bytes (one_owner_of_accepted host s a) t same host_id header p read k start by;
      sound_host_id = λ host s bytes a t same host_id header p read k start by.
          owner_host_id host s bytes a t same host_id header p read k start by;
      planned_up = λ b room n bytes answered t same host_id header p read k start e.
          planned_up b room n bytes answered t same host_id header p read k start e;
      accepted_up = λ host s bytes a t same host_id header p read k start e.
          owner_up host s bytes (one_owner_of_accepted host s a) t same host_id header p read k start e;
      sound_up = λ host s bytes a t same host_id header p read k start e.
          owner_up host s bytes a t same host_id header p read k start e;
      planned_one_of_each = λ b room n bytes answered t same host_id header p read.
          planned_one b room n bytes answered t same host_id header p read;
      accepted_one_of_each = λ host s bytes a t same host_id header p read.
          owner_one host s bytes (one_owner_of_accepted host s a) t same host_id header p read;
      sound_one_of_each = λ host s bytes a t same host_id header p read.
          owner_one host s bytes a t same host_id header p read;
    }
