-- A packet that goes by ID over the sheet of a planned board is delivered to the function with that ID, or refused with 40 or 42: from what
-- the walk comes to, which AuditLaws shows of accepted sheets. And so no accepted packet is contested there. Assumes nothing.
use Rattle.std.specs.Prelude.{◌≡◌, refl, ◌⊎◌, ◌↔◌, Bool, true, false, not, List, reverse, ℕ, ◌/◌, ◌^◌, ◌≤◌, ◌<◌, length, take, eqb}
use Rattle.std.proofs.Common.{sym, ap, ap₂, subst, ◌∙◌, inl, inr, ⊎_elim, true≢false, suc-ne-zero, arith, eqb-true, eq-eqb, ne_eqb}
use Rattle.std.proofs.lemmas.Bool.{eqb-false, not-true}
use Rattle.arith.specs.Order.{eq_or_ne}
use Rattle.arith.specs.BoolLaws.{true_or_false}
use Rattle.endian.specs.Endian.{Bytes}
use Rattle.pairs.specs.declared.ConfigKind.{ConfigKind}
use Rattle.pairs.specs.declared.ConfigKind.TheVariants.{CfgRd0, CfgWr0, CfgRd1, CfgWr1}
use Rattle.pairs.specs.declared.MessageRouting.{MessageRouting}
use Rattle.pairs.specs.declared.MessageRouting.TheVariants.{ToRoot, ByAddress, ById, Broadcast, Local, Gathered}
use Rattle.packet.specs.declared.Packet.{Packet}
use Rattle.packet.specs.declared.Packet.TheVariants.{Memory, Io, Config, Completion, Message}
use Rattle.tlp.specs.declared.Reading.TheVariants.{Accepted}
use Rattle.tlp.specs.Reading.{read_of}
use Rattle.walk.specs.Walk.{Outcome, delivered, refused, Trail}
use Rattle.records.specs.Limits.{most_above}
use Rattle.walk.proofs.WalkLaws.{trail_unique}
use Rattle.sheet.specs.Sheet.{sheet_number}
use Rattle.sheet.specs.Spaces.{nodes_of}
use Rattle.sheet.specs.Commands.{SameButCommands}
use Rattle.pools.specs.declared.Space.{Space}
use Rattle.pools.specs.declared.Space.TheVariants.{Memory as memory_space, Io as io_space}
use Rattle.plan_answer.specs.declared.Planning.TheVariants.{Planned}
use Rattle.plan_answer.specs.Plan.{planning, sheet_after}
use Rattle.plan_sheet.proofs.Answer.{planned_sheet_of_answer}
use Rattle.claims.specs.declared.Aim.TheVariants.{Id}
use Rattle.claims.specs.Claims.{tally_for}
use Rattle.route_arrival.specs.declared.Heading.TheVariants.{Aimed, Up, Every, Port}
use Rattle.route_arrival.specs.Arrival.{heading_of, kind_wrong, type_wrong, arrived}
use Rattle.route_answer.specs.declared.Delivery.{Delivery}
use Rattle.route_answer.specs.declared.Routing.TheVariants.{Delivered, Refused}
use Rattle.route_answer.specs.Routing.{number_of as routing_number, answer}
use Rattle.route.specs.Route.{walked, root, route_of}
use Rattle.route.proofs.OrderLaws.{route_no_functions, route_wrong_type, goes_by_aim, goes_up, goes_to_every, goes_to_port}
use Rattle.demands.specs.Demand3.{functions, IsRequest, bridges_above, route_number, DeliveredTo, Crosses}
use Rattle.demands.proofs.Demand3Laws.{demand_3}
use Rattle.demands.specs.ById.{GoesById, type_of, arrival, Misfits, WrongType, RoutedById, root_bus, HasId, PlannedById}

-- ## The packet

aim_by_id : (p : Packet) (id : ℕ) → GoesById p id → heading_of p ≡ Aimed (Id id)
aim_by_id (Memory k h e a) id by = absurd by
aim_by_id (Io k h e a) id by = absurd by
aim_by_id (Config k h e t) id by = rw by
aim_by_id (Completion k h o) id by = rw by
aim_by_id (Message k h ToRoot code tail) id by = absurd by
aim_by_id (Message k h ByAddress code tail) id by = absurd by
aim_by_id (Message k h ById code tail) id by = rw by
aim_by_id (Message k h Broadcast code tail) id by = absurd by
aim_by_id (Message k h Local code tail) id by = absurd by
aim_by_id (Message k h Gathered code tail) id by = absurd by

arrival_agree : (p : Packet) → arrived p ≡ arrival p
arrival_agree (Memory k h e a) = refl
arrival_agree (Io k h e a) = refl
arrival_agree (Config CfgRd0 h e t) = refl
arrival_agree (Config CfgWr0 h e t) = refl
arrival_agree (Config CfgRd1 h e t) = refl
arrival_agree (Config CfgWr1 h e t) = refl
arrival_agree (Completion k h o) = refl
arrival_agree (Message k h routing code tail) = refl

-- type 0 is wrong off the root bus, type 1 on it
wrong_by_type : (k : ConfigKind)
    → ((type_of k ≡ 0) × ((on : Bool) → kind_wrong k on ≡ not on)) ⊎ ((type_of k ≡ 1) × ((on : Bool) → kind_wrong k on ≡ on))
wrong_by_type CfgRd0 = inl (refl, λ on. refl)
wrong_by_type CfgWr0 = inl (refl, λ on. refl)
wrong_by_type CfgRd1 = inr (refl, λ on. refl)
wrong_by_type CfgWr1 = inr (refl, λ on. refl)

module _ (k : ConfigKind) (bus top : ℕ) where
  misfits_of_wrong : kind_wrong k (eqb bus top) ≡ true → Misfits k bus top
  misfits_of_wrong e =
      ⊎_elim (λ (is_0, wrong). inl (is_0, eqb-false bus top (not-true (eqb bus top) (sym (wrong (eqb bus top)) ∙ e))))
      (λ (is_1, wrong). inr (is_1, eqb-true bus top (sym (wrong (eqb bus top)) ∙ e)))
      (wrong_by_type k)

  wrong_of_misfits : Misfits k bus top → kind_wrong k (eqb bus top) ≡ true
  wrong_of_misfits = go (wrong_by_type k)
    where
      go : ((type_of k ≡ 0) × ((on : Bool) → kind_wrong k on ≡ not on)) ⊎ ((type_of k ≡ 1) × ((on : Bool) → kind_wrong k on ≡ on))
          → Misfits k bus top → kind_wrong k (eqb bus top) ≡ true
      go (inl (is_0, wrong)) (inl (_, off)) = wrong (eqb bus top) ∙ ap not (ne_eqb bus top off)
      go (inl (is_0, wrong)) (inr (is_1, _)) = absurd (omega arith)
      go (inr (is_1, wrong)) (inl (is_0, _)) = absurd (omega arith)
      go (inr (is_1, wrong)) (inr (_, on)) = wrong (eqb bus top) ∙ eq-eqb bus top on

-- the router's test of the type, where there are functions
wrong_type_of_test : (functions first : ℕ) (p : Packet) → 0 < functions → type_wrong first p ≡ true → WrongType functions first p
wrong_type_of_test functions first (Memory k h e a) some wrong = absurd (true≢false (sym wrong))
wrong_type_of_test functions first (Io k h e a) some wrong = absurd (true≢false (sym wrong))
wrong_type_of_test functions first (Config k h e t) some wrong = (some, misfits_of_wrong k (t.id / 256) first wrong)
wrong_type_of_test functions first (Completion k h o) some wrong = absurd (true≢false (sym wrong))
wrong_type_of_test functions first (Message k h routing code tail) some wrong = absurd (true≢false (sym wrong))

test_of_wrong_type : (functions first : ℕ) (p : Packet) → WrongType functions first p → (0 < functions) × (type_wrong first p ≡ true)
test_of_wrong_type functions first (Memory k h e a) wrong = absurd wrong
test_of_wrong_type functions first (Io k h e a) wrong = absurd wrong
test_of_wrong_type functions first (Config k h e t) (some, misfits) = (some, wrong_of_misfits k (t.id / 256) first misfits)
test_of_wrong_type functions first (Completion k h o) wrong = absurd wrong
test_of_wrong_type functions first (Message k h routing code tail) wrong = absurd wrong

-- ## From what the walk over a sheet comes to, what the router answers

-- what the walk over a sheet t of so many functions comes to from this root bus on
pub record ComesById (functions first : ℕ) (Has : ℕ → Type 0) (above : ℕ → List ℕ) (most : ℕ) (t : List ℕ) (id : ℕ) : Type 0 where
  pub passes : sheet_number t ≡ 0
  pub as_many : length (nodes_of t) ≡ functions
  pub root_is : 0 < functions → root t ≡ first
  pub delivered_exactly : (k count : ℕ) → (walked (Id id) t first 0 ≡ delivered k count) ↔ (Has k × (count ≡ length (above k)))
  pub else_no_owner : (walked (Id id) t first 0 ≡ refused 40) ↔ ((k : ℕ) → ¬ Has k)
  pub one_owner : (j k : ℕ) → Has j → Has k → j ≡ k
  pub crosses_above : (k : ℕ) → Has k → Trail (tally_for (Id id) t) first (reverse (above k)) k
  pub some_of : (k : ℕ) → Has k → 0 < functions
  pub few : (k : ℕ) → Has k → length (above k) ≤ most

module _ (functions first : ℕ) (Has : ℕ → Type 0) (above : ℕ → List ℕ) (most : ℕ) (t : List ℕ) (id : ℕ)
    (comes : ComesById functions first Has above most t id) (header : List ℕ) (p : Packet) (read : read_of header ≡ Accepted p)
    (by : GoesById p id) where
  abbrev Wrong : Type 0
  Wrong = WrongType functions first p

  -- the delivery to function k
  abbrev to : ℕ → Delivery
  to k = record { owner = k; bridges = length (above k); packet = arrival p }

  -- the three answers, each with what it comes from
  data Answered : Type 0 where
    wrong_type_lem : Wrong → route_of header t ≡ Refused 42 → Answered
    delivered_to : ¬ Wrong → (k : ℕ) → Has k → route_of header t ≡ Delivered (to k) → Answered
    no_owner_lem : ¬ Wrong → ((k : ℕ) → ¬ Has k) → route_of header t ≡ Refused 40 → Answered

  -- what the walk comes to, from the root bus
  abbrev outcome : Outcome
  outcome = walked (Id id) t first 0

  walk_answered : ¬ Wrong → route_of header t ≡ answer p outcome → Answered
  walk_answered right route_is = go outcome refl
    where
      go : (o : Outcome) → outcome ≡ o → Answered
      go (delivered k count) e =
          let (has, count_is) = (comes.delivered_exactly k count).0 e in
          let with : ℕ → Packet → Delivery = λ n q. record { owner = k; bridges = n; packet = q } in
          let same : with count (arrived p) ≡ to k = ap₂ with count_is (arrival_agree p) in
          delivered_to right k has (route_is ∙ ap (answer p) e ∙ ap Delivered same)
      go (refused m) e =
          let nobody : (k : ℕ) → ¬ Has k =
          λ k has. let d = (comes.delivered_exactly k (length (above k))).1 (has, refl) in suc-ne-zero 0 (cc) in
          no_owner_lem right nobody (route_is ∙ ap (answer p) (comes.else_no_owner.1 nobody))

  answered_over : 0 < functions → Answered
  answered_over some = ⊎_elim wrong right (true_or_false (type_wrong (root t) p))
    where
      filled : ¬ (length (nodes_of t) ≡ 0)
      filled none = omega (arith, comes.as_many)

      top : root t ≡ first
      top = comes.root_is some

      wrong : type_wrong (root t) p ≡ true → Answered
      wrong e =
          wrong_type_lem (wrong_type_of_test functions first p some (subst (λ (r : ℕ). type_wrong r p ≡ true) top e))
          (route_wrong_type header t p read comes.passes filled e)

      right : type_wrong (root t) p ≡ false → Answered
      right e =
          walk_answered
          (λ w. true≢false (sym (test_of_wrong_type functions first p w).1 ∙ ap (λ (r : ℕ). type_wrong r p) (sym top) ∙ e))
          (goes_by_aim header t p read comes.passes filled (Id id) (aim_by_id p id by) e
          ∙ ap (λ (r : ℕ). answer p (walked (Id id) t r 0)) top)

  nobody_of_none : functions ≡ 0 → ¬ Wrong × ((k : ℕ) → ¬ Has k)
  nobody_of_none e = (
    λ w. omega (arith, (test_of_wrong_type functions first p w).0),
    λ k has. omega (arith, comes.some_of k has),
  )

  answered : Answered
  answered = ⊎_elim none (λ e. answered_over (omega arith)) (eq_or_ne functions 0)
    where
      none : functions ≡ 0 → Answered
      none e =
          let (right, nobody) = nobody_of_none e in
          no_owner_lem right nobody (route_no_functions header t p read comes.passes (comes.as_many ∙ e))

  wrong_of_42 : Answered → route_number header t ≡ 42 → Wrong
  wrong_of_42 (wrong_type_lem w e) number = w
  wrong_of_42 (delivered_to r k has e) number = absurd (omega (arith, ap routing_number e))
  wrong_of_42 (no_owner_lem r nobody e) number = absurd (omega (arith, ap routing_number e))

  number_of_wrong : Answered → Wrong → route_number header t ≡ 42
  number_of_wrong (wrong_type_lem w e) wrong = ap routing_number e
  number_of_wrong (delivered_to r k has e) wrong = absurd (r wrong)
  number_of_wrong (no_owner_lem r nobody e) wrong = absurd (r wrong)

  nobody_of_40 : Answered → route_number header t ≡ 40 → ¬ Wrong × ((k : ℕ) → ¬ Has k)
  nobody_of_40 (wrong_type_lem w e) number = absurd (omega (arith, ap routing_number e))
  nobody_of_40 (delivered_to r k has e) number = absurd (omega (arith, ap routing_number e))
  nobody_of_40 (no_owner_lem r nobody e) number = (r, nobody)

  number_of_nobody : Answered → ¬ Wrong × ((k : ℕ) → ¬ Has k) → route_number header t ≡ 40
  number_of_nobody (wrong_type_lem w e) (r, nobody) = absurd (r w)
  number_of_nobody (delivered_to r k has e) (_, nobody) = absurd (nobody k has)
  number_of_nobody (no_owner_lem r nobody e) right = ap routing_number e

  -- what a delivery says
  record Arrived (d : Delivery) : Type 0 where
    right_type : ¬ Wrong
    has_id_lem : Has d.owner
    count_is : d.bridges ≡ length (above d.owner)
    packet_is : d.packet ≡ arrival p

  arrived_of : Answered → (d : Delivery) → route_of header t ≡ Delivered d → Arrived d
  arrived_of (wrong_type_lem w e) d f = absurd (suc-ne-zero 0 (cc))
  arrived_of (delivered_to r k has e) d f =
      let same : to k ≡ d = cc in
      subst Arrived same (record { right_type = r; has_id_lem = has; count_is = refl; packet_is = refl })
  arrived_of (no_owner_lem r nobody e) d f = absurd (suc-ne-zero 0 (cc))

  delivered_of : Answered → (k : ℕ) → ¬ Wrong × Has k → DeliveredTo header t k
  delivered_of (wrong_type_lem w e) k (r, has) = absurd (r w)
  delivered_of (delivered_to _ j has_j e) k (r, has) = (to j, e, comes.one_owner j k has_j has)
  delivered_of (no_owner_lem _ nobody e) k (r, has) = absurd (nobody k has)

  one_of_three : Answered → ((k : ℕ) × DeliveredTo header t k) ⊎ ((route_number header t ≡ 40) ⊎ (route_number header t ≡ 42))
  one_of_three (wrong_type_lem w e) = inr (inr (ap routing_number e))
  one_of_three (delivered_to r k has e) = inl (k, (to k, e, refl))
  one_of_three (no_owner_lem r nobody e) = inr (inl (ap routing_number e))

  crosses : (k : ℕ) → Has k → Crosses (Id id) t (reverse (above k)) k
  crosses k has = rw (comes.root_is (comes.some_of k has)) (comes.crosses_above k has)

  pub routed_by_id : RoutedById functions first Has above most t header p id
  routed_by_id =
      record {
        no_functions_40 = λ none. number_of_nobody answered (nobody_of_none none);
        wrong_type_42 = (wrong_of_42 answered, number_of_wrong answered);
        delivered_exactly = λ k. (
          λ (d, e, is_k). let a = arrived_of answered d e in (a.right_type, subst Has is_k a.has_id_lem),
          delivered_of answered k,
        );
        else_no_owner = (nobody_of_40 answered, number_of_nobody answered);
        delivered_40_or_42 = one_of_three answered;
        one_owner = comes.one_owner;
        arrives = λ d e. (arrived_of answered d e).packet_is;
        crosses_exactly =
            λ d e bridges.
            let way = crosses d.owner (arrived_of answered d e).has_id_lem in
            (λ trail. (trail_unique _ _ _ _ _ _ trail way).0, λ those. rw those way);
        count_reported =
            λ d e.
            let a = arrived_of answered d e in
            let c = a.count_is in
            (c, omega (arith, c, comes.few d.owner a.has_id_lem));
      }

-- ## Over a planned sheet

-- over the sheet that the planner left, as planned or with its command words rewritten
pub by_id_routed : (b room : List ℕ) (n : ℕ) → Bytes b → planning b (length room) ≡ Planned n
    → (t : List ℕ) → SameButCommands (take n (sheet_after b room)) t
    → (header : List ℕ) (p : Packet) → read_of header ≡ Accepted p
    → (id : ℕ) → GoesById p id → PlannedById b t header p id
by_id_routed b room n bytes planned t same header p read id by =
    let sheet = planned_sheet_of_answer b room n bytes planned t same in
    let delivers = sheet.delivers_by_id id in
    let comes : ComesById (length (functions b)) (root_bus b) (HasId b id) (bridges_above b) most_above t id =
    record {
      passes = sheet.passes;
      as_many = sheet.as_many;
      root_is = sheet.root_is;
      delivered_exactly = delivers.delivered_exactly;
      else_no_owner = delivers.else_no_owner;
      one_owner = delivers.one_owner;
      crosses_above = delivers.crosses_above;
      some_of = λ k has. omega (arith, has.from_1, has.in_list);
      few = λ k has. sheet.not_too_deep k;
    } in
    routed_by_id (length (functions b)) (root_bus b) (HasId b id) (bridges_above b) most_above t id comes header p read by

-- ## 41

-- delivered or refused with 40, and by ID also 42
abbrev pub Settled : List ℕ → List ℕ → Type 0
Settled header t = ((k : ℕ) × DeliveredTo header t k) ⊎ (route_number header t ≡ 40)

abbrev pub SettledById : List ℕ → List ℕ → Type 0
SettledById header t = ((k : ℕ) × DeliveredTo header t k) ⊎ ((route_number header t ≡ 40) ⊎ (route_number header t ≡ 42))

not_41_of_settled : (header t : List ℕ) → Settled header t → ¬ (route_number header t ≡ 41)
not_41_of_settled header t (inl (k, (d, e, is_k))) number = omega (arith, ap routing_number e)
not_41_of_settled header t (inr e) number = omega arith

not_41_by_id : (header t : List ℕ) → SettledById header t → ¬ (route_number header t ≡ 41)
not_41_by_id header t (inl d) number = not_41_of_settled header t (inl d) number
not_41_by_id header t (inr (inl e)) number = omega arith
not_41_by_id header t (inr (inr e)) number = omega arith

-- a message that goes nowhere by address or ID: 40 where there are no functions, else what is said of its routing
not_41_else : (header t : List ℕ) (p : Packet) → read_of header ≡ Accepted p → sheet_number t ≡ 0
    → (¬ (length (nodes_of t) ≡ 0) → ¬ (route_number header t ≡ 41)) → ¬ (route_number header t ≡ 41)
not_41_else header t p read passes some = ⊎_elim none some (eq_or_ne (length (nodes_of t)) 0)
  where
    none : length (nodes_of t) ≡ 0 → ¬ (route_number header t ≡ 41)
    none empty number = omega (arith, ap routing_number (route_no_functions header t p read passes empty))

-- no accepted packet is contested where requests are delivered or refused with 40, and packets by ID one of the three
module _ (header t : List ℕ) (passes : sheet_number t ≡ 0)
    (requests : (q : Packet) → read_of header ≡ Accepted q → (sp : Space) (address : ℕ) → IsRequest q sp address → Settled header t)
    (ids : (q : Packet) → read_of header ≡ Accepted q → (id : ℕ) → GoesById q id → SettledById header t) where
  request : (q : Packet) → read_of header ≡ Accepted q → (sp : Space) (address : ℕ) → IsRequest q sp address
      → ¬ (route_number header t ≡ 41)
  request q r sp address is = not_41_of_settled header t (requests q r sp address is)

  by_id_lem : (q : Packet) → read_of header ≡ Accepted q → (id : ℕ) → GoesById q id → ¬ (route_number header t ≡ 41)
  by_id_lem q r id by = not_41_by_id header t (ids q r id by)

  up : (q : Packet) → read_of header ≡ Accepted q → heading_of q ≡ Up → ¬ (route_number header t ≡ 41)
  up q r e =
      not_41_else header t q r passes (λ some number. omega (arith, ap routing_number (goes_up header t q r passes some e)))

  pub not_41 : (q : Packet) → read_of header ≡ Accepted q → ¬ (route_number header t ≡ 41)
  not_41 (Memory k h e a) r = request (Memory k h e a) r memory_space a (refl, refl)
  not_41 (Io k h e a) r = request (Io k h e a) r io_space a (refl, refl)
  not_41 (Config k h e c) r = by_id_lem (Config k h e c) r c.id refl
  not_41 (Completion k h o) r = by_id_lem (Completion k h o) r h.requester refl
  not_41 (Message k h ToRoot code tail) r = up (Message k h ToRoot code tail) r refl
  not_41 (Message k h ByAddress code tail) r = request (Message k h ByAddress code tail) r memory_space tail (refl, refl)
  not_41 (Message k h ById code tail) r = by_id_lem (Message k h ById code tail) r (tail / 2 ^ 48) refl
  not_41 (Message k h Broadcast code tail) r =
      let q = Message k h Broadcast code tail in
      not_41_else header t q r passes (λ some number. omega (arith, ap routing_number (goes_to_every header t q r passes some refl)))
  not_41 (Message k h Local code tail) r =
      let q = Message k h Local code tail in
      not_41_else header t q r passes (λ some number. omega (arith, ap routing_number (goes_to_port header t q r passes some refl)))
  not_41 (Message k h Gathered code tail) r = up (Message k h Gathered code tail) r refl

-- no accepted packet is contested over a planned sheet
pub never_contested : (b room : List ℕ) (n : ℕ) → Bytes b → planning b (length room) ≡ Planned n
    → (t : List ℕ) → SameButCommands (take n (sheet_after b room)) t
    → (header : List ℕ) (p : Packet) → read_of header ≡ Accepted p → ¬ (route_number header t ≡ 41)
never_contested b room n bytes planned t same header =
    not_41 header t (planned_sheet_of_answer b room n bytes planned t same).passes
    (λ q r sp address is. (demand_3.requests_routed b room n bytes planned t same header q r sp address is).delivered_or_40)
    (λ q r id by. (by_id_routed b room n bytes planned t same header q r id by).delivered_40_or_42)
