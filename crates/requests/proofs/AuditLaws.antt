-- Document 02, E6, is proved: the audit's number from its tests, delivery by address from the good sheet and by ID from its tree, and
-- planned sheets from the planner's theorems. Assumes nothing.
use Rattle.std.specs.Prelude.{◌≡◌, refl, ◌⊎◌, Bool, true, false, cond, List, [], ◌∷◌, ◌++◌, map, reverse, ℕ, suc, pred, ◌+◌, ◌-◌, ◌/◌, ◌%◌, ◌≤◌, ◌<◌, length, get_or, take, drop}
use Rattle.std.proofs.Common.{sym, ap, ap₂, subst, subst₂, ◌∙◌, inl, inr, suc-ne-zero, arith, length-drop, length-take-le}
use mathlib.Core.List.Memᴰ
use Rattle.std.proofs.lemmas.List.{length-map}
use Rattle.endian.specs.Endian.{Bytes}
use Rattle.packet.specs.declared.Packet.{Packet}
use Rattle.tlp.specs.declared.Reading.TheVariants.{Accepted as Read}
use Rattle.tlp.specs.Reading.{read_of}
use Rattle.lists.specs.Lists.{◌∈◌, All, keep}
use Rattle.lists.specs.ListLaws.{all_elim, all_intro, all_map_intro}
use Rattle.pools.specs.declared.Pool.TheVariants.{Low, High, Io}
use Rattle.pools.specs.declared.Space.{Space}
use Rattle.pools.specs.declared.Space.TheVariants.{Memory, Io as Ports}
use Rattle.records.specs.RecordsLaws.{fits_at}
use Rattle.board_record.specs.declared.Host.{Host}
use Rattle.board_record.specs.Host as hosts
use Rattle.board_record.specs.Host.{host_of_part, host_length, host_at}
use Rattle.board.specs.Board.{host_of}
use Rattle.board.proofs.BoardLaws.{accepted_of_zero}
use Rattle.board.specs.ToPlacing.{to_host}
use Rattle.walk.specs.Ranges as ranges
use Rattle.walk.specs.Ranges.{Range}
use Rattle.walk.specs.Registers.{Node, Registers, nodes, root_of}
use Rattle.walk.proofs.RegistersLaws.{node_mem}
use Rattle.walk.specs.Tally.{tally_on}
use Rattle.walk.specs.Walk.{Outcome, delivered, refused, walk_from, Trail}
use Rattle.walk.specs.Above.{above}
use Rattle.walk.proofs.AboveLaws.{above_is, above_at_most_255}
use Rattle.walk.specs.Good.{Host as WalkHost, BridgesRise, Tree, NestedBy, Disjoint, Good, Sound}
use Rattle.walk.proofs.Reach.{numbers_of}
use Rattle.walk.proofs.Delivery as walking
use Rattle.walk.proofs.Delivery.{outcome_of, Delivers, sound_delivers, owner_of_delivered, delivered_of_owner, outcome_from_first}
use Rattle.walk.proofs.Delivery.{root_is_first, holder_unique}
use Rattle.walk.specs.Ids.{tally_by_id, DistinctIds}
use Rattle.walk.proofs.IdsDelivery.{delivered_by_id, crosses_by_id, has_id_of_delivered, nobody_by_id}
use Rattle.sheet_record.specs.Entry.{Entry}
use Rattle.sheet_record.specs.Spaces.{node_of}
use Rattle.sheet.specs.Sheet.{Framed, entries_of}
use Rattle.sheet.specs.Spaces.{registers_of, nodes_of, nodes_from, enabled_of}
use Rattle.sheet.proofs.SheetLaws.{checked_of_zero, passes_of_zero, nodes_functions}
use Rattle.sheet.specs.Commands.{SameButCommands}
use Rattle.sheet.proofs.CommandsLaws.{registers_same, nodes_same, number_same}
use Rattle.plan_good.specs.Registers.{pool_range, plan_host}
use Rattle.plan_answer.specs.declared.Planning.TheVariants.{Planned}
use Rattle.plan_answer.specs.Plan.{planning, sheet_after}
use Rattle.plan_sheet.proofs.Answer.{planned_of_answer, planned_sheet_of_answer}
use Rattle.claims.specs.declared.Aim.TheVariants.{Address, Id}
use Rattle.claims.specs.Claims.{tally_for}
use Rattle.route.specs.Route.{root}
use Rattle.audit_rule.specs.Host.{host_for}
use Rattle.audit_rule.specs.declared.Nesting.{Nesting}
use Rattle.audit_rule.specs.declared.Nesting.TheVariants.{OfKind}
use Rattle.audit_rule.specs.Accepted.{Lies, AcceptedBy, Accepted, OneOwner}
use Rattle.audit_rule.proofs.AcceptedLaws.{one_owner_of_accepted, sound_of_one_owner}
use Rattle.audit_rule.proofs.AuditLaws.{audit_iff, audited_by_number}
use Rattle.demands.specs.Demand3.{IsRequest, route_number, Routed}
use Rattle.demands.specs.ById.{GoesById, RoutedById}
use Rattle.demands.proofs.ByIdLaws.{ComesById, routed_by_id, not_41}
use Rattle.requests.specs.Audit.{bus_of, bridges_above, HasBarOver, Owns, HasIdOver, most_in_row, host_record, Audits}
use Rattle.demands.proofs.RoutedLaws.{trail_from_root, Comes, routed}

-- ## Command words rewritten

pub stays_accepted : (n : Nesting) (host s : List ℕ) → AcceptedBy n host s → (t : List ℕ) → SameButCommands s t → AcceptedBy n host t
stays_accepted n host s a t same =
    let framed = (checked_of_zero s a.passes).framed in
    record {
      host_size = a.host_size;
      host_edges = a.host_edges;
      passes = number_same same ∙ a.passes;
      tree = λ sp. subst (Tree (host_for sp (host_of_part host))) (sym (nodes_same same framed)) (a.tree sp);
      nested = λ sp. subst (NestedBy (Lies n) (host_for sp (host_of_part host))) (sym (registers_same same framed sp)) (a.nested sp);
      disjoint = λ sp. subst Disjoint (sym (registers_same same framed sp)) (a.disjoint sp);
    }

-- ## Delivery

-- a node's bus is that of the record with its number
bus_from : (k : ℕ) (es : List Entry) (n : Node) → n ∈ nodes_from k es
    → (k ≤ n.number) × (get_or (map (λ (m : Node). m.bus) (nodes_from k es)) (n.number - k) 0 ≡ n.bus)
unfolding nodes_from
bus_from k [] n m = absurd (Memᴰ.not-nil m)
bus_from k (e ∷ es) n m = go (Memᴰ.cases_cons m) (λ r. bus_from (k + 1) es n r)
  where
    go : (n ≡ node_of k e) ⊎ (n ∈ nodes_from (k + 1) es)
        → (n ∈ nodes_from (k + 1) es
        → (k + 1 ≤ n.number) × (get_or (map (λ (m : Node). m.bus) (nodes_from (k + 1) es)) (n.number - (k + 1)) 0 ≡ n.bus))
        → (k ≤ n.number) × (get_or ((node_of k e).bus ∷ map (λ (m : Node). m.bus) (nodes_from (k + 1) es)) (n.number - k) 0 ≡ n.bus)
    go (inl same) later =
        let i : n.number - k ≡ 0 = omega (arith, ap (λ (x : Node). x.number) same) in
        (omega (arith, ap (λ (x : Node). x.number) same), rw i (sym (ap (λ (x : Node). x.bus) same)))
    go (inr r) later =
        let (le, at) = later r in
        let i : n.number - k ≡ suc (n.number - (k + 1)) = omega (arith, le) in
        (omega (arith, le), rw i at)

bus_of_node : (s : List ℕ) (n : Node) → n ∈ nodes_of s → bus_of s n.number ≡ n.bus
bus_of_node s n m =
    let (le, at) = bus_from 1 (entries_of s) n m in
    let i : pred n.number ≡ n.number - 1 = omega (arith, le) in
    rw i at

module _ (host s : List ℕ) (bytes : Bytes s) (a : OneOwner host s) (sp : Space) where
  abbrev walk_host : WalkHost
  walk_host = host_for sp (host_of_part host)

  abbrev fs : List Registers
  fs = registers_of sp s

  sound : Sound walk_host fs
  sound = sound_of_one_owner host s bytes a sp

  nodes_are : nodes fs ≡ nodes_of s
  nodes_are = nodes_functions sp 1 (entries_of s)

  -- the bridges above, by number
  pub above_agree : (f : Registers) → f ∈ fs → numbers_of (walking.bridges_above walk_host fs f) ≡ bridges_above host s f.node.number
  above_agree f m =
      let here : f.node ∈ nodes_of s = subst (λ (ns : List Node). f.node ∈ ns) nodes_are (node_mem m) in
      ap₂ (λ (ns : List Node) (bus : ℕ). numbers_of (above walk_host.first ns bus)) nodes_are (sym (bus_of_node s f.node here))

  count_agree : (f : Registers) → f ∈ fs
      → length (walking.bridges_above walk_host fs f) ≡ length (bridges_above host s f.node.number)
  count_agree f m = sym (length-map (walking.bridges_above walk_host fs f) (λ (b : Node). b.number)) ∙ ap length (above_agree f m)

  pub holder_is : (address j k : ℕ) → HasBarOver s sp address j → HasBarOver s sp address k → j ≡ k
  holder_is address j k x y =
      let same = holder_unique sound ((passes_of_zero s bytes a.passes).numbered sp) address x.function y.function
      x.in_sheet y.in_sheet x.bar_holds_lem y.bar_holds_lem in
      sym x.number_is ∙ ap (λ (f : Registers). f.node.number) same ∙ y.number_is

  -- over the sheet with these command words
  module _ (t : List ℕ) (same : SameButCommands s t) (address : ℕ) where
    abbrev enabled : ℕ → Bool
    enabled = enabled_of sp t

    framed : Framed 1 s
    framed = (checked_of_zero s a.passes).framed

    registers_are : registers_of sp t ≡ fs
    registers_are = registers_same same framed sp

    nodes_same_as : nodes_of t ≡ nodes fs
    nodes_same_as = nodes_same same framed ∙ sym nodes_are

    delivers : Delivers walk_host enabled fs address
    delivers = sound_delivers sound ((passes_of_zero s bytes a.passes).numbered sp) enabled address

    owns_by_value : (f : Registers) → walking.Owns walk_host enabled fs address f → Owns host s t sp address f.node.number
    owns_by_value f o =
        let bs = walking.bridges_above walk_host fs f in
        record {
          has_bar = record { function = f; in_sheet = o.in_sheet; number_is = refl; bar_holds_lem = o.bar_holds_lem };
          is_enabled = o.is_enabled;
          bridges_enabled =
              subst (All (λ b. enabled b ≡ true)) (above_agree f o.in_sheet)
              (all_map_intro _ (λ (b : Node). b.number) bs (λ b n. all_elim _ bs o.bridges_enabled n));
        }

    owner_by_value : (k : ℕ) → Owns host s t sp address k
        → (f : Registers) × walking.Owns walk_host enabled fs address f × (f.node.number ≡ k)
    owner_by_value k o =
        let x = o.has_bar in
        let f = x.function in
        let bs = walking.bridges_above walk_host fs f in
        let numbers : bridges_above host s k ≡ numbers_of bs =
        ap (bridges_above host s) (sym x.number_is) ∙ sym (above_agree f x.in_sheet) in
        let on : All (λ b. enabled b ≡ true) (numbers_of bs) = subst (All (λ b. enabled b ≡ true)) numbers o.bridges_enabled in (
          f,
          record {
            in_sheet = x.in_sheet;
            bar_holds_lem = x.bar_holds_lem;
            is_enabled = rw x.number_is o.is_enabled;
            bridges_enabled = all_intro _ bs (λ b n. all_elim _ (numbers_of bs) on (Memᴰ.map (λ (c : Node). c.number) n));
          },
          x.number_is,
        )

    -- the router's walk is the one that these are said of
    outcome_is : walk_from (tally_for (Address sp address) t) (root t) 0 ≡ outcome_of walk_host enabled fs address
    outcome_is =
        ap₂ (λ (rs : List Registers) (ns : List Node). walk_from (tally_on enabled rs address) (root_of ns) 0) registers_are nodes_same_as
        ∙ outcome_from_first fs sound.tree enabled address

    reached : (k : ℕ) → Owns host s t sp address k → outcome_of walk_host enabled fs address ≡ delivered k (length (bridges_above host s k))
    reached k o =
        let (f, owns, is) = owner_by_value k o in
        delivered_of_owner sound enabled address f owns
        ∙ ap₂ delivered is (count_agree f owns.in_sheet ∙ ap (λ (n : ℕ). length (bridges_above host s n)) is)

    comes : Comes (Owns host s t sp address) (bridges_above host s) most_in_row t sp address
    comes =
        record {
          delivered_exactly = λ k count. (to k count, λ (o, e). outcome_is ∙ reached k o ∙ ap (delivered k) (sym e));
          else_no_owner = (
            nobody,
            λ none. outcome_is ∙ delivers.else_no_owner (λ f o. none f.node.number (owns_by_value f o)),
          );
          one_owner = λ j k o p. let x = reached j o in let y = reached k p in cc;
          crosses = crosses;
          few = few;
        }
      where
        to : (k count : ℕ) → walk_from (tally_for (Address sp address) t) (root t) 0 ≡ delivered k count
            → Owns host s t sp address k × (count ≡ length (bridges_above host s k))
        to k count e =
            let (f, owns, is, counted) = owner_of_delivered sound enabled address k count (sym outcome_is ∙ e) in (
              subst (Owns host s t sp address) is (owns_by_value f owns),
              counted ∙ count_agree f owns.in_sheet ∙ ap (λ (n : ℕ). length (bridges_above host s n)) is,
            )

        nobody : walk_from (tally_for (Address sp address) t) (root t) 0 ≡ refused 40 → (k : ℕ) → Owns host s t sp address k → ⊥
        nobody e k o = let d = sym outcome_is ∙ e in let r = reached k o in let z : ◌≡◌ {A = ℕ} 0 1 = cc in omega arith

        crosses : (k : ℕ) → Owns host s t sp address k
            → Trail (tally_for (Address sp address) t) (root t) (reverse (bridges_above host s k)) k
        crosses k o =
            let (f, owns, is) = owner_by_value k o in
            let numbers = above_agree f owns.in_sheet ∙ ap (bridges_above host s) is in
            let by_walk =
            subst₂ (λ (ns : List ℕ) (n : ℕ). Trail (tally_on enabled fs address) walk_host.first (reverse ns) n) numbers is
            (delivers.crosses_exactly f owns) in
            subst₂ (λ (rs : List Registers) (ns : List Node). Trail (tally_on enabled rs address) (root_of ns)
            (reverse (bridges_above host s k)) k) (sym registers_are) (sym nodes_same_as)
            (trail_from_root enabled address walk_host.first fs sound.tree.first_on_root (reverse (bridges_above host s k)) k by_walk)

        few : (k : ℕ) → Owns host s t sp address k → length (bridges_above host s k) ≤ most_in_row
        few k o =
            let (f, owns, is) = owner_by_value k o in
            let count = count_agree f owns.in_sheet ∙ ap (λ (n : ℕ). length (bridges_above host s n)) is in
            omega (arith, delivers.at_most_255 f owns.in_sheet, count)

-- ## By ID

module _ (host s : List ℕ) (bytes : Bytes s) (a : OneOwner host s) (t : List ℕ) (same : SameButCommands s t) (id : ℕ) where
  abbrev first : ℕ
  first = (host_of_part host).first_bus

  -- the tree of buses is one in both spaces
  abbrev bus_host : WalkHost
  bus_host = host_for Memory (host_of_part host)

  abbrev ns : List Node
  ns = nodes_of s

  rise : BridgesRise ns
  rise = (passes_of_zero s bytes a.passes).bridges_rise

  distinct : DistinctIds ns
  distinct = (passes_of_zero s bytes a.passes).distinct_ids

  nodes_kept : nodes_of t ≡ ns
  nodes_kept = nodes_same same (checked_of_zero s a.passes).framed

  numbers_above : (n : Node) → n ∈ ns → numbers_of (above first ns n.bus) ≡ bridges_above host s n.number
  numbers_above n m = ap (λ (bus : ℕ). numbers_of (above first ns bus)) (sym (bus_of_node s n m))

  count_above : (n : Node) → n ∈ ns → length (above first ns n.bus) ≡ length (bridges_above host s n.number)
  count_above n m = sym (length-map (above first ns n.bus) (λ (b : Node). b.number)) ∙ ap length (numbers_above n m)

  abbrev walk : Outcome
  walk = walk_from (tally_by_id ns (id / 256) (id % 256)) first 0

  -- the router's walk is the one that these are said of
  walk_is : walk_from (tally_for (Id id) t) first 0 ≡ walk
  walk_is = ap (λ (ms : List Node). walk_from (tally_by_id ms (id / 256) (id % 256)) first 0) nodes_kept

  comes_to_lem : (k : ℕ) → HasIdOver s id k → walk ≡ delivered k (length (bridges_above host s k))
  comes_to_lem k x =
      let n = x.function in
      delivered_by_id rise (a.tree Memory) distinct (id / 256) (id % 256) n x.has_id_lem
      ∙ ap₂ delivered x.number_is
      (count_above n x.has_id_lem.in_sheet ∙ ap (λ (j : ℕ). length (bridges_above host s j)) x.number_is)

  comes_by_id : ComesById (length ns) first (HasIdOver s id) (bridges_above host s) most_in_row t id
  comes_by_id =
      record {
        passes = number_same same ∙ a.passes;
        as_many = ap length nodes_kept;
        root_is = λ some. ap root_of nodes_kept ∙ root_is_first first ns (a.tree Memory).first_on_root some;
        delivered_exactly = λ k count. (to k count, λ (x, e). walk_is ∙ comes_to_lem k x ∙ ap (delivered k) (sym e));
        else_no_owner = (
          nobody,
          λ none.
              walk_is
              ∙ nobody_by_id rise (a.tree Memory) distinct (id / 256) (id % 256)
              (λ n h. none n.number (record { function = n; has_id_lem = h; number_is = refl })),
        );
        one_owner = λ j k x y. let p = comes_to_lem j x in let q = comes_to_lem k y in cc;
        crosses_above = crosses_above;
        some_of = λ k x. some ns x.has_id_lem.in_sheet;
        few = few;
      }
    where
      to : (k count : ℕ) → walk_from (tally_for (Id id) t) first 0 ≡ delivered k count
          → HasIdOver s id k × (count ≡ length (bridges_above host s k))
      to k count e =
          let (n, h, is, counted) =
          has_id_of_delivered rise (a.tree Memory) distinct (id / 256) (id % 256) k count (sym walk_is ∙ e) in (
            record { function = n; has_id_lem = h; number_is = is },
            counted ∙ count_above n h.in_sheet ∙ ap (λ (j : ℕ). length (bridges_above host s j)) is,
          )

      nobody : walk_from (tally_for (Id id) t) first 0 ≡ refused 40 → (k : ℕ) → ¬ HasIdOver s id k
      nobody e k x = let d = sym walk_is ∙ e in let r = comes_to_lem k x in suc-ne-zero 0 (cc)

      crosses_above : (k : ℕ) → HasIdOver s id k → Trail (tally_for (Id id) t) first (reverse (bridges_above host s k)) k
      crosses_above k x =
          let n = x.function in
          let numbers = numbers_above n x.has_id_lem.in_sheet ∙ ap (bridges_above host s) x.number_is in
          let by_walk =
          subst₂ (λ (ms : List ℕ) (j : ℕ). Trail (tally_by_id ns (id / 256) (id % 256)) first (reverse ms) j) numbers x.number_is
          (crosses_by_id rise (a.tree Memory) distinct (id / 256) (id % 256) n x.has_id_lem) in
          subst (λ (ms : List Node). Trail (tally_by_id ms (id / 256) (id % 256)) first (reverse (bridges_above host s k)) k)
          (sym nodes_kept) by_walk

      some : (ms : List Node) {n : Node} → n ∈ ms → 0 < length ms
      some [] m = absurd (Memᴰ.not-nil m)
      some (x ∷ ms) m = omega arith

      few : (k : ℕ) → HasIdOver s id k → length (bridges_above host s k) ≤ most_in_row
      few k x =
          let n = x.function in
          let m = x.has_id_lem.in_sheet in
          let Way_up = above_is {host = bus_host} rise (a.tree Memory) n m in
          omega (
            arith,
            above_at_most_255 ns rise first n.bus (above first ns n.bus) Way_up,
            count_above n m ∙ ap (λ (j : ℕ). length (bridges_above host s j)) x.number_is,
          )

-- ## Planned sheets

abbrev host_with : Host → List Range → WalkHost
host_with h pools = record { first = h.first_bus; last = h.last_bus; pools = pools }

-- the host of a plan and of an audit are one
host_agree : (sp : Space) (h : Host) → plan_host sp (to_host h) ≡ host_for sp h
unfolding keep
host_agree Memory h = ap (host_with h) (go (hosts.is_open h.low) (hosts.is_open h.high))
  where
    low : Range
    low = record { pool = ranges.low; start = h.low.base; stop = suc h.low.last }

    high : Range
    high = record { pool = ranges.high; start = h.high.base; stop = suc h.high.last }

    go : (b c : Bool) → map (pool_range (to_host h)) (cond b (Low ∷ cond c (High ∷ []) []) (cond c (High ∷ []) []))
        ≡ cond b (low ∷ []) [] ++ cond c (high ∷ []) []
    go true true = refl
    go true false = refl
    go false true = refl
    go false false = refl
host_agree Ports h = ap (host_with h) (go (hosts.is_open h.io))
  where
    go : (b : Bool) → map (pool_range (to_host h)) (cond b (Io ∷ []) [])
        ≡ cond b (record { pool = ranges.io; start = h.io.base; stop = suc h.io.last } ∷ []) []
    go true = refl
    go false = refl

module _ (b room : List ℕ) (n : ℕ) (bytes : Bytes b) (planned : planning b (length room) ≡ Planned n) (t : List ℕ)
    (same : SameButCommands (take n (sheet_after b room)) t) where
  planned_accepted : Accepted (host_record b) t
  planned_accepted =
      let x = accepted_of_zero b (planned_of_answer b (length room) n planned).accepted in
      let sheet = planned_sheet_of_answer b room n bytes planned t same in
      let good : (sp : Space) → Good (host_for sp (host_of_part (host_record b))) (registers_of sp t) = λ sp.
      subst (λ (h : WalkHost). Good h (registers_of sp t)) (host_agree sp (host_of b) ∙ ap (host_for sp) x.host_read) (sheet.good sp) in
      record {
        host_size = length-take-le host_length (drop 3 b) (omega (arith, fits_at b host_at host_length x.host_record_lem, length-drop 3 b));
        host_edges = ap hosts.host_wrong (sym x.host_read) ∙ x.edges;
        passes = sheet.passes;
        tree = λ sp. subst (Tree (host_for sp (host_of_part (host_record b)))) (nodes_functions sp 1 (entries_of t)) (good sp).tree;
        nested = λ sp. (good sp).nested;
        disjoint = λ sp. (good sp).disjoint;
      }

-- ## A sheet with one owner for every address, which every accepted one is

module _ (host s : List ℕ) (bytes : Bytes s) (a : OneOwner host s) (t : List ℕ) (same : SameButCommands s t) (header : List ℕ) (p : Packet)
    (read : read_of header ≡ Read p) where
  pub owner_routed : (sp : Space) (address : ℕ) → IsRequest p sp address
      → Routed (Owns host s t sp address) (bridges_above host s) most_in_row t header p sp address
  owner_routed sp address is =
      routed (Owns host s t sp address) (bridges_above host s) most_in_row t sp address (number_same same ∙ a.passes)
      (comes host s bytes a sp t same address) header p read is

  pub owner_by_id : (id : ℕ) → GoesById p id
      → RoutedById (length (nodes_of s)) (host_of_part host).first_bus (HasIdOver s id) (bridges_above host s) most_in_row t header p id
  owner_by_id id by =
      routed_by_id (length (nodes_of s)) (host_of_part host).first_bus (HasIdOver s id) (bridges_above host s) most_in_row t id
      (comes_by_id host s bytes a t same id) header p read by

pub never_contested : (host s : List ℕ) → Bytes s → OneOwner host s → (t : List ℕ) → SameButCommands s t
    → (header : List ℕ) (p : Packet) → read_of header ≡ Read p → ¬ (route_number header t ≡ 41)
never_contested host s bytes a t same header =
    not_41 header t (number_same same ∙ a.passes)
    (λ q r sp address is. (owner_routed host s bytes a t same header q r sp address is).delivered_or_40)
    (λ q r id by. (owner_by_id host s bytes a t same header q r id by).delivered_40_or_42)

-- ## The request

pub audits : Audits
audits =
    record {
      yes_exactly = audit_iff;
      by_number = audited_by_number;
      stays_accepted = stays_accepted OfKind;
      accepted_routed = λ host s bytes a. owner_routed host s bytes (one_owner_of_accepted host s a);
      accepted_by_id = λ host s bytes a. owner_by_id host s bytes (one_owner_of_accepted host s a);
      never_contested = λ host s bytes a. never_contested host s bytes (one_owner_of_accepted host s a);
      one_holder = λ host s bytes a. holder_is host s bytes (one_owner_of_accepted host s a);
      planned_accepted = planned_accepted;
      planned_yes = λ b room n bytes planned t same small.
          (audit_iff (host_record b) t small).1 (planned_accepted b room n bytes planned t same);
    }
