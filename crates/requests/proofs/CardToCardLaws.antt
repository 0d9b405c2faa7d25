-- Document 02, E11, is proved: from what a request from a card comes to on sound registers, what is answered on bytes, over a planned sheet
-- and over one with one owner for every address, which every accepted one is. Assumes nothing.
use Rattle.std.specs.Prelude.{◌≡◌, refl, ◌⊎◌, ◌↔◌, Bool, true, Some, None, ℕ, ◌+◌, ◌≤◌, ◌<◌, length, take}
use Rattle.std.proofs.Common.{sym, subst, ◌∙◌, inl, inr, suc-ne-zero, arith}
use Rattle.std.proofs.Math.Path.{ap}
use mathlib.Core.List.Memᴰ
use mathlib.Core.List.{List, [], ◌∷◌, reverse}
use Rattle.std.proofs.lemmas.List.{length-map}
use Rattle.endian.specs.Endian.{Bytes}
use Rattle.packet.specs.declared.Packet.{Packet}
use Rattle.packet.specs.declared.Packet.TheVariants.{Memory, Io, Config, Completion, Message}
use Rattle.tlp.specs.declared.Reading.TheVariants.{Accepted as Read}
use Rattle.tlp.specs.Reading.{read_of}
use Rattle.lists.specs.Lists.{◌∈◌}
use Rattle.lists.specs.ListLaws.{all_of}
use Rattle.pools.specs.declared.Space.{Space}
use Rattle.records.specs.Limits.{most_above}
use Rattle.board_record.specs.Host.{host_of_part}
use Rattle.board.specs.Board.{host_of, functions_of}
use Rattle.board.specs.ToPlacing.{devfn_of}
use Rattle.walk.specs.Registers.{Node, Registers, nodes, root_of}
use Rattle.walk.specs.Walk.{no_owner}
use Rattle.walk.specs.Good.{Host as WalkHost, Sound}
use Rattle.walk.proofs.Good.{sound_of_good}
use Rattle.walk.proofs.Reach.{numbers_of}
use Rattle.walk.proofs.Delivery as walking
use Rattle.walk.proofs.Delivery.{outcome_of, owner_of_delivered, delivered_of_owner, root_is_first}
use Rattle.walk.specs.Climb.{Sent, arrives, leaves, stops, not_master, up_from, CardTrail, send_from}
use Rattle.walk.specs.Cards.{Board, crossed_up, crossed_down, Sends, Leaves, Unmastered, Answers}
use Rattle.walk.proofs.CardToCard.{board_over, Tells, answers, crosses_iff, both_ways_le}
use Rattle.sheet.specs.Sheet.{entries_of, sheet_number}
use Rattle.sheet.specs.Spaces.{registers_of, enabled_of, master_of}
use Rattle.sheet.proofs.SheetLaws.{checked_of_zero, numbered_functions, nodes_functions}
use Rattle.sheet.specs.Commands.{SameButCommands}
use Rattle.sheet.proofs.CommandsLaws.{registers_same, number_same}
use Rattle.plan_good.specs.Registers.{plan_registers, plan_host}
use Rattle.plan_good.proofs.Kept.{kept_of_planned}
use Rattle.plan_good.specs.Delivery.{OwnsAsPlaced, DeliversAsPlaced}
use Rattle.plan_good.proofs.DeliveryLaws.{planned_delivers}
use Rattle.plan_good.proofs.AboveLaws.{above_agree}
use Rattle.plan_answer.specs.declared.Planning.TheVariants.{Planned}
use Rattle.plan_answer.specs.Plan.{planning, sheet_after}
use Rattle.plan_sheet.specs.Fits.{BoardFits}
use Rattle.plan_sheet.proofs.Accepted.{fits_of_accepted}
use Rattle.plan_sheet.proofs.Delivery.{PlannedSheet}
use Rattle.plan_sheet.proofs.Answer.{AnswersPlanned, planned_of_answer, planned_sheet_of_answer}
use Rattle.audit_rule.specs.Host.{host_for}
use Rattle.audit_rule.specs.Accepted.{OneOwner}
use Rattle.audit_rule.proofs.AcceptedLaws.{one_owner_of_accepted, sound_of_one_owner, one_owner_delivers}
use Rattle.claims.specs.declared.Aim.TheVariants.{Address}
use Rattle.claims.specs.Claims.{tally_for}
use Rattle.route.specs.Route.{root}
use Rattle.route_cards.specs.declared.Arrival.{Arrival}
use Rattle.route_cards.specs.declared.Sending.TheVariants.{Delivered, Host, Refused}
use Rattle.route_cards.specs.Sending.{number_of as sending_number, request_of, answer, sending_of}
use Rattle.route_cards.specs.Search.{function_at, IsType0}
use Rattle.route_cards.specs.RecordLaws.{function_mem, type_0_no_bridge}
use Rattle.route_cards.specs.RequestLaws.{header_first, sheet_next, other_45, no_start_45, request_sent}
use Rattle.demands.specs.Demand3 as planned
use Rattle.requests.specs.Audit as audited
use Rattle.requests.proofs.AuditLaws.{above_agree as audited_above}
use Rattle.requests.specs.CardToCard.{IsCardRequest, MayStart, planned_board, board_of_sheet, send_number, SentTo, SentToHost}
use Rattle.requests.specs.CardToCard.{CardRouted}
use Rattle.requests.specs.CardToCard.{CardCrosses, CardToCard}

-- ## What is asked for

request_of_lem : (p : Packet) (sp : Space) (address : ℕ) → IsCardRequest p sp address → request_of p ≡ Some (sp, address)
request_of_lem (Memory k h e a) sp address (in_memory, starts) = rw (in_memory, starts)
request_of_lem (Io k h e a) sp address (in_io, starts) = rw (in_io, starts)
request_of_lem (Config k h e t) sp address is = absurd is
request_of_lem (Completion k h o) sp address is = absurd is
request_of_lem (Message k h routing code tail) sp address is = absurd is

-- a request, or none
asked : (p : Packet) → ((sp : Space) × (address : ℕ) × IsCardRequest p sp address) ⊎ (request_of p ≡ None)
asked (Memory k h e a) = inl (_, _, (refl, refl))
asked (Io k h e a) = inl (_, _, (refl, refl))
asked (Config k h e t) = inr refl
asked (Completion k h o) = inr refl
asked (Message k h routing code tail) = inr refl

others_45 : (k : ℕ) (header t : List ℕ) (p : Packet) → read_of header ≡ Read p → sheet_number t ≡ 0 → ¬ MayStart t k p
    → sending_of k header t ≡ Refused 45
others_45 k header t p read passes never = go (asked p)
  where
    go : ((sp : Space) × (address : ℕ) × IsCardRequest p sp address) ⊎ (request_of p ≡ None) → sending_of k header t ≡ Refused 45
    go (inr other) = other_45 k header t p read passes other
    go (inl (sp, address, is)) = no_start_45 k header t p read passes (λ type_0. never (type_0, (sp, address, is)))

-- ## From what a request comes to, what is answered

module _ (b : Board) (depth most : ℕ) (t header : List ℕ) (p : Packet) (k : ℕ) (o : Sent) (is : sending_of k header t ≡ answer p o)
    (a : Answers b k o) (sp : Space) (address : ℕ)
    (crosses : (j : ℕ) → Sends b k j → (ups downs : List ℕ)
    → CardCrosses t sp address k ups downs j ↔ ((ups ≡ crossed_up b k j) × (downs ≡ reverse (crossed_down b k j))))
    (few : length (b.above k) ≤ depth) (few_above : (j : ℕ) → Sends b k j → length (b.above j) ≤ depth)
    (twice : depth + depth ≤ most) where
  arrival : ℕ → ℕ → Arrival
  arrival j count = record { owner = j; bridges = count; packet = p }

  sent_of_arrival : (d : Arrival) → sending_of k header t ≡ Delivered d → (o ≡ arrives d.owner d.bridges) × (d.packet ≡ p)
  sent_of_arrival d e = go o (sym is ∙ e)
    where
      go : (x : Sent) → answer p x ≡ Delivered d → (x ≡ arrives d.owner d.bridges) × (d.packet ≡ p)
      go (arrives j count) e =
          let same : record { owner = j; bridges = count; packet = p } ≡ d = cc in (
            ap (λ (x : Arrival). arrives x.owner x.bridges) same,
            sym (ap (λ (x : Arrival). x.packet) same),
          )
      go (leaves count) e = absurd (suc-ne-zero 0 (cc))
      go (stops n) e = absurd (suc-ne-zero 0 (cc))

  sends_of : (d : Arrival) → sending_of k header t ≡ Delivered d
      → Sends b k d.owner × (d.bridges ≡ length (crossed_up b k d.owner) + length (crossed_down b k d.owner))
  sends_of d e = (a.arrives_exactly d.owner d.bridges).0 (sent_of_arrival d e).0

  arrives_at : (j count : ℕ) → o ≡ arrives j count → SentTo k header t j
  arrives_at j count e = (record { owner = j; bridges = count; packet = p }, is ∙ ap (answer p) e, refl)

  sent_to : (j : ℕ) → Sends b k j → SentTo k header t j
  sent_to j s = arrives_at j _ ((a.arrives_exactly j _).1 (s, refl))

  -- a number that is not 0 is the climb's
  number_iff : (m : ℕ) → 0 < m → (send_number k header t ≡ m) ↔ (o ≡ stops m)
  number_iff m pos = (λ e. go o (sym (ap sending_number is) ∙ e), λ e. ap sending_number (is ∙ ap (answer p) e))
    where
      go : (x : Sent) → sending_number (answer p x) ≡ m → x ≡ stops m
      go (arrives j count) e = absurd (omega arith)
      go (leaves count) e = absurd (omega arith)
      go (stops n) e = ap stops e

  host_of_lem : (bridges : ℕ) (q : Packet) → sending_of k header t ≡ Host bridges q → (o ≡ leaves bridges) × (q ≡ p)
  host_of_lem bridges q e = go o (sym is ∙ e)
    where
      go : (x : Sent) → answer p x ≡ Host bridges q → (x ≡ leaves bridges) × (q ≡ p)
      go (arrives j count) e = absurd (suc-ne-zero 0 (cc))
      go (leaves count) e = let same : count ≡ bridges = cc in (ap leaves same, cc)
      go (stops n) e = absurd (suc-ne-zero 0 (cc))

  unowned : o ≡ stops no_owner → ((j : ℕ) → ¬ Sends b k j) × ¬ Leaves b k × ¬ Unmastered b k
  unowned e = (
    λ j s. let q = sym e ∙ (a.arrives_exactly j _).1 (s, refl) in suc-ne-zero 0 (cc),
    λ v. let q = sym e ∙ (a.leaves_exactly _).1 (v, refl) in suc-ne-zero 0 (cc),
    λ u. let q : stops no_owner ≡ stops not_master = sym e ∙ a.halts_exactly.1 u in
        let n : no_owner ≡ not_master = cc in omega (arith, n),
  )

  one_of_four : (x : Sent) → o ≡ x → ((j : ℕ) × SentTo k header t j)
      ⊎ (SentToHost k header t ⊎ ((send_number k header t ≡ 44) ⊎ (send_number k header t ≡ 40)))
  one_of_four (arrives j count) e = inl (j, arrives_at j count e)
  one_of_four (leaves count) e = inr (inl (count, p, is ∙ ap (answer p) e))
  one_of_four (stops n) e = go (a.no_other_number n e)
    where
      go : (n ≡ no_owner) ⊎ (n ≡ not_master) → ((j : ℕ) × SentTo k header t j)
          ⊎ (SentToHost k header t ⊎ ((send_number k header t ≡ 44) ⊎ (send_number k header t ≡ 40)))
      go (inl same) = inr (inr (inr (ap sending_number (is ∙ ap (answer p) e) ∙ same)))
      go (inr same) = inr (inr (inl (ap sending_number (is ∙ ap (answer p) e) ∙ same)))

  other_number : (◌≡◌ {A = ℕ} 41 no_owner) ⊎ (◌≡◌ {A = ℕ} 41 not_master) → ⊥
  other_number (inl e) = omega (arith, e)
  other_number (inr e) = omega (arith, e)

  card_routed : CardRouted b most t header p sp address k
  card_routed =
      record {
        delivered_exactly = λ j. (λ (d, e, is_j). subst (Sends b k) is_j (sends_of d e).0, sent_to j);
        one_owner = λ i j x y.
            let e = sym ((a.arrives_exactly i _).1 (x, refl)) ∙ (a.arrives_exactly j _).1 (y, refl) in cc;
        arrives_unchanged = λ d e. (sent_of_arrival d e).1;
        crosses_exactly = λ d e. crosses d.owner (sends_of d e).0;
        both_ways_counted = λ d e.
            let s = sends_of d e in
            (s.1, omega (arith, s.1, both_ways_le b k d.owner depth few (few_above d.owner s.0), twice));
        host_exactly = λ bridges q. (
          λ e. let (x, same) = host_of_lem bridges q e in let v = (a.leaves_exactly bridges).0 x in (v.0, v.1, same),
          λ (v, count, same). is ∙ ap (answer p) ((a.leaves_exactly bridges).1 (v, count)) ∙ ap (Host bridges) (sym same),
        );
        halts_exactly = (
          λ e. a.halts_exactly.0 ((number_iff 44 (omega arith)).0 e),
          λ u. (number_iff 44 (omega arith)).1 (a.halts_exactly.1 u),
        );
        else_no_owner = (
          λ e. unowned ((number_iff 40 (omega arith)).0 e),
          λ (no_owner_lem, no_host_lem, no_halt). (number_iff 40 (omega arith)).1 (a.else_no_owner no_owner_lem no_host_lem no_halt),
        );
        never_contested = λ e. other_number (a.no_other_number 41 ((number_iff 41 (omega arith)).0 e));
        nothing_else = one_of_four o refl;
      }

-- ## Over good registers of a sheet

module _ (t header : List ℕ) (p : Packet) (read : read_of header ≡ Read p) (passes : sheet_number t ≡ 0) (sp : Space) (address : ℕ)
    (is : IsCardRequest p sp address) (k : ℕ) (type_0 : IsType0 t k) (host : WalkHost) (sound : Sound host (registers_of sp t))
    (HasBar : ℕ → Type 0) (above_of : ℕ → List ℕ) (tells : Tells host (registers_of sp t) address HasBar above_of) (depth most : ℕ)
    (few : (f : Registers) → f ∈ registers_of sp t → length (above_of f.node.number) ≤ depth) (twice : depth + depth ≤ most) where
  abbrev fs : List Registers
  fs = registers_of sp t

  start : Registers
  start = function_at sp t k

  start_mem : function_at sp t k ∈ registers_of sp t
  start_mem = function_mem t (checked_of_zero t passes) sp k type_0.is_record

  -- the root bus is the host's first
  root_first : root t ≡ host.first
  root_first =
      ap root_of (sym (nodes_functions sp 1 (entries_of t)))
      ∙ root_is_first host.first (nodes fs) sound.tree.first_on_root (some_function fs start_mem)
    where
      some_function : (gs : List Registers) → function_at sp t k ∈ gs → 0 < length (nodes gs)
      some_function [] m = absurd (Memᴰ.not-nil m)
      some_function (g ∷ gs) m = omega arith

  pub routed_over : CardRouted (board_over host (registers_of sp t) (enabled_of sp t) (master_of t) address HasBar above_of) most t header p
      sp address k
  routed_over =
      card_routed (board_over host fs (enabled_of sp t) (master_of t) address HasBar above_of) depth most t header p k
      (send_from (enabled_of sp t) (master_of t) fs address host.first (function_at sp t k))
      (request_sent k header t p read passes sp address (request_of_lem p sp address is) type_0
      ∙ ap (λ (bus : ℕ). answer p (send_from (enabled_of sp t) (master_of t) fs address bus (function_at sp t k))) root_first)
      (answers sound (numbered_functions sp 1 (entries_of t)) (enabled_of sp t) (master_of t) address HasBar above_of tells (function_at sp t k)
      start_mem (type_0_no_bridge t sp k type_0))
      sp address
      (λ j sends ups downs. subst (λ (bus : ℕ). CardTrail (tally_for (Address sp address) t) (up_from (master_of t) fs address bus)
      (function_at sp t k).node.bus ups downs j
      ↔ ((ups ≡ crossed_up (board_over host fs (enabled_of sp t) (master_of t) address HasBar above_of) k j)
      × (downs ≡ reverse (crossed_down (board_over host fs (enabled_of sp t) (master_of t) address HasBar above_of) k j)))) (sym root_first)
      (crosses_iff sound (numbered_functions sp 1 (entries_of t)) (enabled_of sp t) (master_of t) address HasBar above_of tells
      (function_at sp t k) start_mem (type_0_no_bridge t sp k type_0) j sends ups downs))
      (few (function_at sp t k) start_mem)
      (λ j s. let (f, m, is_j, held) = tells.of_bar j s.bar_holds_lem in rw is_j at (few f m)) twice

-- ## A planned sheet

always : ℕ → Bool
always n = true

module _ (b room : List ℕ) (n : ℕ) (bytes : Bytes b) (answered : planning b (length room) ≡ Planned n) (t : List ℕ)
    (same : SameButCommands (take n (sheet_after b room)) t) (sp : Space) (address : ℕ) where
  sheet : PlannedSheet (host_of b) (functions_of b) t
  sheet = planned_sheet_of_answer b room n bytes answered t same

  answers_planned : AnswersPlanned b n
  answers_planned = planned_of_answer b (length room) n answered

  fits : BoardFits (host_of b) (functions_of b)
  fits = fits_of_accepted b bytes answers_planned.accepted

  abbrev plan_functions : List Registers
  plan_functions = plan_registers sp (planned.host b) (planned.functions b) (devfn_of (functions_of b))

  sound : Sound (plan_host sp (planned.host b)) (registers_of sp t)
  sound = sound_of_good (sheet.good sp)

  -- with everything enabled a holder by registers is one as placed, and back
  delivers : DeliversAsPlaced sp (planned.host b) (planned.functions b) always address
      (outcome_of (plan_host sp (planned.host b)) always (registers_of sp t) address)
  delivers =
      subst (λ (rs : List Registers). DeliversAsPlaced sp (planned.host b) (planned.functions b) always address
      (outcome_of (plan_host sp (planned.host b)) always rs address)) (sym (sheet.registers_are sp))
      (planned_delivers fits.board answers_planned.not_refused sp (devfn_of (functions_of b)) always address)

  tells : Tells (plan_host sp (planned.host b)) (registers_of sp t) address (planned.HasBarOver b sp address) (planned.bridges_above b)
  unfolding always
  tells =
      record {
        bar_of_lem = λ f m held.
            let owns : walking.Owns (plan_host sp (planned.host b)) always (registers_of sp t) address f =
            record {
              in_sheet = m;
              bar_holds_lem = held;
              is_enabled = refl;
              bridges_enabled =
                  all_of _ (λ i. refl) (walking.bridges_above (plan_host sp (planned.host b)) (registers_of sp t) f);
            } in
            ((delivers.delivered_exactly f.node.number _).0 (delivered_of_owner sound always address f owns)).0.bar_holds_lem;
        of_bar = λ j held.
            let owns : OwnsAsPlaced sp (planned.host b) (planned.functions b) always address j =
            record { bar_holds_lem = held; is_enabled = refl; bridges_enabled = all_of _ (λ i. refl) (planned.bridges_above b j) } in
            let (f, o, is_j, count) = owner_of_delivered sound always address j _ ((delivers.delivered_exactly j _).1 (owns, refl)) in
            (f, o.in_sheet, is_j, o.bar_holds_lem);
        above_agree = λ f m. agree f m;
      }
    where
      agree : (f : Registers) → f ∈ registers_of sp t
          → numbers_of (walking.bridges_above (plan_host sp (planned.host b)) (registers_of sp t) f) ≡ planned.bridges_above b f.node.number
      agree f m =
          ap (λ (rs : List Registers). numbers_of (walking.bridges_above (plan_host sp (planned.host b)) rs f)) (sheet.registers_are sp)
          ∙ above_agree (planned.host b) (planned.functions b) fits.board
          (kept_of_planned (planned.host b) (planned.functions b) answers_planned.not_refused).buses (devfn_of (functions_of b)) sp f
          (subst (λ (rs : List Registers). f ∈ rs) (sheet.registers_are sp) m)

  planned_routed : (header : List ℕ) (p : Packet) → read_of header ≡ Read p → IsCardRequest p sp address
      → (k : ℕ) → IsType0 t k → CardRouted (planned_board b t sp address) 64 t header p sp address k
  planned_routed header p read is k type_0 =
      routed_over t header p read sheet.passes sp address is k type_0 (plan_host sp (planned.host b)) sound
      (planned.HasBarOver b sp address)
      (planned.bridges_above b) tells most_above 64 (λ f m. sheet.not_too_deep f.node.number) (omega arith)

-- ## A sheet with one owner for every address, which every accepted one is

module _ (host s : List ℕ) (bytes : Bytes s) (a : OneOwner host s) (sp : Space) (address : ℕ) where
  abbrev walk_host : WalkHost
  walk_host = host_for sp (host_of_part host)

  tells_owner : Tells (host_for sp (host_of_part host)) (registers_of sp s) address (audited.HasBarOver s sp address)
      (audited.bridges_above host s)
  tells_owner =
      record {
        bar_of_lem = λ f m held. record { function = f; in_sheet = m; number_is = refl; bar_holds_lem = held };
        of_bar = λ j h. (h.function, h.in_sheet, h.number_is, h.bar_holds_lem);
        above_agree = audited_above host s bytes a sp;
      }

  few_above_owner : (f : Registers) → f ∈ registers_of sp s → length (audited.bridges_above host s f.node.number) ≤ 255
  few_above_owner f m =
      omega (
        arith,
        (one_owner_delivers host s bytes a sp address).at_most_255 f m,
        length-map (walking.bridges_above walk_host (registers_of sp s) f) (λ (b : Node). b.number),
        ap (λ (l : List ℕ). length l) (audited_above host s bytes a sp f m),
      )

  -- over the sheet with these command words
  module _ (t : List ℕ) (same : SameButCommands s t) where
    registers_are : registers_of sp s ≡ registers_of sp t
    registers_are = sym (registers_same same (checked_of_zero s a.passes).framed sp)

    owner_routed : (header : List ℕ) (p : Packet) → read_of header ≡ Read p → IsCardRequest p sp address
        → (k : ℕ) → IsType0 t k → CardRouted (board_of_sheet host s t sp address) 510 t header p sp address k
    owner_routed header p read is k type_0 =
        routed_over t header p read (number_same same ∙ a.passes) sp address is k type_0 (host_for sp (host_of_part host))
        (subst (Sound (host_for sp (host_of_part host))) registers_are (sound_of_one_owner host s bytes a sp))
        (audited.HasBarOver s sp address) (audited.bridges_above host s)
        (subst (λ (rs : List Registers). Tells (host_for sp (host_of_part host)) rs address (audited.HasBarOver s sp address)
        (audited.bridges_above host s)) registers_are tells_owner)
        255 510 (λ f m. few_above_owner f (subst (λ (rs : List Registers). f ∈ rs) (sym registers_are) m)) (omega arith)

pub card_to_card : CardToCard
card_to_card =
    record {
      header_first = header_first;
      sheet_next = sheet_next;
      others_45 = others_45;
      planned_routed = λ b room n bytes answered t same header p read sp address is k type_0.
          planned_routed b room n bytes answered t same sp address header p read is k type_0;
      accepted_routed = λ host s bytes a t same header p read sp address is k type_0.
          owner_routed host s bytes (one_owner_of_accepted host s a) sp address t same header p read is k type_0;
      sound_routed = λ host s bytes a t same header p read sp address is k type_0.
          owner_routed host s bytes a sp address t same header p read is k type_0;
    }
