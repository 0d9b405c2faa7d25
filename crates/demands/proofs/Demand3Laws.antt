-- Demand 3 is proved: the planner's answers from what runs out, and the router's from the walk over the planned sheet. Assumes nothing.
use Rattle.std.specs.Prelude.{◌≡◌, refl, ◌⊎◌, ◌↔◌, true, List, reverse, ℕ, ◌≤◌, ◌<◌, length, take}
use Rattle.std.proofs.Common.{sym, subst, ◌∙◌, inl, inr, ⊎_elim, arith}
use Rattle.std.proofs.Math.Path.{ap}
use Rattle.std.proofs.Math.Logic.Iff.{trans}
use Rattle.std.proofs.Math.ListN.{drop}
use Rattle.std.proofs.Math.Seq.{drop_at}
use borrow.Author.Tests.{eq-eqb, ne_eqb, lt-ltb, le-ltb}
use Rattle.arith.specs.Order.{eq_or_ne, le_or_lt}
use Rattle.endian.specs.Endian.{Bytes}
use Rattle.pools.specs.declared.Space.{Space}
use Rattle.records.specs.Limits.{most_above}
use Rattle.plan_rule.specs.Pools.{low, high, io}
use Rattle.lists.specs.ListLaws.{all_of}
use Rattle.plan_rule.proofs.Placed.{well_placed}
use Rattle.plan_rule.specs.Refusals.{refusal_of}
use Rattle.board.specs.Board.{board_number, host_of, functions_of}
use Rattle.board.specs.ToPlacing.{devfn_of}
use Rattle.board.proofs.ToPlacingLaws.{lawful_of_accepted}
use Rattle.walk.specs.Registers.{Node, Registers, root_of}
use Rattle.walk.specs.Tally.{tally_on}
use Rattle.walk.specs.Walk.{Trail}
use Rattle.sheet.specs.Sheet.{entries_of}
use Rattle.sheet.proofs.SheetLaws.{nodes_functions}
use Rattle.sheet.specs.Spaces.{registers_of, enabled_of}
use Rattle.sheet.specs.Commands.{SameButCommands}
use Rattle.sheet_bytes.specs.Layout.{sheet_bytes}
use Rattle.plan_good.proofs.RefusedExactly.{RefusedExactly, refused_exactly}
use Rattle.plan_good.specs.NestedAndApart.{NestedAndApart}
use Rattle.plan_good.proofs.NestedAndApart.{planned_nested_and_apart}
use Rattle.plan_good.specs.Delivery.{OwnsAsPlaced}
use Rattle.plan_good.proofs.DeliveryLaws.{crosses_above, planned_delivers}
use Rattle.plan_answer.specs.declared.Planning.{Planning}
use Rattle.plan_answer.specs.declared.Planning.TheVariants.{Planned, Refused}
use Rattle.plan_answer.specs.Plan.{plan_of, on_room, on_board, planning, number_of as planning_number, sheet_as, sheet_after}
use Rattle.plan_sheet.specs.Fits.{BoardFits}
use Rattle.plan_sheet.proofs.Accepted.{fits_of_accepted}
use Rattle.plan_sheet.proofs.Delivery.{PlannedSheet}
use Rattle.plan_sheet.proofs.Answer.{AnswersPlanned, planned_of_answer, planned_sheet_of_answer}
use Rattle.claims.specs.declared.Aim.TheVariants.{Address}
use Rattle.claims.specs.Claims.{tally_for}
use Rattle.route.specs.Route.{root}
use Rattle.demands.specs.Demand3.{Lawful, host, functions, length_of_sheet, RunsOut, plan_number, AnswersByNumber, SheetSays, Demand3}
use Rattle.demands.specs.Demand3.{HasBarOver, bridges_above, Owns}
use Rattle.demands.proofs.RoutedLaws.{trail_from_root, Comes, routed}

-- ## What the planner answers

module _ (b room : List ℕ) (lawful : Lawful b) where
  -- the number that numbering and placing refuse with, 0 where nothing runs out
  abbrev number : ℕ
  number = refusal_of (host b) (functions b)

  exactly : RefusedExactly (host b) (functions b)
  exactly = refused_exactly (host b) (functions b)

  -- the three answers
  answers_number : ¬ (number ≡ 0) → planning b (length room) ≡ Refused number
  unfolding planning on_board
  answers_number h = rw (eq-eqb (board_number b) 0 lawful, ne_eqb number 0 h)

  answers_short : number ≡ 0 → length room < length_of_sheet b → planning b (length room) ≡ Refused 11
  unfolding planning on_board on_room
  answers_short z l = rw (eq-eqb (board_number b) 0 lawful, eq-eqb number 0 z, lt-ltb (length room) (length_of_sheet b) l)

  answers_planned : number ≡ 0 → length_of_sheet b ≤ length room → planning b (length room) ≡ Planned (length_of_sheet b)
  unfolding planning on_board on_room
  answers_planned z l = rw (eq-eqb (board_number b) 0 lawful, eq-eqb number 0 z, le-ltb (length room) (length_of_sheet b) l)

  -- each as its number, with what it comes from
  data Answered : Type 0 where
    by_number : ¬ (number ≡ 0) → 30 ≤ number → plan_number b room ≡ number → Answered
    short : number ≡ 0 → length room < length_of_sheet b → plan_number b room ≡ 11 → Answered
    planned : number ≡ 0 → length_of_sheet b ≤ length room → plan_number b room ≡ 0 → Answered

  answered : Answered
  answered =
      ⊎_elim
      (λ z.
      ⊎_elim (λ l. planned z l (ap planning_number (answers_planned z l))) (λ l. short z l (ap planning_number (answers_short z l)))
      (le_or_lt (length_of_sheet b) (length room)))
      (λ h. by_number h (⊎_elim (λ z. absurd (h z)) (λ r. r.0) exactly.no_other_number) (ap planning_number (answers_number h)))
      (eq_or_ne number 0)

  zero_iff : (number ≡ 0) ↔ (¬ RunsOut b)
  zero_iff = (to, λ h. exactly.planned_else.1 (λ x. h (inl x), λ x. h (inr (low, x)), λ x. h (inr (high, x)), λ x. h (inr (io, x))))
    where
      to : number ≡ 0 → RunsOut b → ⊥
      to z (inl x) = (exactly.planned_else.0 z).0 x
      to z (inr (low, x)) = (exactly.planned_else.0 z).1 x
      to z (inr (high, x)) = (exactly.planned_else.0 z).2 x
      to z (inr (io, x)) = (exactly.planned_else.0 z).3 x

  -- what runs out where the number is not 0
  runs_out_lem : ¬ (number ≡ 0) → RunsOut b
  runs_out_lem h =
      ⊎_elim (λ e. inl (exactly.no_buses_left.0 e))
      (λ not_30.
      ⊎_elim (λ e. inr (low, (exactly.no_low_room.0 e).1))
      (λ not_31.
      ⊎_elim (λ e. inr (high, (exactly.no_high_room.0 e).2))
      (λ not_32. inr (io, (exactly.no_io_room.0 (⊎_elim (λ z. absurd (h z)) (λ r. omega arith) exactly.no_other_number)).3))
      (eq_or_ne number 32))
      (eq_or_ne number 31))
      (eq_or_ne number 30)

  refused_iff : length_of_sheet b ≤ length room → (¬ (plan_number b room ≡ 0)) ↔ RunsOut b
  refused_iff l = (
    λ h. runs_out_lem (λ z. h (ap planning_number (answers_planned z l))),
    λ r z. let h : ¬ (number ≡ 0) = λ e. zero_iff.0 e r in h (sym (ap planning_number (answers_number h)) ∙ z),
  )

  -- the numbers of numbering and placing are those from 30 on
  number_iff : (n : ℕ) → 30 ≤ n → (plan_number b room ≡ n) ↔ (number ≡ n)
  number_iff n from_30 = (to answered, λ e. ap planning_number (answers_number (omega arith)) ∙ e)
    where
      to : Answered → plan_number b room ≡ n → number ≡ n
      to (by_number h l e) g = sym e ∙ g
      to (short z l e) g = absurd (omega arith)
      to (planned z l e) g = absurd (omega arith)

  short_iff : (plan_number b room ≡ 11) ↔ (¬ RunsOut b × (length room < length_of_sheet b))
  short_iff = (to answered, λ h. ap planning_number (answers_short (zero_iff.1 h.0) h.1))
    where
      to : Answered → plan_number b room ≡ 11 → ¬ RunsOut b × (length room < length_of_sheet b)
      to (by_number h l e) g = absurd (omega arith)
      to (short z l e) g = (zero_iff.0 z, l)
      to (planned z l e) g = absurd (omega arith)

  planned_iff : (planning b (length room) ≡ Planned (length_of_sheet b)) ↔ (¬ RunsOut b × (length_of_sheet b ≤ length room))
  planned_iff = (λ e. to answered (ap planning_number e), λ h. answers_planned (zero_iff.1 h.0) h.1)
    where
      to : Answered → plan_number b room ≡ 0 → ¬ RunsOut b × (length_of_sheet b ≤ length room)
      to (by_number h l e) g = absurd (omega arith)
      to (short z l e) g = absurd (omega arith)
      to (planned z l e) g = (zero_iff.0 z, l)

  answers_by_number : AnswersByNumber b room
  answers_by_number =
      record {
        no_buses_left = trans (number_iff 30 (omega arith)) exactly.no_buses_left;
        no_low_room = trans (number_iff 31 (omega arith)) exactly.no_low_room;
        no_high_room = trans (number_iff 32 (omega arith)) exactly.no_high_room;
        no_io_room = trans (number_iff 33 (omega arith)) exactly.no_io_room;
        short_room_lem = short_iff;
        planned_else = planned_iff;
      }

unlawful_answer : (b room : List ℕ) → ¬ Lawful b → plan_number b room ≡ board_number b
unfolding planning
unlawful_answer b room h = rw (ne_eqb (board_number b) 0 h)

module _ (b room : List ℕ) (n : ℕ) where
  keeps_room : planning b (length room) ≡ Refused n → sheet_after b room ≡ room
  unfolding sheet_after
  keeps_room e = ap (λ (p : Planning). sheet_as p b room) e

  keeps_rest : planning b (length room) ≡ Planned n → drop n (sheet_after b room) ≡ drop n room
  unfolding sheet_after
  keeps_rest e =
      ap (λ (p : Planning). drop n (sheet_as p b room)) e
      ∙ drop_at (sheet_bytes (plan_of (host_of b) (functions_of b))) (drop n room) n (planned_of_answer b (length room) n e).length_is

-- ## Requests

module _ (b room : List ℕ) (n : ℕ) (bytes : Bytes b) (planned : planning b (length room) ≡ Planned n) where
  answers : AnswersPlanned b n
  answers = planned_of_answer b (length room) n planned

  fits : BoardFits (host_of b) (functions_of b)
  fits = fits_of_accepted b bytes answers.accepted

  nested : NestedAndApart (host b) (functions b)
  nested = planned_nested_and_apart fits.board answers.not_refused

  -- with everything enabled a holder is an owner
  holder_unique : (sp : Space) (address j k : ℕ) → HasBarOver b sp address j → HasBarOver b sp address k → j ≡ k
  holder_unique sp address j k hj hk =
      (planned_delivers fits.board answers.not_refused sp (devfn_of (functions_of b)) (λ m. true) address).one_owner j k (owns j hj)
      (owns k hk)
    where
      owns : (m : ℕ) → HasBarOver b sp address m → OwnsAsPlaced sp (host b) (functions b) (λ i. true) address m
      owns m h = record { bar_holds_lem = h; is_enabled = refl; bridges_enabled = all_of _ (λ i. refl) (bridges_above b m) }

  module _ (t : List ℕ) (same : SameButCommands (take n (sheet_after b room)) t) where
    sheet : PlannedSheet (host_of b) (functions_of b) t
    sheet = planned_sheet_of_answer b room n bytes planned t same

    says : SheetSays b t
    says = record { passes = sheet.passes; registers_are = sheet.registers_are; nested_and_apart = sheet.good }

    -- by address the walk crosses the bridges above an owner
    crosses_above_owner : (sp : Space) (address k : ℕ) → Owns b t sp address k
        → Trail (tally_for (Address sp address) t) (root t) (reverse (bridges_above b k)) k
    crosses_above_owner sp address k o =
        let enabled = enabled_of sp t in
        let registers = registers_of sp t in
        let way = reverse (bridges_above b k) in
        let by_plan = crosses_above fits.board answers.not_refused sp (devfn_of (functions_of b)) enabled address k o in
        let by_sheet =
        subst (λ (rs : List Registers). Trail (tally_on enabled rs address) (host b).first_bus way k) (sym (sheet.registers_are sp))
        by_plan in
        subst (λ (ns : List Node). Trail (tally_on enabled registers address) (root_of ns) way k) (nodes_functions sp 1 (entries_of t))
        (trail_from_root enabled address (host b).first_bus registers (sheet.good sp).tree.first_on_root way k by_sheet)

    comes : (sp : Space) (address : ℕ) → Comes (Owns b t sp address) (bridges_above b) most_above t sp address
    comes sp address =
        let delivers = sheet.delivers sp address in
        record {
          delivered_exactly = delivers.delivered_exactly;
          else_no_owner = delivers.else_no_owner;
          one_owner = delivers.one_owner;
          crosses = crosses_above_owner sp address;
          few = λ k o. sheet.not_too_deep k;
        }

-- ## The demand

pub demand_3 : Demand3
demand_3 =
    record {
      refused_exactly = refused_iff;
      answers_by_number = answers_by_number;
      unlawful_by_number = unlawful_answer;
      placed_by_rule = λ b lawful. well_placed (host b) (functions b) (lawful_of_accepted b lawful);
      refused_keeps_room = keeps_room;
      planned_keeps_rest = keeps_rest;
      nested_and_apart = nested;
      one_holder = holder_unique;
      sheet_says = says;
      requests_routed = λ b room n bytes planned t same header p read sp address is.
          routed (Owns b t sp address) (bridges_above b) most_above t sp address (sheet b room n bytes planned t same).passes
          (comes b room n bytes planned t same sp address) header p read is;
    }
