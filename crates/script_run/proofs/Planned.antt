-- A planned sheet is one that its script can be run on: its registers are good, its records come before those below them, and the rest of
-- each record is 0. Assumes nothing.
use Rattle.std.specs.Prelude.{◌≡◌, refl, List, [], ◌∷◌, map, ℕ, zero, suc, ◌≤◌, ◌<◌, length, get_or}
use Rattle.std.proofs.Common.{sym, subst, arith}
use mathlib.Core.List.Memᴰ
use Rattle.endian.specs.Endian.{Bytes}
use Rattle.lists.specs.Lists.{◌∈◌, All}
use Rattle.lists.specs.ListLaws.{all_imp}
use Rattle.pools.specs.declared.Space.TheVariants.{Memory as memory_space}
use Rattle.plan_rule.specs.Records.{Function, Lawful}
use Rattle.plan_rule.specs.Preorder.{parent_of}
use Rattle.plan_rule.specs.Above.{step_up, above_within, above_by_parents}
use Rattle.plan_rule.proofs.AboveLaws.{parent_before}
use Rattle.plan_rule.specs.Refusals.{refusal_of}
use Rattle.board.specs.Board.{board_number, host_of, functions_of}
use Rattle.board.specs.ToPlacing.{to_host, to_placing, devfn_of}
use Rattle.walk.specs.Registers.{Node, nodes}
use Rattle.walk.proofs.Reach.{numbers_of}
use Rattle.walk.specs.Above.{above}
use Rattle.walk.specs.Good.{BridgesRise, Tree}
use Rattle.walk.proofs.CardToCard.{all_of_numbers}
use Rattle.sheet.specs.Sheet.{entries_of, parts_in, part_at}
use Rattle.sheet.proofs.SheetLaws.{checked_of_zero, passes_of_zero, nodes_functions}
use Rattle.sheet.proofs.FrameLaws.{part_index}
use Rattle.sheet.proofs.IndexLaws.{length_entries}
use Rattle.sheet.specs.Spaces.{registers_of, nodes_of}
use Rattle.sheet_bytes.specs.Layout.{Planned, part_bytes}
use Rattle.sheet_bytes.proofs.ReadBack.{framed_sheet_bytes, parts_in_sheet_bytes}
use Rattle.plan_good.proofs.Kept.{kept_of_planned}
use Rattle.plan_good.specs.Registers.{plan_node, plan_rows, plan_nodes, plan_host}
use Rattle.plan_good.proofs.AboveLaws.{row_above_agree}
use Rattle.plan_answer.specs.Plan.{plan_of}
use Rattle.plan_sheet.specs.Fits.{BoardFits}
use Rattle.plan_sheet.proofs.Accepted.{fits_of_accepted}
use Rattle.plan_sheet.proofs.Passes.{bytes_planned}
use Rattle.plan_sheet.proofs.Delivery.{PlannedSheet, planned_sheet_of_board}
use Rattle.scripter.specs.Scripting.{planned_sheet}
use Rattle.script_run.proofs.Delivered.{Scriptable}
use Rattle.script_run.proofs.Ends.{RestZero, rest_zero, Endable}

-- ## Parents come first

above_less : {fs : List Function} → Lawful fs → (n k : ℕ) → All (λ j. j < k) (above_within n fs k)
unfolding above_within
above_less lawful zero k = tt
above_less lawful (suc n) zero = tt
above_less {fs} lawful (suc n) (suc k) = go (parent_of fs (suc k)) (parent_before lawful k) (λ p. above_less lawful n p)
  where
    go : (p : ℕ) → p ≤ k → ((p : ℕ) → All (λ j. j < p) (above_within n fs p)) → All (λ j. j < suc k) (step_up p (above_within n fs))
    go zero l on = tt
    go (suc p) l on = (omega arith, all_imp _ _ (above_within n fs (suc p)) (on (suc p)) (λ j h. omega arith))

parents_less : {fs : List Function} → Lawful fs → (k : ℕ) → All (λ j. j < k) (above_by_parents fs k)
unfolding above_by_parents
parents_less lawful k = above_less lawful k k

-- ## Lists

all_at : {A : Type 0} (P : A → Type 0) (xs : List A) (d : A) → All P xs → (k : ℕ) → k < length xs → P (get_or xs k d)
all_at P [] d h k l = absurd (omega arith)
all_at P (x ∷ xs) d h zero l = h.0
all_at P (x ∷ xs) d h (suc k) l = all_at P xs d h.1 k (omega arith)

rest_of_plan : (ps : List Planned) → All RestZero (map part_bytes ps)
rest_of_plan [] = tt
rest_of_plan (p ∷ ps) = (rest_zero p, rest_of_plan ps)

-- ## The sheet of a board that is planned

module _ (b : List ℕ) (bytes : Bytes b) (accepted : board_number b ≡ 0)
    (planned : refusal_of (to_host (host_of b)) (to_placing (functions_of b)) ≡ 0) where
  abbrev final : List ℕ
  final = planned_sheet b

  fits : BoardFits (host_of b) (functions_of b)
  fits = fits_of_accepted b bytes accepted

  pub sheet : PlannedSheet (host_of b) (functions_of b) (planned_sheet b)
  sheet = planned_sheet_of_board b bytes accepted planned final (record { same_length = refl; same_bytes = λ i c. refl })

  sheet_bytes_lem : Bytes (planned_sheet b)
  sheet_bytes_lem = bytes_planned (host_of b) (functions_of b) fits planned

  same_nodes : nodes (registers_of memory_space (planned_sheet b)) ≡ nodes_of (planned_sheet b)
  same_nodes = nodes_functions memory_space 1 (entries_of (planned_sheet b))

  earlier : (x : Node) → x ∈ nodes_of (planned_sheet b)
      → All (λ n. n.number < x.number) (above (to_host (host_of b)).first_bus (nodes_of (planned_sheet b)) x.bus)
  earlier x m =
      let h = to_host (host_of b) in
      let fs = to_placing (functions_of b) in
      let devfn = devfn_of (functions_of b) in
      let plan = sheet.nodes_are in
      let (row, there, is) = Memᴰ.of_map (plan_node devfn) (plan_rows h fs) (subst (λ (l : List Node). x ∈ l) plan m) in
      let agree = row_above_agree h fs fits.board (kept_of_planned h fs planned).buses devfn row there in
      let less : All (λ j. j < row.number) (numbers_of (above h.first_bus (plan_nodes h fs devfn) row.bus)) =
      subst (All (λ j. j < row.number)) (sym agree) (parents_less fits.board.lawful row.number) in
      subst (λ (l : List Node). All (λ n. n.number < x.number) (above h.first_bus l x.bus)) (sym plan)
      (subst (λ (y : Node). All (λ n. n.number < y.number) (above h.first_bus (plan_nodes h fs devfn) y.bus)) is
      (all_of_numbers (λ j. j < row.number) (above h.first_bus (plan_nodes h fs devfn) row.bus) less))

  pub scriptable : Scriptable (plan_host memory_space (to_host (host_of b))) (planned_sheet b)
  scriptable =
      let good = sheet.good memory_space in
      record {
        bytes = sheet_bytes_lem;
        framed = framed_sheet_bytes (plan_of (host_of b) (functions_of b));
        rise = subst BridgesRise same_nodes good.bridges_rise;
        tree = subst (Tree (plan_host memory_space (to_host (host_of b)))) same_nodes good.tree;
        distinct = (passes_of_zero (planned_sheet b) sheet_bytes_lem sheet.passes).distinct_ids;
        earlier = earlier;
      }

  rest : (k : ℕ) → k < length (entries_of (planned_sheet b)) → RestZero (part_at (planned_sheet b) k)
  rest k h =
      let ps = plan_of (host_of b) (functions_of b) in
      let l : k < length (parts_in (planned_sheet b)) = omega (arith, length_entries (planned_sheet b)) in
      subst RestZero (part_index (planned_sheet b) k (framed_sheet_bytes ps) l)
      (all_at RestZero (parts_in (planned_sheet b)) [] (subst (All RestZero) (sym (parts_in_sheet_bytes ps)) (rest_of_plan ps)) k l)

  pub endable : Endable (planned_sheet b)
  endable =
      record {
        bytes = sheet_bytes_lem;
        framed = framed_sheet_bytes (plan_of (host_of b) (functions_of b));
        readbacks = (checked_of_zero (planned_sheet b) sheet.passes).readbacks;
        rest = rest;
      }
