-- Delivery on the planned sheet as bytes, as planned or with its command words rewritten: the walk over the sheet's own registers, from the
-- bus of its first record, delivers by address as placed and by ID as numbered. Assumes nothing.
use Rattle.std.specs.Prelude.{◌≡◌, List, ℕ, ◌/◌, ◌%◌, ◌≤◌, ◌<◌, length}
use Rattle.std.proofs.Common.{sym, ap, subst, ◌∙◌, arith}
use Rattle.std.proofs.lemmas.List.{length-map}
use Rattle.endian.specs.Endian.{Bytes}
use Rattle.plan_rule.specs.Above.{above_by_parents}
use Rattle.pools.specs.declared.Space.{Space}
use Rattle.pools.specs.declared.Space.TheVariants.{Memory as memory_space}
use Rattle.records.specs.Limits.{most_above}
use Rattle.plan_rule.specs.Refusals.{refusal_of}
use Rattle.board_record.specs.declared.Host.{Host}
use Rattle.board_record.specs.declared.Function.{Function}
use Rattle.board.specs.Board.{board_number, host_of, functions_of}
use Rattle.board.specs.ToPlacing.{to_host, to_placing, devfn_of}
use Rattle.walk.specs.Registers.{Node, Registers, nodes, root_of}
use Rattle.walk.specs.Tally.{tally_on}
use Rattle.walk.specs.Walk.{walk_from}
use Rattle.walk.specs.Good.{FirstOn, Good}
use Rattle.walk.proofs.Delivery.{outcome_of, root_is_first, outcome_from_first}
use Rattle.walk.specs.Ids.{tally_by_id}
use Rattle.sheet.specs.Sheet.{entries_of, sheet_number}
use Rattle.sheet.proofs.SheetLaws.{nodes_functions}
use Rattle.sheet.specs.Spaces.{registers_of, nodes_of, enabled_of}
use Rattle.sheet.specs.Commands.{SameButCommands}
use Rattle.sheet.proofs.CommandsLaws.{registers_same, nodes_same}
use Rattle.sheet_bytes.specs.Layout.{sheet_bytes}
use Rattle.sheet_bytes.proofs.ReadBack.{framed_sheet_bytes}
use Rattle.plan_good.specs.Registers.{plan_node, plan_rows, plan_nodes, plan_registers, plan_host}
use Rattle.plan_good.proofs.Rows.{length_rows}
use Rattle.plan_good.proofs.Items.{nodes_plan}
use Rattle.plan_good.specs.Delivery.{DeliversAsPlaced}
use Rattle.plan_good.specs.ById.{DeliversAsNumbered}
use Rattle.plan_good.proofs.ByIdLaws.{planned_delivers_by_id}
use Rattle.plan_good.proofs.DeliveryLaws.{planned_delivers}
use Rattle.plan_good.proofs.PlannedGood.{planned_good}
use Rattle.plan_answer.specs.Plan.{plan_of}
use Rattle.plan_sheet.specs.Fits.{BoardFits}
use Rattle.plan_sheet.specs.Delivery.{sheet_outcome}
use Rattle.plan_sheet.proofs.FitsLaws.{devfn_lt}
use Rattle.plan_sheet.proofs.Accepted.{fits_of_accepted}
use Rattle.plan_sheet.proofs.Registers.{registers_agree}
use Rattle.plan_sheet.proofs.Nodes.{nodes_agree}
use Rattle.plan_sheet.proofs.Passes.{rewritten_sheet_passes}

-- what holds of a sheet that is the planned one but for command words
pub record PlannedSheet (h : Host) (fs : List Function) (t : List ℕ) : Type 0 where
  pub passes : sheet_number t ≡ 0
  pub registers_are : (sp : Space) → registers_of sp t ≡ plan_registers sp (to_host h) (to_placing fs) (devfn_of fs)
  pub good : (sp : Space) → Good (plan_host sp (to_host h)) (registers_of sp t)
  pub delivers : (sp : Space) (address : ℕ)
      → DeliversAsPlaced sp (to_host h) (to_placing fs) (enabled_of sp t) address (sheet_outcome sp t address)
  pub nodes_are : nodes_of t ≡ plan_nodes (to_host h) (to_placing fs) (devfn_of fs)
  pub as_many : length (nodes_of t) ≡ length (to_placing fs)
  pub root_is : 0 < length (to_placing fs) → root_of (nodes_of t) ≡ (to_host h).first_bus
  pub delivers_by_id : (id : ℕ) → DeliversAsNumbered (to_host h) (to_placing fs) (devfn_of fs) id (tally_by_id (nodes_of t) (id / 256) (id % 256))
  pub not_too_deep : (k : ℕ) → length (above_by_parents (to_placing fs) k) ≤ most_above

module _ (h : Host) (fs : List Function) (fits : BoardFits h fs) (planned : refusal_of (to_host h) (to_placing fs) ≡ 0) (t : List ℕ)
    (same : SameButCommands (sheet_bytes (plan_of h fs)) t) where
  registers_are : (sp : Space) → registers_of sp t ≡ plan_registers sp (to_host h) (to_placing fs) (devfn_of fs)
  registers_are sp = registers_same same (framed_sheet_bytes (plan_of h fs)) sp ∙ registers_agree h fs fits planned sp

  plan_good : (sp : Space) → Good (plan_host sp (to_host h)) (plan_registers sp (to_host h) (to_placing fs) (devfn_of fs))
  plan_good sp = planned_good fits.board planned sp (devfn_of fs)

  -- the walk over the sheet's registers is that over the plan's, from the host's first bus
  outcome_is : (sp : Space) (address : ℕ)
      → sheet_outcome sp t address
      ≡ outcome_of (plan_host sp (to_host h)) (enabled_of sp t) (plan_registers sp (to_host h) (to_placing fs) (devfn_of fs)) address
  outcome_is sp address =
      let enabled = enabled_of sp t in
      ap (λ (ns : List Node). walk_from (tally_on enabled (registers_of sp t) address) (root_of ns) 0)
      (sym (nodes_functions sp 1 (entries_of t)))
      ∙ ap (λ (rs : List Registers). walk_from (tally_on enabled rs address) (root_of (nodes rs)) 0) (registers_are sp)
      ∙ outcome_from_first (plan_registers sp (to_host h) (to_placing fs) (devfn_of fs)) (plan_good sp).tree enabled address

  nodes_are : nodes_of t ≡ plan_nodes (to_host h) (to_placing fs) (devfn_of fs)
  nodes_are = nodes_same same (framed_sheet_bytes (plan_of h fs)) ∙ nodes_agree h fs fits planned

  as_many : length (nodes_of t) ≡ length (to_placing fs)
  as_many =
      ap length nodes_are
      ∙ length-map (plan_rows (to_host h) (to_placing fs)) (plan_node (devfn_of fs))
      ∙ length_rows (to_host h).first_bus (to_placing fs)

  root_is : 0 < length (to_placing fs) → root_of (nodes_of t) ≡ (to_host h).first_bus
  root_is some =
      let by_plan = (plan_good memory_space).tree.first_on_root in
      let same = nodes_plan memory_space (to_host h) (to_placing fs) (devfn_of fs) ∙ sym nodes_are in
      root_is_first (to_host h).first_bus (nodes_of t) (subst (FirstOn (to_host h).first_bus) same by_plan) (omega (arith, as_many))

  delivers_by_id : (id : ℕ) → DeliversAsNumbered (to_host h) (to_placing fs) (devfn_of fs) id (tally_by_id (nodes_of t) (id / 256) (id % 256))
  delivers_by_id id =
      subst (λ (ns : List Node). DeliversAsNumbered (to_host h) (to_placing fs) (devfn_of fs) id (tally_by_id ns (id / 256) (id % 256)))
      (sym nodes_are)
      (planned_delivers_by_id fits.board planned (devfn_of fs) fits.siblings_rise (devfn_lt fs fits.functions) id)

  pub planned_sheet_lem : PlannedSheet h fs t
  planned_sheet_lem =
      record {
        passes = rewritten_sheet_passes h fs fits planned t same;
        registers_are = registers_are;
        good = λ sp. subst (Good (plan_host sp (to_host h))) (sym (registers_are sp)) (plan_good sp);
        delivers =
            λ sp address.
            let enabled = enabled_of sp t in
            subst (DeliversAsPlaced sp (to_host h) (to_placing fs) enabled address) (sym (outcome_is sp address))
            (planned_delivers fits.board planned sp (devfn_of fs) enabled address);
        nodes_are = nodes_are;
        as_many = as_many;
        root_is = root_is;
        delivers_by_id = delivers_by_id;
        not_too_deep = fits.shallow;
      }

-- of a board's bytes that are accepted and not refused by 30 to 33
pub planned_sheet_of_board : (b : List ℕ) → Bytes b → board_number b ≡ 0 → refusal_of (to_host (host_of b)) (to_placing (functions_of b)) ≡ 0
    → (t : List ℕ) → SameButCommands (sheet_bytes (plan_of (host_of b) (functions_of b))) t → PlannedSheet (host_of b) (functions_of b) t
planned_sheet_of_board b bytes accepted planned = planned_sheet_lem (host_of b) (functions_of b) (fits_of_accepted b bytes accepted) planned
