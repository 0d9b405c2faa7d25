-- The bridges above a function: on a planned board the same by bus numbers as by parent records. Assumes nothing.
use Rattle.std.specs.Prelude.{◌≡◌, ℕ, zero, suc, ◌≤◌, ◌<◌, length}
use Rattle.std.proofs.Common.{sym, ◌∙◌, ⊎_elim, arith}
use Rattle.std.proofs.Math.Path.{ap, subst}
use mathlib.Core.List.Memᴰ
use mathlib.Core.List.{List, ◌∷◌}
use Rattle.std.proofs.lemmas.List.{length-map}
use Rattle.plan_rule.specs.Records.{Host, Function}
use Rattle.pools.specs.declared.Space.{Space}
use Rattle.pools.specs.declared.Space.TheVariants.{Memory as memory_space}
use Rattle.plan_rule.specs.Preorder.{parent_of}
use Rattle.plan_rule.specs.Above.{above_by_parents}
use Rattle.plan_rule.proofs.AboveLaws.{above_host, above_parent}
use Rattle.plan_rule.specs.Placing.{placed}
use Rattle.plan_rule.specs.Numbering.{Numbered}
use Rattle.plan_rule.proofs.RefusalLaws.{BusesKept}
use Rattle.lists.specs.Lists.{◌∈◌}
use Rattle.walk.specs.Registers.{Node, Registers}
use Rattle.walk.specs.Above.{LeadsTo, above}
use Rattle.walk.proofs.AboveLaws.{above_root, above_bridge}
use Rattle.walk.specs.Good.{BridgesRise, Tree}
use Rattle.walk.proofs.Reach.{numbers_of}
use Rattle.walk.proofs.Delivery.{bridges_above}
use Rattle.plan_good.specs.Boards.{Board}
use Rattle.plan_good.specs.Registers.{plan_node, plan_rows, plan_nodes, plan_register, plan_registers, plan_host}
use Rattle.plan_good.proofs.Rows.{Row}
use Rattle.plan_good.proofs.BusRanges.{ParentRow, parent_row, row_of}
use Rattle.plan_good.proofs.Tree.{bridges_rise, planned_tree}
use Rattle.plan_good.proofs.Items.{nodes_plan}

module _ (h : Host) (fs : List Function) (board : Board h fs) (kept : BusesKept h fs) (devfn : ℕ → ℕ) where
  rise : BridgesRise (plan_nodes h fs devfn)
  rise = bridges_rise h fs board.lawful devfn board.edges kept

  tree : Tree (plan_host memory_space h) (plan_nodes h fs devfn)
  tree = planned_tree h fs board.lawful devfn board.edges kept memory_space

  -- The numbers of the bridges above a bus, the nearest first
  abbrev by_buses : ℕ → List ℕ
  by_buses bus = numbers_of (above h.first_bus (plan_nodes h fs devfn) bus)

  numbers_above : (n : ℕ) (x : Numbered) → x ∈ plan_rows h fs → x.number ≤ n → by_buses x.bus ≡ above_by_parents fs x.number
  numbers_above zero x m l = absurd (omega (arith, (row_of h.first_bus fs board.lawful m).from_1))
  numbers_above (suc n) x m l = ⊎_elim root (below (λ y there g. numbers_above n y there g)) (parent_row h.first_bus fs board.lawful m)
    where
      node : plan_node devfn x ∈ plan_nodes h fs devfn
      node = Memᴰ.map (plan_node devfn) m

      r : Row h.first_bus fs x
      r = row_of h.first_bus fs board.lawful m

      root : (x.parent ≡ 0) × (x.bus ≡ h.first_bus) → by_buses x.bus ≡ above_by_parents fs x.number
      root (e, on_root_lem) =
          ap numbers_of (above_root rise tree (plan_node devfn x) node on_root_lem) ∙ sym (above_host fs x.number (sym r.parent_is ∙ e))

      below : ((y : Numbered) → y ∈ plan_rows h fs → y.number ≤ n → by_buses y.bus ≡ above_by_parents fs y.number)
          → ParentRow h.first_bus fs x → by_buses x.bus ≡ above_by_parents fs x.number
      below up p =
          let y = p.row in
          let is : y.number ≡ parent_of fs x.number = p.under.above ∙ r.parent_is in
          let leads : LeadsTo x.bus (plan_nodes h fs devfn) (plan_node devfn y) =
          record {
            in_sheet = Memᴰ.map (plan_node devfn) p.in_rows;
            is_bridge_lem = p.under.bridge;
            leads = rw p.under.bridge
                (sym p.under.bus_is);
          } in
          let pos : 0 < parent_of fs x.number = omega (arith, is, (row_of h.first_bus fs board.lawful p.in_rows).from_1) in
          ap numbers_of (above_bridge rise tree (plan_node devfn x) node (plan_node devfn y) leads)
          ∙ ap (y.number ∷◌) (up y p.in_rows (omega (arith, p.under.above, r.parent_before)))
          ∙ ap (λ (k : ℕ). k ∷ above_by_parents fs k) is
          ∙ sym (above_parent board.lawful x.number pos)

  -- By bus numbers and by parent records the bridges above a function are the same, in the same order
  pub row_above_agree : (x : Numbered) → x ∈ plan_rows h fs
      → numbers_of (above h.first_bus (plan_nodes h fs devfn) x.bus) ≡ above_by_parents fs x.number
  row_above_agree x m = numbers_above x.number x m (omega arith)

  pub above_agree : (sp : Space) (f : Registers) → f ∈ plan_registers sp h fs devfn
      → numbers_of (bridges_above (plan_host sp h) (plan_registers sp h fs devfn) f) ≡ above_by_parents fs f.node.number
  unfolding plan_registers
  above_agree sp f m =
      let (x, there, e) = Memᴰ.of_map (plan_register sp (placed h fs) devfn) (plan_rows h fs) m in
      ap (λ (ns : List Node). numbers_of (above h.first_bus ns f.node.bus)) (nodes_plan sp h fs devfn)
      ∙ subst (λ (g : Registers). by_buses g.node.bus ≡ above_by_parents fs g.node.number) e (row_above_agree x there)

  -- and so as many
  pub length_above : (sp : Space) (f : Registers) → f ∈ plan_registers sp h fs devfn
      → length (bridges_above (plan_host sp h) (plan_registers sp h fs devfn) f) ≡ length (above_by_parents fs f.node.number)
  length_above sp f m =
      sym (length-map (bridges_above (plan_host sp h) (plan_registers sp h fs devfn) f) (λ (b : Node). b.number))
      ∙ ap length (above_agree sp f m)
