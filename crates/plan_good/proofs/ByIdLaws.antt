-- A planned board delivers by ID as document 01 says: the walk by ID over its registers, told by the numbering rule and parent records.
-- Assumes nothing.
use Rattle.std.specs.Prelude.{◌≡◌, List, reverse, ℕ, ◌/◌, ◌%◌, ◌<◌, length}
use Rattle.std.proofs.Common.{sym, ap, ap₂, subst, subst₂, ◌∙◌, suc-ne-zero, arith}
use mathlib.Core.List.Memᴰ
use Rattle.std.proofs.lemmas.List.{length-map}
use Rattle.lists.specs.Lists.{◌∈◌}
use Rattle.lists.specs.ListLaws.{member_of_some}
use Rattle.plan_rule.specs.Records.{Host, Function}
use Rattle.plan_rule.specs.Numbering.{bus_number, Numbered}
use Rattle.plan_rule.specs.Refusals.{refusal_of}
use Rattle.plan_rule.proofs.RefusalLaws.{BusesKept}
use Rattle.walk.specs.Registers.{Node}
use Rattle.walk.specs.Tally.{Tally}
use Rattle.walk.specs.Walk.{delivered, refused, walk_from, Trail}
use Rattle.walk.specs.Above.{above}
use Rattle.walk.specs.Good.{BridgesRise, Tree}
use Rattle.walk.specs.Ids.{tally_by_id, DistinctIds, HasId}
use Rattle.walk.proofs.IdsDelivery.{delivered_by_id, crosses_by_id, has_id_of_delivered, nobody_by_id}
use Rattle.pools.specs.declared.Space.TheVariants.{Memory as memory_space}
use Rattle.plan_good.specs.Boards.{Board}
use Rattle.plan_rule.specs.Above.{above_by_parents}
use Rattle.plan_good.specs.Registers.{plan_node, plan_rows, plan_nodes, plan_host}
use Rattle.plan_good.specs.ById.{bus_of, HasIdAsNumbered, DeliversAsNumbered}
use Rattle.plan_good.proofs.Rows.{row_at}
use Rattle.plan_good.proofs.BusRanges.{row_of}
use Rattle.plan_good.proofs.Tree.{bridges_rise, planned_tree}
use Rattle.plan_good.proofs.Kept.{kept_of_planned}
use Rattle.plan_good.proofs.AboveLaws.{row_above_agree}
use Rattle.plan_good.specs.Ids.{SiblingsRise}
use Rattle.plan_good.proofs.Ids.{planned_ids_lem}

module _ {h : Host} {fs : List Function} (board : Board h fs) (planned : refusal_of h fs ≡ 0) (devfn : ℕ → ℕ)
    (siblings : SiblingsRise fs devfn) (bytes : (k : ℕ) → devfn k < 256) (id : ℕ) where
  abbrev nodes : List Node
  nodes = plan_nodes h fs devfn

  abbrev tally : ℕ → Tally
  tally = tally_by_id (plan_nodes h fs devfn) (id / 256) (id % 256)

  abbrev Has : ℕ → Type 0
  Has k = HasIdAsNumbered h fs devfn id k

  kept : BusesKept h fs
  kept = (kept_of_planned h fs planned).buses

  rise : BridgesRise (plan_nodes h fs devfn)
  rise = bridges_rise h fs board.lawful devfn board.edges kept

  tree : Tree (plan_host memory_space h) (plan_nodes h fs devfn)
  tree = planned_tree h fs board.lawful devfn board.edges kept memory_space

  distinct : DistinctIds (plan_nodes h fs devfn)
  distinct = planned_ids_lem h fs board.lawful devfn siblings

  row_bus : (x : Numbered) → x ∈ plan_rows h fs → x.bus ≡ bus_of h fs x.number
  row_bus x m = let r = row_of h.first_bus fs board.lawful m in r.bus_is ∙ ap (bus_number h.first_bus fs) r.parent_is

  -- by numbering and by the registers the same function has the ID
  node_of_id : (x : Numbered) → x ∈ plan_rows h fs → Has x.number → HasId (id / 256) (id % 256) nodes (plan_node devfn x)
  node_of_id x m i =
      record {
        in_sheet = Memᴰ.map (plan_node devfn) m;
        bus_is = omega (arith, row_bus x m, i.id_is, bytes x.number);
        devfn_is = omega (arith, i.id_is, bytes x.number);
      }

  id_of_node : (n : Node) → HasId (id / 256) (id % 256) nodes n → Has n.number
  id_of_node n i =
      let (x, m, is) = Memᴰ.of_map (plan_node devfn) (plan_rows h fs) i.in_sheet in
      let r = row_of h.first_bus fs board.lawful m in
      let bus = ap (λ (o : Node). o.bus) is ∙ i.bus_is in
      let low = ap (λ (o : Node). o.devfn) is ∙ i.devfn_is in
      subst (λ (o : Node). Has o.number) is
      (record { from_1 = r.from_1; in_list = r.in_list; id_is = omega (arith, row_bus x m, bus, low) })

  row_of_id : (k : ℕ) → Has k → (x : Numbered) × (x ∈ plan_rows h fs) × (x.number ≡ k)
  row_of_id k i = member_of_some _ (plan_rows h fs) (row_at h.first_bus fs k i.from_1 i.in_list)

  length_row_above : (x : Numbered) → x ∈ plan_rows h fs
      → length (above h.first_bus nodes x.bus) ≡ length (above_by_parents fs x.number)
  length_row_above x m =
      sym (length-map (above h.first_bus nodes x.bus) (λ (b : Node). b.number))
      ∙ ap length (row_above_agree h fs board kept devfn x m)

  reached : (k : ℕ) → Has k → walk_from tally h.first_bus 0 ≡ delivered k (length (above_by_parents fs k))
  reached k i =
      let (x, m, is) = row_of_id k i in
      delivered_by_id rise tree distinct (id / 256) (id % 256) (plan_node devfn x) (node_of_id x m (subst Has (sym is) i))
      ∙ ap₂ delivered is (length_row_above x m ∙ ap (λ (j : ℕ). length (above_by_parents fs j)) is)

  crosses : (k : ℕ) → Has k → Trail tally h.first_bus (reverse (above_by_parents fs k)) k
  crosses k i =
      let (x, m, is) = row_of_id k i in
      let same = row_above_agree h fs board kept devfn x m ∙ ap (above_by_parents fs) is in
      subst₂ (λ (ns : List ℕ) (j : ℕ). Trail tally h.first_bus (reverse ns) j) same is
      (crosses_by_id rise tree distinct (id / 256) (id % 256) (plan_node devfn x) (node_of_id x m (subst Has (sym is) i)))

  owner : (k count : ℕ) → walk_from tally h.first_bus 0 ≡ delivered k count → Has k
  owner k count e =
      let (n, i, number_is, _) = has_id_of_delivered rise tree distinct (id / 256) (id % 256) k count e in
      subst Has number_is (id_of_node n i)

  pub planned_delivers_by_id : DeliversAsNumbered h fs devfn id tally
  planned_delivers_by_id =
      record {
        delivered_exactly = λ k count. (to k count, λ (i, e). reached k i ∙ ap (delivered k) (sym e));
        else_no_owner = (
          nobody,
          λ none. nobody_by_id rise tree distinct (id / 256) (id % 256) (λ n i. none n.number (id_of_node n i)),
        );
        one_owner = λ j k i l. let a = reached j i in let b = reached k l in cc;
        crosses_above = crosses;
      }
    where
      to : (k count : ℕ) → walk_from tally h.first_bus 0 ≡ delivered k count → Has k × (count ≡ length (above_by_parents fs k))
      to k count e = let i = owner k count e in let d = reached k i in (i, cc)

      nobody : walk_from tally h.first_bus 0 ≡ refused 40 → (k : ℕ) → ¬ Has k
      nobody e k i = let d = reached k i in suc-ne-zero 0 (cc)
