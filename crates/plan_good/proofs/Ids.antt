-- IDs of a planned board differ, since siblings rise in device/function and different parents have different buses (28). Assumes nothing.
use Rattle.std.specs.Prelude.{List, ℕ}
use Rattle.std.proofs.Common.{sym, ◌∙◌, arith}
use Rattle.plan_rule.specs.Records.{Host, Function, Lawful}
use Rattle.lists.specs.ListLaws.{pairwise_map, pairwise_imp_members}
use Rattle.walk.specs.Ids.{DistinctIds}
use Rattle.plan_good.specs.Registers.{plan_node, plan_rows, plan_nodes}
use Rattle.plan_good.proofs.Rows.{numbers_rise}
use Rattle.plan_good.proofs.BusRanges.{row_of, same_parent}
use Rattle.plan_good.specs.Ids.{SiblingsRise}

pub planned_ids_lem : (h : Host) (fs : List Function) → Lawful fs → (devfn : ℕ → ℕ) → SiblingsRise fs devfn → DistinctIds (plan_nodes h fs devfn)
planned_ids_lem h fs lawful devfn rise =
    pairwise_map _ (plan_node devfn) (plan_rows h fs)
    (pairwise_imp_members _ _ (plan_rows h fs)
    (λ x y m n earlier bus id.
    let r = row_of h.first_bus fs lawful m in
    let s = row_of h.first_bus fs lawful n in
    let parents = sym r.parent_is ∙ same_parent h.first_bus fs lawful r s bus ∙ s.parent_is in
    omega (arith, rise x.number y.number r.from_1 earlier s.in_list parents))
    (numbers_rise h.first_bus fs))
