-- The bus ranges of a lawful board's bridges, secondary to subordinate: within the parent's or the host's, and siblings' apart.
-- Assumes nothing.
use Rattle.std.specs.Prelude.{◌≡◌, ◌⊎◌, true, List, ℕ}
use Rattle.std.proofs.Common.{sym, ap, ◌∙◌, inl, inr, ⊎_elim, arith}
use Rattle.lists.specs.Lists.{◌∈◌, Pairwise}
use Rattle.lists.specs.ListLaws.{pairwise_imp, pairwise_all, all_elim, member_of_some}
use Rattle.plan_rule.specs.Records.{Host, Function, Lawful}
use Rattle.plan_rule.specs.Numbering.{bus_number, subordinate_of, Numbered, numbered}
use Rattle.plan_rule.proofs.Numbered.{Under, WellNumbered, well_numbered, rises_unique}
use Rattle.plan_rule.proofs.RefusalLaws.{BusesKept}
use Rattle.plan_good.proofs.Rows.{Row, rows, first_le_bus_number}
use Rattle.plan_good.specs.BusRanges.{BusesBefore, BusesWithin}

-- The row of the bridge just above x
pub record ParentRow (first : ℕ) (fs : List Function) (x : Numbered) : Type 0 where
  pub row : Numbered
  pub in_rows : row ∈ numbered first fs
  pub under : Under x row

module _ (first : ℕ) (fs : List Function) (lawful : Lawful fs) where
  known : WellNumbered first fs
  known = well_numbered first fs lawful

  pub row_of : {x : Numbered} → x ∈ numbered first fs → Row first fs x
  row_of = all_elim _ (numbered first fs) (rows first fs lawful)

  -- Every record is below the host, on the first bus, or below a bridge
  pub parent_row : {x : Numbered} → x ∈ numbered first fs → ((x.parent ≡ 0) × (x.bus ≡ first)) ⊎ ParentRow first fs x
  parent_row {x} m =
      ⊎_elim
      (λ root. inl root)
      (λ s. let (y, n, u) = member_of_some (Under x) (numbered first fs) s in inr (record { row = y; in_rows = n; under = u }))
      (all_elim _ (numbered first fs) known.nested m)

  -- What is on the bus below a bridge has that bridge for its parent
  pub parent_of_bus : {x b : Numbered} → x ∈ numbered first fs → b ∈ numbered first fs → b.bridge ≡ true → x.bus ≡ b.secondary
      → x.parent ≡ b.number
  parent_of_bus {x} {b} m n is e =
      let r = row_of m in
      let s = row_of n in
      rises_unique first fs x.parent b.number r.parent_rises (s.bridge_rises is) (sym r.bus_is ∙ e ∙ s.secondary_is)

  -- What shares a bus shares a parent
  pub same_parent : {x y : Numbered} → Row first fs x → Row first fs y → x.bus ≡ y.bus → x.parent ≡ y.parent
  same_parent {x} {y} r s e =
      rises_unique first fs x.parent y.parent r.parent_rises s.parent_rises (sym r.bus_is ∙ e ∙ s.bus_is)

  pub buses_in_parent : {x b : Numbered} → x ∈ numbered first fs → b ∈ numbered first fs → x.bridge ≡ true → x.parent ≡ b.number
      → BusesWithin b.secondary b.subordinate x
  buses_in_parent {x} {b} m n is up =
      let r = row_of n in
      ⊎_elim
      (λ root. absurd (omega (arith, root.0, up, r.from_1)))
      (λ p.
      let s = row_of p.in_rows in
      let number : p.row.number ≡ b.number = p.under.above ∙ up in
      let same_secondary : p.row.secondary ≡ b.secondary = s.secondary_is ∙ ap (bus_number first fs) number ∙ sym r.secondary_is in
      let same_subordinate : p.row.subordinate ≡ b.subordinate = s.subordinate_is ∙ ap (subordinate_of first fs) number
      ∙ sym r.subordinate_is in
      let rises = all_elim _ (numbered first fs) known.ranged m is in
      record { from_first = omega (arith, rises.bus_first, p.under.bus_is); to_last = omega (arith, p.under.range_in_lem is) })
      (parent_row m)

  -- Bridges on one bus, told by its number
  pub siblings_before : Pairwise (λ x y. x.bridge ≡ true → y.bridge ≡ true → x.bus ≡ y.bus → BusesBefore x y) (numbered first fs)
  siblings_before =
      pairwise_imp _ _ (λ x y g a b e. g.1 a b (same_parent g.0.0 g.0.1 e)) (numbered first fs)
      (pairwise_all _ _ (numbered first fs) (rows first fs lawful) known.apart)

pub buses_in_host : (h : Host) (fs : List Function) → Lawful fs → BusesKept h fs → {x : Numbered} → x ∈ numbered h.first_bus fs
    → x.bridge ≡ true
    → BusesWithin h.first_bus h.last_bus x
buses_in_host h fs lawful kept {x} m is =
    let r = row_of h.first_bus fs lawful m in
    let within = all_elim _ (numbered h.first_bus fs) (known h.first_bus fs lawful).ranged m is in
    record {
      from_first = omega (arith, r.secondary_is, first_le_bus_number h.first_bus fs x.number);
      to_last
          = omega (arith, within.in_host);
    }
