-- One record and another, in the words of the code: p and q are their parts. Assumes nothing.
use Rattle.std.specs.Prelude.{◌≡◌, refl, Bool, true, false, cond, ◌&&◌, List, ℕ, ◌+◌, eqb}
use Rattle.std.proofs.Common.{◌∙◌, arith, eq-eqb, ne_eqb}
use Rattle.std.proofs.Math.Path.{ap}
use Rattle.sheet_record.specs.Entry.{entry_of, id_of, bus_of, header_of, is_bridge, secondary_of}
use Rattle.sheet.specs.Sheet.{part_at}
use Rattle.sheet_above.specs.Parents.{leads_to}
use Rattle.audit_finding.specs.declared.Relation.{Relation}
use Rattle.audit_finding.specs.declared.Relation.TheVariants.{SameId, Leads}
use Rattle.audit_finding.specs.Fails.{related, is_met}
use Rattle.audit_finding.specs.Spots.{record_of}

pub leads_part : (b : ℕ) (p : List ℕ) (bridge : Bool) (secondary : ℕ) → bridge ≡ is_bridge (header_of p) → secondary ≡ secondary_of p
    → (bridge && eqb secondary b) ≡ leads_to b (entry_of p)
unfolding entry_of
leads_part b p bridge secondary e f = rw (e, f) (go (is_bridge (header_of p)))
  where
    go : (t : Bool) → (t && eqb (secondary_of p) b) ≡ (t && eqb (cond t (secondary_of p) 0) b)
    go true = refl
    go false = refl

module _ (p q : List ℕ) where
  pub same_id : (a b : ℕ) → a ≡ id_of q → b ≡ id_of p → eqb a b ≡ related SameId (entry_of p) (entry_of q)
  unfolding entry_of
  same_id a b e f = rw (e, f)

  pub leads_related : (b : ℕ) (r : Bool) → b ≡ bus_of p → r ≡ leads_to b (entry_of q) → r ≡ related Leads (entry_of p) (entry_of q)
  unfolding entry_of
  leads_related b r e f = f ∙ ap (λ (x : ℕ). leads_to x (entry_of q)) e

-- k and j are their indexes
module _ (relation : Relation) (s : List ℕ) (k j : ℕ) where
  pub met_self : j ≡ k → is_met relation (record_of s k) (record_of s j) ≡ false
  met_self e = rw (eq-eqb (j + 1) (k + 1) (omega (arith, e)))

  pub met_other : (j ≡ k → ⊥) → (p q : List ℕ) → p ≡ part_at s k → q ≡ part_at s j → (r : Bool)
      → r ≡ related relation (entry_of p) (entry_of q) → r ≡ is_met relation (record_of s k) (record_of s j)
  met_other d p q is other r e = e ∙ rw (ne_eqb (j + 1) (k + 1) (λ z. d (omega (arith, z))), is, other)
