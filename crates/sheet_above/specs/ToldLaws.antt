-- Who stands above a bus, by its number, in the words of the code. Assumes nothing.
use Rattle.std.specs.Prelude.{◌≡◌, refl, Bool, true, false, cond, List, [], ◌∷◌, ℕ, ◌-◌, ◌<◌, length, get_or, eqb}
use Rattle.std.proofs.Common.{sym, ap, ◌∙◌, arith, eqb-true, eq-eqb, ne_eqb}
use Rattle.std.proofs.Math.Bool.{and-eq-true_iff}
use mathlib.Core.List.Memᴰ
use Rattle.std.proofs.lemmas.Bool.{eqb-false}
use Rattle.lists.specs.Lists.{◌∈◌}
use Rattle.lists.specs.KeepLaws.{keep_elim}
use Rattle.sheet_record.specs.Entry.{Entry, entry_of, header_of, is_bridge, secondary_of}
use Rattle.sheet.specs.Sheet.{entries_of, part_at}
use Rattle.sheet.proofs.SheetLaws.{Checked}
use Rattle.sheet_above.specs.Parents as rule
use Rattle.sheet_above.specs.Parents.{leads_to, leaders_of, several, parent_among, parent_of, leader_of}
use Rattle.sheet_above.specs.ParentsLaws.{parent_of_none, parent_of_several, parent_of_number}
use Rattle.sheet_above.specs.declared.Parent.{Parent}
use Rattle.sheet_above.specs.declared.Parent.TheVariants.{Host, Bridge, Nothing, Several}
use Rattle.sheet_above.specs.Table.{buses, Leads, IsParent, told_by}

-- a bridge that stands above a bus leads to it
pub leads_of_parent : (root : ℕ) (es : List Entry) (bus : ℕ) (b : Entry) → parent_of root es bus ≡ rule.under_bridge b → leads_to bus b ≡ true
leads_of_parent root es bus b e = go (eqb bus root) (leaders_of es bus) refl e
  where
    go : (t : Bool) (bs : List Entry) → leaders_of es bus ≡ bs → cond t rule.under_host (parent_among bs) ≡ rule.under_bridge b
        → leads_to bus b ≡ true
    go true bs l e = absurd (let z : ◌≡◌ {A = ℕ} 0 1 = cc e in omega arith)
    go false [] l e = absurd (let z : ◌≡◌ {A = ℕ} 0 1 = cc e in omega arith)
    go false (x ∷ []) l e =
        let same : x ≡ b = cc e in
        let member : x ∈ leaders_of es bus = rw l (Memᴰ.head refl) in
        ap (leads_to bus) (sym same) ∙ (keep_elim (leads_to bus) es member).1
    go false (x ∷ y ∷ bs) l e = absurd (let z : ◌≡◌ {A = ℕ} 0 1 = cc e in omega arith)

bridge_of_leader : (bus : ℕ) (p : List ℕ) → leads_to bus (entry_of p) ≡ true → is_bridge (header_of p) ≡ true
unfolding entry_of
bridge_of_leader bus p e = ((and-eq-true_iff (is_bridge (header_of p)) (eqb (cond (is_bridge (header_of p)) (secondary_of p) 0) bus)).0 e).0

module _ (s : List ℕ) (root bus : ℕ) where
  pub under_host_lem : bus ≡ root → IsParent s root bus Host
  under_host_lem e = record { same = rw (eq-eqb bus root e); whole = λ k q. absurd (let z : ◌≡◌ {A = ℕ} 0 1 = cc q in omega arith) }

  -- n is the bus's number
  module _ (c : Checked s) (off : bus ≡ root → ⊥) (n : ℕ) (is : leader_of (entries_of s) bus ≡ n) where
    few : length (entries_of s) < several
    few = omega (arith, c.count)

    under_none_lem : n ≡ 0 → IsParent s root bus Nothing
    under_none_lem z =
        record {
          same = parent_of_none s c.framed few root bus off (is ∙ z);
          whole = λ k q. absurd (let z : ◌≡◌ {A = ℕ} 0 1 = cc q in omega arith);
        }

    under_several_lem : n ≡ several → IsParent s root bus Several
    under_several_lem z =
        record {
          same = parent_of_several s c.framed few root bus off (is ∙ z);
          whole = λ k q. absurd (let z : ◌≡◌ {A = ℕ} 0 1 = cc q in omega arith);
        }

    under_bridge_lem : (n ≡ 0 → ⊥) → (n ≡ several → ⊥) → IsParent s root bus (Bridge (n - 1))
    under_bridge_lem some one =
        let at = parent_of_number s c.framed few root bus off n is some one in
        let p = part_at s (n - 1) in
        let bridge = bridge_of_leader bus p (leads_of_parent root (entries_of s) bus (entry_of p) at.1) in
        record {
          same = at.1;
          whole = λ k q.
              let same : n - 1 ≡ k = cc q in
              rw (← same) (record { inside = at.0; is_bridge_lem = bridge });
        }

    pub under_told : (r : Parent) → r ≡ told_by n → IsParent s root bus r
    under_told r e = rw e (go (eqb n 0) refl (eqb n several) refl)
      where
        go : (t : Bool) → eqb n 0 ≡ t → (u : Bool) → eqb n several ≡ u
            → IsParent s root bus (cond t Nothing (cond u Several (Bridge (n - 1))))
        go true z u w = under_none_lem (eqb-true n 0 z)
        go false z true w = under_several_lem (eqb-true n several w)
        go false z false w = under_bridge_lem (eqb-false n 0 z) (eqb-false n several w)

-- ## A bus's number, in the words of the code

module _ (n : ℕ) where
  pub told_none : n ≡ 0 → Nothing ≡ told_by n
  told_none z = rw (eq-eqb n 0 z)

  pub told_several : (n ≡ 0 → ⊥) → n ≡ several → Several ≡ told_by n
  told_several some e = rw (ne_eqb n 0 some, eq-eqb n several e)

  pub told_bridge : (n ≡ 0 → ⊥) → (n ≡ several → ⊥) → Bridge (n - 1) ≡ told_by n
  told_bridge some one = rw (ne_eqb n 0 some, ne_eqb n several one)

-- by the table: n is its entry
pub told_in_table : (s table : List ℕ) → Leads (entries_of s) table → (bus : ℕ) → bus < buses → (n : ℕ) → n ≡ get_or table bus 0
    → leader_of (entries_of s) bus ≡ n
told_in_table s table leads bus small n e = sym (leads.leader bus small) ∙ sym e
