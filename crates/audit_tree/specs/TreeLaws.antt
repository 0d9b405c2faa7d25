-- 50, test by test, in the words of the code. Assumes nothing.
use Rattle.std.specs.Prelude.{◌≡◌, refl, Bool, true, false, not, ◌&&◌, List, ℕ, length, eqb, leb}
use Rattle.std.proofs.Math.Path.{sym, ap}
use Rattle.std.proofs.Common.{◌∙◌, true≢false, arith}
use Rattle.std.proofs.Math.Bool.{and-eq-true_iff}
use borrow.Author.Tests.{eq-eqb, ne_eqb}
use Rattle.lists.specs.Lists.{any}
use Rattle.lists.specs.ListLaws.{all_of}
use Rattle.lists.specs.KeepLaws.{none_of_all}
use Rattle.sheet_record.specs.Entry.{Entry, entry_of, bus_of, header_of, is_bridge, secondary_of, subordinate_of, bus, bridges}
use Rattle.sheet.specs.Sheet.{Framed, entries_of, part_at}
use Rattle.sheet.proofs.CheckLaws.{count_entries, entries_past}
use Rattle.sheet.proofs.IndexLaws.{entries_index}
use Rattle.sheet_above.specs.Parents.{parent_of}
use Rattle.sheet_above.specs.declared.Parent.{Parent}
use Rattle.sheet_above.specs.declared.Parent.TheVariants.{Host, Bridge, Nothing, Several}
use Rattle.sheet_above.specs.Table.{parent_in, IsParent}
use Rattle.audit_rule.specs.Audit.{first_elsewhere, buses_in, parent_wrong, buses_shared}
use Rattle.audit_rising.specs.PassLaws.{header_entry}

-- ## The first record

module _ (s : List ℕ) (f : Framed 1 s) (n root : ℕ) (count : n ≡ length (entries_of s)) where
  pub first_none : n ≡ 0 → first_elsewhere root (entries_of s) ≡ false
  first_none z = ap (first_elsewhere root) (entries_past s 1 (omega (arith, count, count_entries s f)))

  pub first_here : (n ≡ 0 → ⊥) → (p : List ℕ) → p ≡ part_at s 0 → (b : ℕ) → b ≡ bus_of p
      → first_elsewhere root (entries_of s) ≡ not (eqb b root)
  unfolding entry_of
  first_here some p is b own = ap (first_elsewhere root) (entries_index s f 0 (omega (arith, count, some))) ∙ rw (own, is)

-- ## The way up

module _ (first last : ℕ) (p : List ℕ) (bridge : Bool) (is : bridge ≡ is_bridge (header_of p)) where
  pub outside_none : bridge ≡ false → (bridges (entry_of p) && not (buses_in first last (entry_of p))) ≡ false
  unfolding entry_of
  outside_none e = rw (sym is ∙ e)

  pub outside_bridge : bridge ≡ true → (m n : ℕ) → m ≡ secondary_of p → n ≡ subordinate_of p
      → (bridges (entry_of p) && not (buses_in first last (entry_of p))) ≡ not (leb first m && leb n last)
  unfolding entry_of
  outside_bridge e m n a b = rw (a, b, sym is ∙ e)

bridge_buses : (p : List ℕ) → is_bridge (header_of p) ≡ true
    → ((entry_of p).secondary ≡ secondary_of p) × ((entry_of p).subordinate ≡ subordinate_of p)
unfolding entry_of
bridge_buses p e = (rw e, rw e)

module _ (s : List ℕ) (root : ℕ) (p : List ℕ) (b : ℕ) (own : b ≡ bus_of p) (r : Parent) (is : IsParent s root b r) where
  above : (x : Parent) → r ≡ x → parent_of root (entries_of s) (bus (entry_of p)) ≡ parent_in s x
  unfolding entry_of
  above x e = rw (sym own) is.same ∙ ap (parent_in s) e

  pub parent_host : r ≡ Host → parent_wrong (parent_of root (entries_of s) (bus (entry_of p))) (entry_of p) ≡ false
  parent_host e = rw (above Host e)

  pub parent_none : r ≡ Nothing → parent_wrong (parent_of root (entries_of s) (bus (entry_of p))) (entry_of p) ≡ true
  parent_none e = rw (above Nothing e)

  pub parent_several : r ≡ Several → parent_wrong (parent_of root (entries_of s) (bus (entry_of p))) (entry_of p) ≡ true
  parent_several e = rw (above Several e)

  pub parent_bridge : (k : ℕ) → r ≡ Bridge k → (q : List ℕ) → q ≡ part_at s k → (m n : ℕ) → m ≡ secondary_of q → n ≡ subordinate_of q
      → parent_wrong (parent_of root (entries_of s) (bus (entry_of p))) (entry_of p)
      ≡ (bridges (entry_of p) && not (buses_in m n (entry_of p)))
  parent_bridge k e q at m n a b = rw (above (Bridge k) e, a, b, at, buses.0, buses.1)
    where
      buses : ((entry_of (part_at s k)).secondary ≡ secondary_of (part_at s k))
          × ((entry_of (part_at s k)).subordinate ≡ subordinate_of (part_at s k))
      buses = bridge_buses (part_at s k) (is.whole k e).is_bridge_lem

-- ## Two bridges of one bus

and_none : (x y : Bool) → (x && (y && false)) ≡ false
and_none true true = refl
and_none true false = refl
and_none false y = refl

and_both : (x y z : Bool) → (x && y) ≡ false → (x && (y && z)) ≡ false
and_both true true z e = absurd (true≢false e)
and_both true false z e = refl
and_both false y z e = refl

-- a function that is no bridge shares no bus
pub shared_none : (p : List ℕ) → is_bridge (header_of p) ≡ false → (es : List Entry) → any (buses_shared (entry_of p)) es ≡ false
shared_none p e es = none_of_all (buses_shared (entry_of p)) es (all_of (λ x. buses_shared (entry_of p) x ≡ false) none es)
  where
    none : (x : Entry) → buses_shared (entry_of p) x ≡ false
    none x = rw (header_entry p, e)

module _ (p q : List ℕ) (a b : ℕ) (own : a ≡ bus_of p) (other : b ≡ bus_of q) where
  pub shared_apart : (a ≡ b → ⊥) → buses_shared (entry_of p) (entry_of q) ≡ false
  unfolding entry_of
  shared_apart d =
      rw (ne_eqb (bus_of p) (bus_of q) (λ e. d (own ∙ e ∙ sym other))) (and_none (is_bridge (header_of p)) (is_bridge (header_of q)))

  module _ (c d : Bool) (is : c ≡ is_bridge (header_of p)) (is_other_lem : d ≡ is_bridge (header_of q)) (same : a ≡ b) where
    pub shared_other : (c && d) ≡ false → buses_shared (entry_of p) (entry_of q) ≡ false
    unfolding entry_of
    shared_other e = rw (← is, ← is_other_lem) (and_both c d _ e)

    pub shared_bridges : (c && d) ≡ true → (m n i j : ℕ) → m ≡ secondary_of p → n ≡ subordinate_of q → i ≡ secondary_of q
        → j ≡ subordinate_of p
        → buses_shared (entry_of p) (entry_of q) ≡ (leb m n && leb i j)
    unfolding entry_of
    shared_bridges e m n i j em en ei ej =
        let both = (and-eq-true_iff c d).0 e in
        rw (em, en, ei, ej, sym is ∙ both.0, sym is_other_lem ∙ both.1, eq-eqb (bus_of p) (bus_of q) (sym own ∙ same ∙ other))
