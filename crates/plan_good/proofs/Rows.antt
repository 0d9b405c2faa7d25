-- What holds of each numbered record and of each placed piece by the record's number: its parent, its bus, that it has a row.
-- Assumes nothing.
use Rattle.std.specs.Prelude.{◌≡◌, true, ℕ, suc, ◌+◌, ◌≤◌, ◌<◌, drop}
use Rattle.std.proofs.Math.Path.{refl, sym, ap}
use Rattle.std.proofs.Common.{◌∙◌, inl, inr, ⊎_elim, arith}
use mathlib.Core.List.{List, [], ◌∷◌}
use Rattle.std.proofs.Math.ListN.{length, length-drop}
use Rattle.arith.specs.Order.{eq_or_ne}
use Rattle.lists.specs.Lists.{All, Some, Pairwise}
use Rattle.lists.specs.ListLaws.{all_imp, drop_suc}
use Rattle.plan_rule.specs.Records.{Host, Function, Lawful, Sized}
use Rattle.plan_rule.specs.Preorder.{parent_of}
use Rattle.plan_rule.proofs.AboveLaws.{parent_at, parent_before}
use Rattle.plan_rule.specs.Pieces.{pieces}
use Rattle.plan_rule.proofs.PieceLaws.{all_pieces}
use Rattle.plan_rule.specs.Placing.{from_bases, placed}
use Rattle.plan_rule.proofs.PlacingLaws.{all_place}
use Rattle.plan_rule.specs.Numbering.{bus_number, subordinate_of, Numbered, row_of, numbered_from, numbered}
use Rattle.plan_rule.proofs.Numbered.{Rises, bridge_rises, every_parent_rises, every_bus_rises}

-- The numbers of a record's row, told by its own and its parent's number
pub record Row (first : ℕ) (fs : List Function) (x : Numbered) : Type 0 where
  pub from_1 : 0 < x.number
  pub in_list : x.number ≤ length fs
  pub parent_is : x.parent ≡ parent_of fs x.number
  pub parent_before : x.parent < x.number
  pub bus_is : x.bus ≡ bus_number first fs x.parent
  pub secondary_is : x.secondary ≡ bus_number first fs x.number
  pub subordinate_is : x.subordinate ≡ subordinate_of first fs x.number
  pub parent_rises : Rises first fs x.parent
  pub bridge_rises : x.bridge ≡ true → Rises first fs x.number

pub first_le_bus_number : (first : ℕ) (fs : List Function) (k : ℕ) → first ≤ bus_number first fs k
unfolding bus_number
first_le_bus_number first fs k = omega arith

module _ (first : ℕ) (fs : List Function) (lawful : Lawful fs) where
  rows_from : (i : ℕ) (gs : List Function) → drop i fs ≡ gs → All (λ f. Rises first fs f.parent) gs
      → All (Row first fs) (numbered_from first fs (suc i) gs)
  unfolding numbered_from
  rows_from i [] e h = tt
  rows_from i (f ∷ gs) e h = (row, rows_from (suc i) gs (drop_suc i fs f gs e) h.1)
    where
      row : Row first fs (row_of first fs (suc i) f)
      row =
          record {
            from_1 = omega arith;
            in_list = omega (arith, length-drop i fs, ap length e);
            parent_is = sym (parent_at i fs f gs e);
            parent_before = omega (arith, parent_at i fs f gs e, parent_before lawful i);
            bus_is = refl;
            secondary_is = refl;
            subordinate_is = refl;
            parent_rises = h.0;
            bridge_rises = bridge_rises first fs lawful i f gs e;
          }

  pub rows : All (Row first fs) (numbered first fs)
  rows = rows_from 0 fs refl (every_parent_rises first fs lawful)

-- Every record from 1 on has a row
row_from : (first : ℕ) (all : List Function) (i : ℕ) (fs : List Function) (k : ℕ) → i ≤ k → k < i + length fs
    → Some (λ x. x.number ≡ k) (numbered_from first all i fs)
unfolding numbered_from
row_from first all i [] k l g = absurd (omega arith)
row_from first all i (f ∷ fs) k l g =
    ⊎_elim (λ (e : i ≡ k). inl e) (λ n. inr (row_from first all (suc i) fs k (omega arith) (omega arith))) (eq_or_ne i k)

pub row_at : (first : ℕ) (fs : List Function) (k : ℕ) → 1 ≤ k → k ≤ length fs → Some (λ x. x.number ≡ k) (numbered first fs)
row_at first fs k l g = row_from first fs 1 fs k l (omega arith)

length_from : (first : ℕ) (all : List Function) (k : ℕ) (fs : List Function) → length (numbered_from first all k fs) ≡ length fs
unfolding numbered_from
length_from first all k [] = refl
length_from first all k (f ∷ fs) = ap suc (length_from first all (suc k) fs)

pub length_rows : (first : ℕ) (fs : List Function) → length (numbered first fs) ≡ length fs
length_rows first fs = length_from first fs 1 fs

-- Record numbers rise
numbers_ge : (first : ℕ) (all : List Function) (k : ℕ) (fs : List Function) → All (λ x. k ≤ x.number) (numbered_from first all k fs)
unfolding numbered_from
numbers_ge first all k [] = tt
numbers_ge first all k (f ∷ fs) =
    (omega arith, all_imp _ _ (numbered_from first all (suc k) fs) (numbers_ge first all (suc k) fs) (λ x l. omega arith))

numbers_rise_from : (first : ℕ) (all : List Function) (k : ℕ) (fs : List Function)
    → Pairwise (λ x y. x.number < y.number) (numbered_from first all k fs)
unfolding numbered_from
numbers_rise_from first all k [] = tt
numbers_rise_from first all k (f ∷ fs) = (numbers_ge first all (suc k) fs, numbers_rise_from first all (suc k) fs)

pub numbers_rise : (first : ℕ) (fs : List Function) → Pairwise (λ x y. x.number < y.number) (numbered first fs)
numbers_rise first fs = numbers_rise_from first fs 1 fs

module _ (fs : List Function) (lawful : Lawful fs) where
  pieces_bus_from : (i : ℕ) (gs : List Function) → drop i fs ≡ gs → Sized gs
      → All (λ p. p.bus ≡ parent_of fs p.owner) (pieces (suc i) gs)
  unfolding pieces
  pieces_bus_from i [] e h = tt
  pieces_bus_from i (f ∷ gs) e h =
      all_pieces (λ p. p.bus ≡ parent_of fs p.owner) (suc i) f gs h.0
      (λ p o. o.bus_is ∙ sym (parent_at i fs f gs e) ∙ ap (parent_of fs) (sym o.owner_is))
      (pieces_bus_from (suc i) gs (drop_suc i fs f gs e) h.1)

  -- A placed piece is on the bus of its owner's parent
  pub placed_bus : (h : Host) → All (λ x. x.piece.bus ≡ parent_of fs x.piece.owner) (placed h fs)
  unfolding placed
  placed_bus h = all_place _ (from_bases h) (pieces 1 fs) (pieces_bus_from 0 fs refl lawful.sized)

-- The bus that a placed piece is on has a number of its own
pub placed_bus_rises : (first : ℕ) (h : Host) (fs : List Function) → Lawful fs → All (λ x. Rises first fs x.piece.bus) (placed h fs)
unfolding placed
placed_bus_rises first h fs lawful = all_place _ (from_bases h) (pieces 1 fs) (every_bus_rises first fs lawful)

-- Every placed piece is of a record that has a row
rows_of_pieces : (first : ℕ) (all : List Function) (k : ℕ) (fs : List Function) → Sized fs
    → All (λ p. Some (λ x. x.number ≡ p.owner) (numbered_from first all k fs)) (pieces k fs)
unfolding pieces numbered_from
rows_of_pieces first all k [] h = tt
rows_of_pieces first all k (f ∷ fs) h =
    all_pieces _ k f fs h.0 (λ p o. inl (sym o.owner_is))
    (all_imp _ _ (pieces (suc k) fs) (rows_of_pieces first all (suc k) fs h.1) (λ p s. inr s))

pub placed_has_row : (first : ℕ) (h : Host) (fs : List Function) → Lawful fs
    → All (λ x. Some (λ y. y.number ≡ x.piece.owner) (numbered first fs)) (placed h fs)
unfolding placed
placed_has_row first h fs lawful = all_place _ (from_bases h) (pieces 1 fs) (rows_of_pieces first fs 1 fs lawful.sized)
