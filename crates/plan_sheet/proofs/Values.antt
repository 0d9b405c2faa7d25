-- A record's BAR values are those of its set of read-backs with every BAR placed. Assumes nothing.
use Rattle.std.specs.Prelude.{◌≡◌, Bool, true, false, cond, length, get_or, take, drop}
use Rattle.std.proofs.Math.Path.{refl}
use Rattle.std.proofs.Common.{sym, ap, ap₂, ◌∙◌, add-zero, get_or-take, length-take-le}
use mathlib.Core.List.{List, [], ◌∷◌, ◌++◌}
use Prim.Native.Nat.{ℕ, suc, ◌+◌, ◌≤◌, ◌<◌}
use native.Mathlib.Omega.{arith}
use Rattle.bar.specs.declared.Slot.{Slot}
use Rattle.bar.specs.declared.Slot.TheVariants.{Unused, Bar, Upper, Bad}
use Rattle.bar.specs.Bar.{slots}
use Rattle.bar.specs.BarLaws.{length_slots}
use Rattle.bar.specs.Values.{value_of, registers_of, placed_values}
use Rattle.plan_rule.specs.Layout.{Placed}
use Rattle.plan_function.specs.Registers.{bar_start, values_from}
use Rattle.board_record.specs.declared.Function.{Function}
use Rattle.board_record.specs.Function.{is_bridge, slot_count}
use Rattle.plan_answer.specs.Plan.{slots_of}
use Rattle.plan_sheet.specs.Fits.{FunctionFits}

drop_one : (rs : List ℕ) (i : ℕ) → get_or (drop 1 rs) i 0 ≡ get_or rs (suc i) 0
drop_one [] i = refl
drop_one (r ∷ rs) i = refl

module _ (k : ℕ) (xs : List Placed) where
  -- the two rows of read-backs agree as far as there are slots
  values_placed : (ss : List Slot) (s : ℕ) (rs rs' : List ℕ) (base : ℕ → ℕ) → ((j : ℕ) → bar_start k (s + j) xs ≡ base j)
      → ((i : ℕ) → i < length ss → get_or rs i 0 ≡ get_or rs' i 0) → values_from k s xs ss rs ≡ placed_values base ss rs'
  unfolding values_from placed_values
  values_placed [] s rs rs' base starts same = refl
  values_placed (x ∷ ss) s rs rs' base starts same =
      go x (values_placed ss (suc s) (drop 1 rs) (drop 1 rs') (λ j. base (suc j)) later_starts later_same)
    where
      later_starts : (j : ℕ) → bar_start k (suc s + j) xs ≡ base (suc j)
      later_starts j = let place : suc s + j ≡ s + suc j = omega arith in rw place (starts (suc j))

      later_same : (i : ℕ) → i < length ss → get_or (drop 1 rs) i 0 ≡ get_or (drop 1 rs') i 0
      later_same i l = drop_one rs i ∙ same (suc i) (omega arith) ∙ sym (drop_one rs' i)

      first : bar_start k s xs ≡ base 0
      first = ap (λ (n : ℕ). bar_start k n xs) (sym (add-zero s)) ∙ starts 0

      go : (y : Slot) → values_from k (suc s) xs ss (drop 1 rs) ≡ placed_values (λ j. base (suc j)) ss (drop 1 rs')
          → values_from k s xs (y ∷ ss) rs ≡ placed_values base (y ∷ ss) rs'
      go Unused rest = ap (0 ∷◌) rest
      go (Bar q wide z) rest =
          ap₂ ◌++◌ (ap₂ (λ (r b : ℕ). registers_of (Bar q wide z) (value_of (Bar q wide z) r b)) (same 0 (omega arith)) first) rest
      go Upper rest = rest
      go Bad rest = ap (0 ∷◌) rest

-- the read-backs of the slots that a function has
abbrev pub slot_readbacks : Function → List ℕ
slot_readbacks f = take (slot_count f) f.readbacks

pub length_slot_readbacks : (f : Function) → FunctionFits f → length (slot_readbacks f) ≡ slot_count f
length_slot_readbacks f fits = length-take-le (slot_count f) f.readbacks (omega (arith, most (is_bridge f), fits.six))
  where
    most : (t : Bool) → cond t 2 6 ≤ 6
    most true = omega arith
    most false = omega arith

pub values_of_record : (k : ℕ) (xs : List Placed) (f : Function) → FunctionFits f
    → values_from k 0 xs (slots_of f) f.readbacks ≡ placed_values (λ j. bar_start k j xs) (slots (slot_readbacks f)) (slot_readbacks f)
values_of_record k xs f fits =
    values_placed k xs (slots (slot_readbacks f)) 0 f.readbacks (slot_readbacks f) (λ j. bar_start k j xs)
    (λ j. ap (λ (n : ℕ). bar_start k n xs) (omega arith))
    (λ i l. sym (get_or-take (slot_count f) f.readbacks i 0 (omega (arith, length_slots (slot_readbacks f), length_slot_readbacks f fits))))
