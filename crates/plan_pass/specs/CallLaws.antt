-- One record of the placing pass, from what its calls answer. Assumes nothing.
use Rattle.std.specs.Prelude.{◌≡◌}
use Rattle.std.proofs.Math.Path.{ap, ap₂}
use Rattle.std.proofs.Common.{◌∙◌}
use mathlib.Core.List.{List}
use Prim.Native.Nat.{ℕ, suc, ◌*◌}
use Rattle.std.proofs.Math.Seq.{sets}
use Rattle.board_record.specs.declared.Function.{Function}
use Rattle.board_record.specs.Function.{slot_count}
use Rattle.plan_sizing.specs.Memo.{laid_at}
use Rattle.plan_function.specs.declared.Cursors.{Cursors}
use Rattle.plan_function.specs.declared.Extents.{Extents}
use Rattle.plan_function.specs.declared.BarsPlaced.{BarsPlaced}
use Rattle.plan_function.specs.declared.WindowsPlaced.{WindowsPlaced}
use Rattle.plan_function.specs.Kept.{ends_of, bars_placed, windows_placed}
use Rattle.sheet_bytes.specs.declared.Registers.{Registers}
use Rattle.plan_pass.specs.Step.{cursors_in, ends_list, extents_in, bars_in, windows_in, leaf_with, leaf_registers, leaf_next, bridge_with}
use Rattle.plan_pass.specs.Step.{bridge_registers, bridge_next}

pub bars_in_lem : {r : BarsPlaced} {n : ℕ} {k : Cursors} (c : List ℕ) (f : Function) → n ≡ slot_count f → k ≡ cursors_in c f.parent
    → r ≡ bars_placed f.readbacks n (ends_of k) → r ≡ bars_in c f
bars_in_lem c f n_is k_is e = e ∙ ap₂ (λ (n : ℕ) (k : Cursors). bars_placed f.readbacks n (ends_of k)) n_is k_is

pub windows_in_lem : {r : WindowsPlaced} {x : Extents} {k : Cursors} {j : ℕ} (memo c : List ℕ) (i : ℕ) (after : Cursors) → j ≡ suc i → x
    ≡ extents_in (laid_at memo i)
    → k ≡ cursors_in c j → r ≡ windows_placed x after k → r ≡ windows_placed (extents_in (laid_at memo i)) after (cursors_in c (suc i))
windows_in_lem memo c i after j_is x_is k_is e =
    e ∙ ap₂ (λ (x : Extents) (k : Cursors). windows_placed x after k) x_is (k_is ∙ ap (cursors_in c) j_is)

-- ## A function that is no bridge

pub leaf_registers_join : {r : Registers} {bars : BarsPlaced} (first : ℕ) (counts c : List ℕ) (f : Function) → bars ≡ bars_in c f
    → r ≡ leaf_with first counts f bars.values → r ≡ leaf_registers first counts c f
unfolding leaf_registers
leaf_registers_join first counts c f b e = e ∙ ap (λ (x : BarsPlaced). leaf_with first counts f x.values) b

pub leaf_next_join : {c' : List ℕ} {bars : BarsPlaced} (c : List ℕ) (f : Function) → bars ≡ bars_in c f
    → c' ≡ sets c (3 * f.parent) (ends_list bars.cursors) → c' ≡ leaf_next c f
unfolding leaf_next
leaf_next_join c f b e = e ∙ ap (λ (x : BarsPlaced). sets c (3 * f.parent) (ends_list x.cursors)) b

-- ## A bridge

module _ (memo c : List ℕ) (i : ℕ) (f : Function) {bars : BarsPlaced} {w : WindowsPlaced} (b : bars ≡ bars_in c f)
    (e : w ≡ windows_placed (extents_in (laid_at memo i)) bars.cursors (cursors_in c (suc i))) where
  windows_are : w ≡ windows_in memo c i f
  windows_are = e ∙ ap (λ (x : BarsPlaced). windows_placed (extents_in (laid_at memo i)) x.cursors (cursors_in c (suc i))) b

  pub bridge_registers_join : {r : Registers} {l : ℕ} (first : ℕ) (counts : List ℕ) → l ≡ (laid_at memo i).next
      → r ≡ bridge_with first counts i f l bars.values w → r ≡ bridge_registers first counts memo c i f
  unfolding bridge_registers
  bridge_registers_join first counts l_is g =
      g ∙ ap₂ (λ (l : ℕ) (x : WindowsPlaced). bridge_with first counts i f l bars.values x) l_is windows_are
      ∙ ap (λ (x : BarsPlaced). bridge_with first counts i f (laid_at memo i).next x.values (windows_in memo c i f)) b

  pub bridge_next_join : {c₁ c₂ : List ℕ} {k : ℕ} → k ≡ suc i → c₁ ≡ sets c (3 * f.parent) (ends_list w.cursors) → c₂
      ≡ sets c₁ (3 * k) (ends_list w.below)
      → c₂ ≡ bridge_next memo c i f
  unfolding bridge_next
  bridge_next_join k_is e₁ e₂ =
      e₂ ∙ ap₂ (λ (l : List ℕ) (k : ℕ). sets l (3 * k) (ends_list w.below)) e₁ k_is
      ∙ ap (λ (x : WindowsPlaced). sets (sets c (3 * f.parent) (ends_list x.cursors)) (3 * suc i) (ends_list x.below)) windows_are
