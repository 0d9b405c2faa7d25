-- The BAR registers of a record as ranges: each BAR of the space lies where its value says, as long as its read-back says. Assumes nothing.
use Rattle.std.specs.Prelude.{◌≡◌, Bool, true, false, cond, get_or, drop}
use Rattle.std.proofs.Math.Path.{refl}
use Rattle.std.proofs.Common.{ap, ap₂, ◌∙◌, add-zero, drop-drop}
use mathlib.Core.List.{List, [], ◌∷◌, ◌++◌, map}
use Prim.Native.Nat.{ℕ, suc, ◌+◌}
use native.Mathlib.Omega.{arith}
use Rattle.pools.specs.declared.Pool.{Pool}
use Rattle.pools.specs.declared.Space.{Space}
use Rattle.pools.specs.Pools.{in_space}
use Rattle.bar.specs.declared.Slot.{Slot}
use Rattle.bar.specs.declared.Slot.TheVariants.{Unused, Bar, Upper, Bad}
use Rattle.plan_bars.specs.Bars.{bars_from}
use Rattle.bar.specs.Values.{value_here, base_of}
use Rattle.lists.specs.Lists.{keep}
use Rattle.walk.specs.Ranges.{Pool as RangePool}
use Rattle.sheet_record.specs.Spaces.{pool_of, bars_from as ranges_from}
use Rattle.plan_good.proofs.RecordPieces.{bar_range}
use Rattle.plan_sheet.proofs.WindowRanges.{pool_agree}

-- every BAR's value, where its registers start, says its base
abbrev pub SaysBases : List Slot → List ℕ → (ℕ → ℕ) → Type 0
SaysBases ss vs base =
    (j : ℕ) (q : Pool) (wide : Bool) (z : ℕ) → get_or ss j Unused ≡ Bar q wide z
    → base_of (Bar q wide z) (value_here (Bar q wide z) (drop j vs)) ≡ base j

module _ (sp : Space) (start : ℕ → ℕ) where
  ranges_from_lem : (ss : List Slot) (s : ℕ) (vs : List ℕ) → SaysBases ss vs (λ j. start (s + j))
      → ranges_from sp ss vs ≡ map (bar_range start) (keep (λ c. in_space sp c.pool) (bars_from s ss))
  unfolding ranges_from bars_from keep
  ranges_from_lem [] s vs says = refl
  ranges_from_lem (x ∷ ss) s vs says = go x says (ranges_from_lem ss (suc s) (drop 1 vs) later)
    where
      later : SaysBases ss (drop 1 vs) (λ j. start (suc s + j))
      later j q wide z e =
          let place : s + suc j ≡ suc s + j = omega arith in
          let next : 1 + j ≡ suc j = omega arith in
          rw (drop-drop j 1 vs, next, ← place) (says (suc j) q wide z e)

      go : (y : Slot) → SaysBases (y ∷ ss) vs (λ j. start (s + j))
          → ranges_from sp ss (drop 1 vs) ≡ map (bar_range start) (keep (λ c. in_space sp c.pool) (bars_from (suc s) ss))
          → ranges_from sp (y ∷ ss) vs ≡ map (bar_range start) (keep (λ c. in_space sp c.pool) (bars_from s (y ∷ ss)))
      go Unused said on = on
      go Upper said on = on
      go Bad said on = on
      go (Bar q wide z) said on = by (in_space sp q)
        where
          base_is : base_of (Bar q wide z) (value_here (Bar q wide z) vs) ≡ start s
          base_is = said 0 q wide z refl ∙ ap start (add-zero s)

          by : (t : Bool)
              → cond t
              (record {
                pool = pool_of q;
                start = base_of (Bar q wide z) (value_here (Bar q wide z) vs);
                stop = base_of (Bar q wide z)
                    (value_here (Bar q wide z) vs) + z;
              } ∷ [])
              []
              ++ ranges_from sp ss (drop 1 vs)
              ≡ map (bar_range start)
              (cond t (record { slot = s; pool = q; size = z } ∷ keep (λ c. in_space sp c.pool) (bars_from (suc s) ss))
              (keep (λ c. in_space sp c.pool) (bars_from (suc s) ss)))
          by true = ap₂ ◌∷◌ (ap₂ (λ (p : RangePool) (n : ℕ). record { pool = p; start = n; stop = n + z }) (pool_agree q) base_is) on
          by false = on

  pub ranges_of_bars : (ss : List Slot) (vs : List ℕ) → SaysBases ss vs start
      → ranges_from sp ss vs ≡ map (bar_range start) (keep (λ c. in_space sp c.pool) (bars_from 0 ss))
  ranges_of_bars ss vs says =
      ranges_from_lem ss 0 vs (λ j q wide z e. let none : 0 + j ≡ j = omega arith in rw none (says j q wide z e))
