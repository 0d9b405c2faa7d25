-- P10's board over registers, and what the definitions make of it: one table under one claim. Its checks hold, so nothing here is said of
-- no board. Assumes nothing.
use Rattle.std.specs.Prelude.{◌≡◌, Bool, not, ℕ, eqb}
use mathlib.Core.List.{List, [], ◌∷◌}
use Rattle.pools.specs.declared.Space.{Space}
use Rattle.pools.specs.declared.Space.TheVariants.{Memory as memory_space, Io as io_space}
use Rattle.plan_rule.specs.Refusals.{refusal_of}
use Rattle.plan_rule.specs.Examples.{p10, p10_functions}
use Rattle.plan_rule.specs.Above.{above_by_parents}
use Rattle.walk.specs.Walk.{Outcome, delivered, refused}
use Rattle.walk.proofs.Delivery.{outcome_of}
use Rattle.plan_good.specs.Registers.{plan_registers, plan_host}

-- Both functions are function 0 of device 0
abbrev no_devfn : ℕ → ℕ
no_devfn k = 0

-- Every command bit set, but for one record's
abbrev all_but : ℕ → ℕ → Bool
all_but j k = not (eqb j k)

pub data Row : Type 0 where
  goes : Space → (ℕ → Bool) → ℕ → Outcome → Row
  above : ℕ → List ℕ → Row
  planned : ℕ → Row

abbrev pub Holds : Row → Type 0
Holds (goes sp enabled address o) = outcome_of (plan_host sp p10) enabled (plan_registers sp p10 p10_functions no_devfn) address ≡ o
Holds (above k bs) = above_by_parents p10_functions k ≡ bs
Holds (planned n) = refusal_of p10 p10_functions ≡ n

abbrev pub rows : List Row
rows =
    planned 0
    ∷ above 1 []
    ∷ above 2 (1 ∷ [])
    ∷ goes memory_space (all_but 0) 0xf9000ffc (delivered 2 1)
    ∷ goes memory_space (all_but 0) 0xf9001000 (refused 40)
    ∷ goes memory_space (all_but 0) 0x243fffffc (delivered 2 1)
    ∷ goes memory_space (all_but 1) 0xf9000ffc (refused 40)
    ∷ goes memory_space (all_but 2) 0xf9000ffc (refused 40)
    ∷ goes memory_space (all_but 0) 0x4000 (refused 40)
    ∷ goes io_space (all_but 0) 0x4000 (delivered 2 1)
    ∷ goes io_space (all_but 0) 0x4100 (refused 40)
    ∷ []
