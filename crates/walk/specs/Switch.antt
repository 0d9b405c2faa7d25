-- Document 02, E13, "One card's switch", over registers: one function's command word, for a request from the host and for one from a card.
-- Assumes nothing.
use Rattle.std.specs.Prelude.{◌≡◌, Bool, cond, List, [], ◌∷◌}
use Prim.Native.Nat.{ℕ, zero, suc}
use Rattle.lists.specs.Lists.{◌∈◌}
use Rattle.walk.specs.Ranges.{Holds}
use Rattle.walk.specs.Registers.{Registers, Item, items}
use Rattle.walk.specs.Tally.{Tally, none, one, several, tally_on}
use Rattle.walk.specs.Climb.{Up, to_host, across, halts, bar_holds, up_from}

-- no BAR and no window of function k holds the address, enabled or not
abbrev pub Clear : List Registers → ℕ → ℕ → Type 0
Clear fs address k = (i : Item) → i ∈ items fs → i.owner.node.number ≡ k → ¬ Holds i.range address

-- command bits, by record number, that differ at function k at most
abbrev pub SameBut : List Registers → ℕ → (ℕ → Bool) → (ℕ → Bool) → Type 0
SameBut fs k bits bits' = (f : Registers) → f ∈ fs → ¬ (f.node.number ≡ k) → bits f.node.number ≡ bits' f.node.number

-- ## From a card: the bridges that a climb goes up through

abbrev pub up_one : Tally → Up → (ℕ → List ℕ) → List ℕ
up_one none (across number b) on = number ∷ on b
up_one none to_host on = []
up_one none (halts n) on = []
up_one (one c) u on = []
up_one several u on = []

module _ (tally : ℕ → Tally) (up : ℕ → Up) where
  unfoldable pub ups_over : ℕ → ℕ → List ℕ
  ups_over zero bus = []
  ups_over (suc n) bus = up_one (tally bus) (up bus) (λ b. ups_over n b)

  -- Bus numbers fall on the way up, so the bus's own number bounds it.
  unfoldable pub ups_from : ℕ → List ℕ
  ups_from bus = ups_over (suc bus) bus

-- of a request from a function: none where it does not leave the function
unfoldable pub gone_up : (ℕ → Bool) → (ℕ → Bool) → List Registers → ℕ → ℕ → Registers → List ℕ
gone_up enabled master fs address root f =
    cond (master f.node.number)
    (cond (bar_holds address f) [] (ups_from (tally_on enabled fs address) (up_from master fs address root) f.node.bus)) []
