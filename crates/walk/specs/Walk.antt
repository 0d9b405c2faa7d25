-- Document 01, The walk: from bus to bus by the tally of each, until a BAR is reached or a refusal. The tally of a bus is any function of
-- its number, so that routing by address and by ID are one walk. Assumes nothing.
use Rattle.std.specs.Prelude.{ℕ, zero, suc, ◌+◌, ◌<◌, ◌≡◌, List, [], ◌∷◌}
use Rattle.walk.specs.Registers.{bar, window}
use Rattle.walk.specs.Tally.{Tally, none, one, several}

-- Document 01's numbers for a packet that no function gets.
abbrev pub no_owner : ℕ
no_owner = 40

abbrev pub contested : ℕ
contested = 41

-- Delivered to the record with this number after so many bridges, or refused by number.
pub data Outcome : Type 0 where
  delivered : ℕ → ℕ → Outcome
  refused : ℕ → Outcome

-- One bus: what its tally says, with the walk on the next bus handed in.
abbrev pub settle : Tally → ℕ → (ℕ → Outcome) → Outcome
settle none crossed next = refused no_owner
settle several crossed next = refused contested
settle (one (bar n)) crossed next = delivered n crossed
settle (one (window n secondary)) crossed next = next secondary

-- The walk over at most so many buses.
unfoldable pub walk_over : ℕ → (ℕ → Tally) → ℕ → ℕ → Outcome
walk_over zero tally bus crossed = refused no_owner
walk_over (suc n) tally bus crossed = settle (tally bus) crossed (λ b. walk_over n tally b (crossed + 1))

-- There are 256 bus numbers. Where they rise at each bridge no walk needs more buses than that (`walk_step`).
unfoldable pub walk_from : (ℕ → Tally) → ℕ → ℕ → Outcome
walk_from tally bus crossed = walk_over 256 tally bus crossed

-- A window leads to a greater bus number, as check 27 has it.
pub record Rising (tally : ℕ → Tally) : Type 0 where
  pub rises : (bus n secondary : ℕ) → tally bus ≡ one (window n secondary) → (bus < secondary) × (secondary < 256)

-- The walk from a bus follows windows of the records with these numbers, in this order, and ends at a BAR of the last number.
unfoldable pub Trail : (ℕ → Tally) → ℕ → List ℕ → ℕ → Type 0
Trail tally bus [] number = tally bus ≡ one (bar number)
Trail tally bus (n ∷ ns) number = (secondary : ℕ) × (tally bus ≡ one (window n secondary)) × Trail tally secondary ns number
