-- Document 02, E11, for good sheets, by record numbers: when a request from function k arrives at another function, when it goes to the
-- host, and when it is refused with 44. Who has a BAR over the address, and which bridges stand above a function, is handed in, so that it
-- is said the same of a planned board and of any accepted sheet. Assumes nothing.
use Rattle.std.specs.Prelude.{◌≡◌, ◌⊎◌, ◌↔◌, Bool, true, false, not, List, ◌∷◌, ◌++◌, ℕ, ◌+◌, eqb, length}
use Rattle.lists.specs.Lists.{◌∈◌, All, Some, keep, any}
use Rattle.walk.specs.Ranges.{Holds}
use Rattle.walk.specs.Registers.{Registers, Item, items}
use Rattle.walk.specs.TallyLaws.{Claims}
use Rattle.walk.specs.Walk.{no_owner}
use Rattle.walk.specs.Climb.{Sent, arrives, leaves, stops, not_master}

-- those that are not among the others
unfoldable pub without : List ℕ → List ℕ → List ℕ
without others ns = keep (λ n. not (any (eqb n) others)) ns

-- one of the windows of the bridge with this number holds the address, enabled or not
pub record HasWindow (fs : List Registers) (address n : ℕ) : Type 0 where
  pub bridge : Registers
  pub in_sheet : bridge ∈ fs
  pub number_is : bridge.node.number ≡ n
  pub is_bridge_lem : bridge.node.bridge ≡ true
  pub window_holds_lem : Some (λ r. Holds r address) bridge.windows

-- no BAR and no window that is enabled on the bus holds the address
abbrev pub Quiet : (ℕ → Bool) → List Registers → ℕ → ℕ → Type 0
Quiet enabled fs address bus = (i : Item) → i ∈ items fs → ¬ Claims enabled address bus i

-- Who has a BAR over the address, who a window, who is enabled and who a bus master; the bridges above a function; and that nothing on the
-- root bus claims.
pub record Board : Type 1 where
  pub HasBarOver : ℕ → Type 0
  pub HasWindowOver : ℕ → Type 0
  pub enabled : ℕ → Bool
  pub master : ℕ → Bool
  pub above : ℕ → List ℕ
  pub RootQuiet : Type 0

module _ (b : Board) where
  -- up the bridges above k that are not above j, down those above j that are not above k
  abbrev pub crossed_up : ℕ → ℕ → List ℕ
  crossed_up k j = without (b.above j) (b.above k)

  abbrev pub crossed_down : ℕ → ℕ → List ℕ
  crossed_down k j = without (b.above k) (b.above j)

  -- "delivery as exactly as demand 3 does, to another function, with enables for bridges crossed down and bus master for the starting
  -- function and those up"
  pub record Sends (k j : ℕ) : Type 0 where
    pub is_other_lem : ¬ (j ≡ k)
    pub bar_holds_lem : b.HasBarOver j
    pub is_enabled : b.enabled j ≡ true
    pub down_enabled : All (λ n. b.enabled n ≡ true) (crossed_down k j)
    pub start_master : b.master k ≡ true
    pub up_masters : All (λ n. b.master n ≡ true) (crossed_up k j)

  -- a bridge that lets the request through
  abbrev pub Passes : ℕ → Type 0
  Passes n = (b.master n ≡ true) × ¬ b.HasWindowOver n

  pub record Leaves (k : ℕ) : Type 0 where
    pub start_master : b.master k ≡ true
    pub not_own : ¬ b.HasBarOver k
    pub all_pass : All Passes (b.above k)
    pub root_quiet : b.RootQuiet

  -- the first bridge on the way that does not let it through is no bus master, and its windows do not hold the address
  pub record Halts (k : ℕ) : Type 0 where
    pub start_master : b.master k ≡ true
    pub not_own : ¬ b.HasBarOver k
    pub before : List ℕ
    pub here : ℕ
    pub rest : List ℕ
    pub above_is : b.above k ≡ before ++ (here ∷ rest)
    pub pass_before : All Passes before
    pub blind_here : ¬ b.HasWindowOver here
    pub no_master : b.master here ≡ false

  abbrev pub Unmastered : ℕ → Type 0
  Unmastered k = (b.master k ≡ false) ⊎ Halts k

  -- what becomes of a request from function k
  pub record Answers (k : ℕ) (o : Sent) : Type 0 where
    pub arrives_exactly : (j count : ℕ)
        → (o ≡ arrives j count) ↔ (Sends k j × (count ≡ length (crossed_up k j) + length (crossed_down k j)))
    pub leaves_exactly : (count : ℕ) → (o ≡ leaves count) ↔ (Leaves k × (count ≡ length (b.above k)))
    pub halts_exactly : (o ≡ stops not_master) ↔ Unmastered k
    pub else_no_owner : ((j : ℕ) → ¬ Sends k j) → ¬ Leaves k → ¬ Unmastered k → o ≡ stops no_owner
    -- "never 41"
    pub no_other_number : (n : ℕ) → o ≡ stops n → (n ≡ no_owner) ⊎ (n ≡ not_master)
