-- What the search asks of a sheet's records, by number from 1, and where it ends, as the walk has it. Assumes nothing.
use Rattle.std.specs.Prelude.{ℕ, ◌-◌, ◌≤◌, ◌<◌, ◌≡◌, Bool, true, false, List, length}
use Rattle.lists.specs.Lists.{any}
use Rattle.pools.specs.declared.Space.{Space}
use Rattle.walk.specs.Ranges.{Range, holds}
use Rattle.walk.specs.Registers.{Registers}
use Rattle.walk.specs.Climb as climb
use Rattle.walk.specs.Climb.{Sent, arrives, leaves, stops, Start, starts, nowhere, start_at}
use Rattle.sheet_record.specs.Entry.{header_of, is_bridge, entry_of}
use Rattle.sheet_record.specs.Spaces.{function_of}
use Rattle.sheet.specs.Sheet.{entries_of, part_at}
use Rattle.sheet.specs.Spaces.{registers_of}
use Rattle.route_cards.specs.declared.Climbed.{Climbed}
use Rattle.route_cards.specs.declared.Climbed.TheVariants.{Arrives, Leaves, Stops}
use Rattle.route_cards.specs.declared.Up.{Up}
use Rattle.route_cards.specs.declared.Up.TheVariants.{Host, Across, Halts}

-- ## Records

-- the part and the function of the record with this number
abbrev pub part_of : List ℕ → ℕ → List ℕ
part_of s number = part_at s (number - 1)

abbrev pub function_at : Space → List ℕ → ℕ → Registers
function_at space s number = function_of space number (entry_of (part_of s number))

pub record IsRecord (s : List ℕ) (number : ℕ) : Type 0 where
  pub from_1 : 0 < number
  pub in_sheet : number ≤ length (entries_of s)

pub record IsType0 (s : List ℕ) (number : ℕ) : Type 0 where
  pub is_record : IsRecord s number
  pub no_bridge : is_bridge (header_of (part_of s number)) ≡ false

pub record IsBridgeAt (s : List ℕ) (number : ℕ) : Type 0 where
  pub is_record : IsRecord s number
  pub is_bridge_lem : is_bridge (header_of (part_of s number)) ≡ true

-- what a test for a type 0 function tells
pub record Type0Told (s : List ℕ) (number : ℕ) (b : Bool) : Type 0 where
  pub yes : b ≡ true → IsType0 s number
  pub no : b ≡ false → (space : Space) → start_at (registers_of space s) number ≡ nowhere

abbrev pub start_answer : Space → List ℕ → ℕ → Start
start_answer space s number = starts (function_at space s number)

-- ## Ranges

unfoldable pub any_holds : ℕ → List Range → Bool
any_holds address rs = any (λ r. holds r address) rs

-- ## Where a search ends

abbrev pub up_of : Up → climb.Up
up_of Host = climb.to_host
up_of (Across number own) = climb.across number own
up_of (Halts n) = climb.halts n

abbrev pub sent_of : Climbed → Sent
sent_of (Arrives number count) = arrives number count
sent_of (Leaves count) = leaves count
sent_of (Stops n) = stops n
