-- The bus numbers that functions take, and the spares still to come: two bytes for the host and for each function, modulo 256. Where all
-- numbers fit in a byte, nothing is lost. Assumes nothing.
use Rattle.std.specs.Prelude.{◌≡◌, cond, List, ℕ, suc, ◌+◌, ◌*◌, ◌%◌, ◌≤◌, ◌<◌, length, get_or, take}
use Rattle.bar.specs.Header.{is_bridge}
use Rattle.records.specs.Limits.{most_functions}
use Rattle.plan_rule.specs.Records.{Function}
use Rattle.plan_rule.specs.Numbering.{bridges, over}
use Rattle.plan_sizing.specs.Functions.{header_in, spare_buses_in}

-- a bridge takes its own number and its spares
abbrev pub spare_of : ℕ → ℕ
spare_of head = cond (is_bridge (header_in head)) (spare_buses_in head) 0

abbrev pub weight_of : ℕ → ℕ
weight_of head = cond (is_bridge (header_in head)) (suc (spare_buses_in head)) 0

-- and so at most these
abbrev pub most_taken : ℕ
most_taken = 256

-- of record k, or of the host: the numbers that the first k functions take, and the spares of the record and of the bridges above it
pub record CountedAt (fs : List Function) (counts : List ℕ) (k : ℕ) : Type 0 where
  pub taken_is : get_or counts (2 * k) 0 ≡ bridges (take k fs) % 256
  pub over_is : get_or counts (2 * k + 1) 0 ≡ over fs k % 256

-- up to record n
abbrev pub Counted : List Function → List ℕ → ℕ → Type 0
Counted fs counts n = (k : ℕ) → k ≤ n → CountedAt fs counts k

-- what the pass asks of its arrays: a parent is an earlier record
pub record Countable (ps hs counts : List ℕ) : Type 0 where
  pub few : length ps ≤ most_functions
  pub heads : length ps ≤ length hs
  pub earlier : (i : ℕ) → i < length ps → get_or ps i 0 ≤ i
  pub room : 2 * length ps + 2 ≤ length counts

-- what it leaves: each record's two numbers, and how many numbers all take
pub record AllCounted (fs : List Function) (counts : List ℕ) (n r : ℕ) : Type 0 where
  pub counted : Counted fs counts n
  pub all : r ≡ bridges fs

-- the pass stands before function i, with t numbers taken
pub record Counting (fs : List Function) (counts : List ℕ) (i t : ℕ) : Type 0 where
  pub counted : Counted fs counts i
  pub taken : t ≡ bridges (take i fs)
