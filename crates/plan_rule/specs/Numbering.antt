-- Bus numbers. Document 01: the root bus is the first bus; bridges take the next numbers in record order as secondary; subordinate is the
-- greatest number at or below the bridge. Document 02, E10: a bridge's spare buses come right after all buses below it, inside its
-- subordinate. Assumes nothing.
use Rattle.std.specs.Prelude.{Bool, cond, List, [], ◌∷◌, ◌++◌, ℕ, suc, ◌+◌, ◌-◌, length, get_or, take, drop}
use Rattle.plan_rule.specs.Records.{Function, run}
use Rattle.plan_rule.specs.Preorder.{parent_of}

-- A bridge takes one bus number and, after all below it, its spares; `bridges` is how many numbers a list of records takes
abbrev pub weight : Function → ℕ
weight f = cond f.bridge (suc f.spare_buses) 0

abbrev pub own_spare : Function → ℕ
own_spare f = cond f.bridge f.spare_buses 0

unfoldable pub bridges : List Function → ℕ
bridges [] = 0
bridges (f ∷ fs) = weight f + bridges fs

-- The same in document 02's words: so many bridges, and so many spare buses
unfoldable pub bridge_count : List Function → ℕ
bridge_count [] = 0
bridge_count (f ∷ fs) = cond f.bridge 1 0 + bridge_count fs

unfoldable pub spare_count : List Function → ℕ
spare_count [] = 0
spare_count (f ∷ fs) = own_spare f + spare_count fs

-- The spares of a record and of the bridges above it, which come later: one number for the host, then one for each record
unfoldable pub overs_from : List ℕ → List Function → List ℕ
overs_from acc [] = acc
overs_from acc (f ∷ fs) = overs_from (acc ++ ((get_or acc f.parent 0 + own_spare f) ∷ [])) fs

unfoldable pub over : List Function → ℕ → ℕ
over fs k = get_or (overs_from (0 ∷ []) fs) k 0

-- The number of the bus below record k: the first bus for the host, else the bridge's secondary
unfoldable pub bus_number : ℕ → List Function → ℕ → ℕ
bus_number first fs k = first + (bridges (take k fs) - over fs k)

-- The last record below record k
unfoldable pub last_below : List Function → ℕ → ℕ
last_below fs k = k + length (run k (drop k fs))

-- The greatest bus number at or below record k, a bridge, its own spares last
unfoldable pub subordinate_of : ℕ → List Function → ℕ → ℕ
subordinate_of first fs k = first + (bridges (take (last_below fs k) fs) - over fs (parent_of fs k))

-- A record with its numbers. `secondary`, `subordinate` and `spares` are a bridge's
pub record Numbered : Type 0 where
  pub number : ℕ
  pub parent : ℕ
  pub bridge : Bool
  pub bus : ℕ
  pub secondary : ℕ
  pub subordinate : ℕ
  pub spares : ℕ

abbrev pub row_of : ℕ → List Function → ℕ → Function → Numbered
row_of first all k f =
    record {
      number = k;
      parent = f.parent;
      bridge = f.bridge;
      bus = bus_number first all f.parent;
      secondary = bus_number first all k;
      subordinate = subordinate_of first all k;
      spares = own_spare f;
    }

unfoldable pub numbered_from : ℕ → List Function → ℕ → List Function → List Numbered
numbered_from first all k [] = []
numbered_from first all k (f ∷ fs) = row_of first all k f ∷ numbered_from first all (suc k) fs

-- Every record with its numbers
abbrev pub numbered : ℕ → List Function → List Numbered
numbered first fs = numbered_from first fs 1 fs
