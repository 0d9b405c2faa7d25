-- The search in an index, on any bytes: a bucket's entry leads to some keys, and how many of them are not above the address is counted
-- without a branch. Assumes nothing.
use Rattle.std.specs.Prelude.{◌≡◌, ℕ, zero, suc, ◌+◌, ◌-◌, ◌*◌, ◌/◌, ◌<◌, ◌≤◌, cond, List, ◌∷◌, length, get_or, nat_le, nat_lt, slice_index_or}
use Rattle.endian.specs.Endian.{le}
use Rattle.index_layout.specs.Places.{index_size, functions_place, root_place, width_place, bucket_place, most_slots}
use Rattle.index_layout.specs.Keys.{no_key, segment_of}
use Rattle.index_slots.specs.Slots.{Slot, no_slot, key_at, slot_at}
use Rattle.index_table.specs.Table.{least, bucket_by}

-- a key as the search sees it: one more than 2^63 above the address counts as 0
unfoldable pub cut : ℕ → ℕ → ℕ
cut a k = cond (nat_lt (a + 9223372036854775808) k) 0 k

-- the key of position i as the search sees it
abbrev pub key_of : List ℕ → ℕ → ℕ → ℕ → ℕ
key_of o n a i = cut a (key_at o n i)

-- how many of the k keys from i on are not above the address
unfoldable pub count_from : ℕ → (ℕ → ℕ) → ℕ → ℕ → ℕ
count_from zero key a i = 0
count_from (suc k) key a i = cond (nat_le (key i) a) 1 0 + count_from k key a (i + 1)

-- how many of the keys at the ends of three runs of q positions behind lo are not above the address
abbrev pub runs_past : (ℕ → ℕ) → ℕ → ℕ → ℕ → ℕ
runs_past key a lo q =
    cond (nat_le (key (lo + q)) a) 1 0 + cond (nat_le (key (lo + 2 * q)) a) 1 0 + cond (nat_le (key (lo + 3 * q)) a) 1 0

-- past so many runs of q positions
unfoldable pub onward : (ℕ → ℕ) → ℕ → ℕ → ℕ → ℕ
onward key a lo q = lo + q * runs_past key a lo q

-- the k positions behind lo quartered while they are more than 16, then counted
unfoldable pub last_in : ℕ → (ℕ → ℕ) → ℕ → ℕ → ℕ → ℕ
last_in zero key a lo k = lo + count_from k key a (lo + 1)
last_in (suc f) key a lo k =
    cond (nat_lt 16 k) (last_in f key a (onward key a lo (k / 4)) (k - 3 * (k / 4))) (lo + count_from k key a (lo + 1))

-- what the table and the first bytes say, cut at the most slots that there can be
abbrev pub lead_at : List ℕ → ℕ → ℕ → ℕ → ℕ
lead_at o n w a = least (le 2 o (bucket_place (bucket_by o n w a))) (most_slots n)

abbrev pub width_at : List ℕ → ℕ → ℕ
width_at o n = least (le 2 o width_place) (most_slots n)

-- the position found for a key of segment w
unfoldable pub found_at : List ℕ → ℕ → ℕ → ℕ → ℕ
found_at o n w a = least (last_in (width_at o n) (λ i. key_of o n a i) a (lead_at o n w a) (width_at o n)) (most_slots n)

-- p is the last of m positions whose key is not above the address
pub record Last (key : ℕ → ℕ) (m a p : ℕ) : Type 0 where
  pub inside : p < m
  pub not_above : key p ≤ a
  pub then_above : (q : ℕ) → p < q → q < m → a < key q

-- what a search counts on in an index of n functions with these slots, in order of their keys
pub record Searchable (n root : ℕ) (ys : List Slot) (index : List ℕ) : Type 0 where
  pub size : index_size n ≤ length index
  pub count : le 2 index functions_place ≡ n
  pub root_bus_lem : get_or index root_place 0 ≡ root
  pub slots : (i : ℕ) → i ≤ length ys → slot_at index n i ≡ slice_index_or (no_slot ∷ ys) i no_slot
  pub last : (a : ℕ) → a < no_key
      → Last (λ i. (get_or (no_slot ∷ ys) i no_slot).key) (suc (length ys)) a (found_at index n (segment_of a) a)
