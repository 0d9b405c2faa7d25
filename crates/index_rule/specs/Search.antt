-- A search among owners that are sorted by start: what an index holds at each position, the position that a search comes to, and what that
-- position says. Assumes nothing.
use Rattle.std.specs.Prelude.{Bool, cond, not, ◌&&◌, List, [], ℕ, zero, suc, ◌-◌, ◌/◌, ◌≤◌, ◌<◌, length, get_or, eqb, leb, ltb}
use Rattle.walk.specs.Walk.{Outcome, delivered, refused, no_owner}
use Rattle.index_layout.specs.Keys.{no_key}
use Rattle.index_layout.specs.Words.{record_in, bridges_in, size_in}
use Rattle.index_rule.specs.Owners.{Owner, owners_of, word_of}
use Rattle.index_rule.specs.Insert.{inserted}

unfoldable pub sorted_owners : List ℕ → List ℕ → List Owner
sorted_owners host s = inserted (λ (x : Owner). x.start) [] (owners_of host s)

abbrev pub nobody : Owner
nobody = record { start = 0; stop = 0; number = 0; bridges = 0 }

-- Position 0 stands before the first owner, and behind the last there are only fillers.
unfoldable pub key_at : List Owner → ℕ → ℕ
key_at xs zero = 0
key_at xs (suc i) = cond (ltb i (length xs)) (get_or xs i nobody).start no_key

unfoldable pub word_at : List Owner → ℕ → ℕ
word_at xs zero = 0
word_at xs (suc i) = cond (ltb i (length xs)) (word_of (get_or xs i nobody)) 0

-- keys of m positions that do not fall
abbrev pub Rises : (ℕ → ℕ) → ℕ → Type 0
Rises key m = (i j : ℕ) → i ≤ j → j < m → key i ≤ key j

-- p is the last of m positions whose key is not above `a`
pub record Last (key : ℕ → ℕ) (m a p : ℕ) : Type 0 where
  pub inside : p < m
  pub not_above : key p ≤ a
  pub then_above : (q : ℕ) → p < q → q < m → a < key q

-- a position holds the key `a`: it is an owner's, and `a` lies within its size from its start on
abbrev pub is_over : ℕ → ℕ → ℕ → Bool
is_over start word a = not (eqb (record_in word) 0) && (leb start a && eqb ((a - start) / size_in word) 0)

abbrev pub answer_at : ℕ → ℕ → ℕ → Outcome
answer_at start word a = cond (is_over start word a) (delivered (record_in word) (bridges_in word)) (refused no_owner)
