-- Depth-first order told by the buses that are open, deepest first, each with what its next function is judged by. Assumes nothing.
use Rattle.std.specs.Prelude.{ℕ, suc, ◌/◌, ◌%◌, Bool, true, cond, not, ◌||◌, List, [], ◌∷◌, length, eqb, ltb}
use Rattle.records.specs.Limits.{most_above}
use Rattle.board_record.specs.declared.Function.{Function}
use Rattle.board_record.specs.Function.{is_bridge}
use Rattle.board_order.specs.Order.{is_shared}

-- the bus below record `bus`: one more than the device/function of its last function, and than the device of its last shared function 0; 0
-- for none
pub record Level : Type 0 where
  pub bus : ℕ
  pub next : ℕ
  pub shared : ℕ

abbrev pub fresh : ℕ → Level
fresh k = record { bus = k; next = 0; shared = 0 }

-- a function closes the buses below its parent's
unfoldable pub close_to : ℕ → List Level → List Level
close_to p [] = []
close_to p (l ∷ ls) = let rest = close_to p ls in cond (eqb p l.bus) (l ∷ ls) rest

abbrev pub unplaced_at : ℕ → ℕ → ℕ → Function → Bool
unplaced_at next shared depth f =
    ltb f.devfn next || ltb most_above depth || not (eqb (f.devfn % 8) 0 || eqb shared (suc (f.devfn / 8)))

-- 23, where its parent's bus is the deepest that is open
abbrev pub unplaced : List Level → Function → Bool
unplaced [] f = true
unplaced (l ∷ ls) f = unplaced_at l.next l.shared (length ls) f

abbrev pub shared_after : ℕ → Function → ℕ
shared_after shared f = cond (is_shared f) (suc (f.devfn / 8)) shared

abbrev pub entered : Function → Level → Level
entered f l = record { bus = l.bus; next = suc f.devfn; shared = shared_after l.shared f }

-- a bridge, record k, opens its bus
abbrev pub opened : ℕ → Function → List Level → List Level
opened k f ls = cond (is_bridge f) (fresh k ∷ ls) ls

abbrev pub enter : ℕ → Function → List Level → List Level
enter k f [] = []
enter k f (l ∷ ls) = opened k f (entered f l ∷ ls)

-- the first of the functions after record n that is not in its place, with these buses open; 0 where each is
unfoldable pub first_unplaced : ℕ → List Level → List Function → ℕ
first_unplaced n ls [] = 0
first_unplaced n ls (f ∷ fs) =
    let later = first_unplaced (suc n) (enter (suc n) f (close_to f.parent ls)) fs in
    cond (unplaced (close_to f.parent ls) f) (suc n) later
