-- Document 01, "The sheet": the registers of record k, told by where everything on the board lies. Assumes nothing.
use Rattle.std.specs.Prelude.{ℕ, suc, Bool, false, cond, ◌&&◌, List, [], ◌∷◌, ◌++◌, get_or, drop, eqb}
use Rattle.pools.specs.declared.Pool.{Pool}
use Rattle.pools.specs.Pools.{same_pool}
use Rattle.bar.specs.declared.Slot.{Slot}
use Rattle.bar.specs.declared.Slot.TheVariants.{Unused, Bar, Upper, Bad}
use Rattle.bar.specs.Values.{value_of, registers_of}
use Rattle.window.specs.declared.Window.{Window}
use Rattle.window.specs.Window.{closed, opened}
use Rattle.plan_rule.specs.Layout.{Part, bar, window, Placed, end_of, is_window as is_window_part}
unfoldable pub use Rattle.plan_bars.specs.Bars.{bars_from}

-- is it BAR j of record k?
abbrev pub is_part : Part → ℕ → Bool
is_part (bar i) j = eqb i j
is_part window j = false

-- where BAR j of record k starts
unfoldable pub bar_start : ℕ → ℕ → List Placed → ℕ
bar_start k j [] = 0
bar_start k j (x ∷ xs) = let later = bar_start k j xs in cond (eqb x.piece.owner k && is_part x.piece.part j) x.start later

abbrev pub is_window_in : Pool → Placed → Bool
is_window_in q x = is_window_part x.piece.part && same_pool x.piece.pool q

-- the window of record k in pool q: closed where the rule places none
unfoldable pub window_for : ℕ → Pool → List Placed → Window
window_for k q [] = closed q
window_for k q (x ∷ xs) =
    let later = window_for k q xs in cond (eqb x.piece.owner k && is_window_in q x) (opened q x.start (end_of x)) later

-- the BAR registers of record k from slot j on: slots and read-backs from there
unfoldable pub values_from : ℕ → ℕ → List Placed → List Slot → List ℕ → List ℕ
values_from k j xs [] rs = []
values_from k j xs (Unused ∷ ss) rs = 0 ∷ values_from k (suc j) xs ss (drop 1 rs)
values_from k j xs (Bar pool wide size ∷ ss) rs =
    registers_of (Bar pool wide size) (value_of (Bar pool wide size) (get_or rs 0 0) (bar_start k j xs)) ++ values_from k (suc j) xs ss
    (drop 1 rs)
values_from k j xs (Upper ∷ ss) rs = values_from k (suc j) xs ss (drop 1 rs)
values_from k j xs (Bad ∷ ss) rs = 0 ∷ values_from k (suc j) xs ss (drop 1 rs)
