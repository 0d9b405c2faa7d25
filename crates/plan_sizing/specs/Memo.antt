-- What sizing stores on the way: seven numbers for each record, what its own bus comes to if it is a bridge, and zeros if not.
-- Assumes nothing.
use Rattle.std.specs.Prelude.{cond, List, [], ◌∷◌, ◌++◌, ℕ, suc, ◌+◌, ◌-◌, ◌*◌, get_or, take, drop}
use Rattle.plan_rule.specs.Records.{Function}
use Rattle.plan_rule.specs.Sizing.{bus_laid, laid_from, spared}
use Rattle.plan_sizing.specs.declared.Laid.{Laid}
use Rattle.plan_sizing.specs.Cut.{cut}

-- next, then the end and largest alignment in the low, high and I/O pool
abbrev pub numbers_of : Laid → List ℕ
numbers_of l =
    l.next ∷ l.low.end ∷ l.low.align ∷ l.high.end ∷ l.high.align ∷ l.io.end ∷ l.io.align ∷ []

abbrev pub no_numbers : List ℕ
no_numbers = 0 ∷ 0 ∷ 0 ∷ 0 ∷ 0 ∷ 0 ∷ 0 ∷ []

-- what the seven numbers of record i say
abbrev pub laid_at : List ℕ → ℕ → Laid
laid_at m i =
    record {
      next = get_or m (7 * i) 0;
      low = record { end = get_or m (7 * i + 1) 0; align = get_or m (7 * i + 2) 0 };
      high = record { end = get_or m (7 * i + 3) 0; align = get_or m (7 * i + 4) 0 };
      io = record { end = get_or m (7 * i + 5) 0; align = get_or m (7 * i + 6) 0 };
    }

-- the bus below the bridge at index i, with n MiB of spare room
abbrev pub below : List Function → ℕ → ℕ → Laid
below fs i n = cut (spared n (bus_laid fs (suc i) (laid_from (suc i))))

abbrev pub memo_of : List Function → ℕ → Function → List ℕ
memo_of fs i f = cond f.bridge (numbers_of (below fs i f.spare_low)) no_numbers

-- the numbers of the records gs, the first of which is at index i of fs
unfoldable pub memo_from : List Function → ℕ → List Function → List ℕ
memo_from fs i [] = []
memo_from fs i (f ∷ gs) = memo_of fs i f ++ memo_from fs (suc i) gs

-- those of the records from index i to before j
abbrev pub memo_between : List Function → ℕ → ℕ → List ℕ
memo_between fs i j = memo_from fs i (take (j - i) (drop i fs))
