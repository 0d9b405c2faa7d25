-- What the planner's first pass leaves of a lawful board, and the number that follows from it. Assumes nothing.
use Rattle.std.specs.Prelude.{◌≡◌, Bool, true, cond, List, ℕ, ◌+◌, ◌*◌, ◌≤◌, ltb, length, take}
use Rattle.records.specs.Limits.{most_functions}
use Rattle.plan_rule.specs.Numbering.{bridges}
use Rattle.plan_rule.specs.declared.Extent.{Extent}
use Rattle.plan_rule.specs.Sizing.{bus_laid, root_laid, ends_past}
use Rattle.board_record.specs.declared.Span.{Span}
use Rattle.board_record.specs.declared.Host.{Host}
use Rattle.board_record.specs.declared.Function.{Function}
use Rattle.board_record.specs.Function.{is_bridge, spare_low}
use Rattle.board.specs.Board.{functions_of}
use Rattle.board.specs.ToPlacing.{to_host, to_placing}
use Rattle.plan_sizing.specs.Cut.{cut}
use Rattle.plan_sizing.specs.Functions.{functions_in}
use Rattle.plan_sizing.specs.Memo.{laid_at, below}
use Rattle.plan_sizing.specs.Board.{Board, bases_of, BoardSized}
use Rattle.plan_tables.specs.Tables.{Room}
use Rattle.plan_tables.specs.Counts.{most_taken, Counted, Countable, AllCounted}
use Rattle.plan_pass.specs.StepLaws.{RecordAt}
use Rattle.planner.specs.declared.Measured.{Measured}

-- what the root bus comes to in a pool, held against the pool
abbrev pub runs_out : Span → Extent → Bool
runs_out x e = cond (ltb x.last x.base) (ltb 0 e.align) (ends_past x.last e)

unfoldable pub refusal_by : Host → Measured → ℕ
refusal_by h m =
    cond (ltb h.last_bus (h.first_bus + m.bridges)) 30
    (cond (runs_out h.low m.root.low) 31
    (cond (runs_out h.high m.root.high) 32
    (cond (runs_out h.io m.root.io) 33 0)))

-- the first n functions of the arrays are a lawful board's, and the other arrays have room for them
pub record Measurable (ps hs ss : List ℕ) (n : ℕ) (counts memo : List ℕ) : Type 0 where
  pub arrays : Room n ps hs ss
  pub few : n ≤ most_functions
  pub board : Board (take n ps) (take n hs) (take (6 * n) ss)
  pub countable : Countable (take n ps) (take n hs) counts
  pub memo_room : 7 * n ≤ length memo

-- what counting and sizing them leaves
pub record CountedAndSized (ps hs ss : List ℕ) (n : ℕ) (h : Host) (counts memo counts' memo' : List ℕ) (m : Measured) : Type 0 where
  pub functions : m.functions ≡ n
  pub counted : (xs : List ℕ) → AllCounted (functions_in (take n ps) (take n hs) xs) counts' (length (take n ps)) m.bridges
  pub few_buses : m.bridges ≤ most_taken * most_functions
  pub counts_kept : length counts' ≡ length counts
  pub sized : BoardSized (functions_in (take n ps) (take n hs) (take (6 * n) ss)) (bases_of h.low.base h.high.base h.io.base)
      memo memo' m.root

-- the board measured: its functions and the bus numbers they take, what its root bus comes to from the bases of h, and the arrays that
-- count those numbers and keep what lies below each bridge
pub record IsMeasured (b : List ℕ) (h : Host) (counts memo : List ℕ) (m : Measured) : Type 0 where
  pub functions : m.functions ≡ length (functions_of b)
  pub bridges_are : m.bridges ≡ bridges (to_placing (functions_of b))
  pub root : m.root ≡ cut (bus_laid (to_placing (functions_of b)) 0 (root_laid (to_host h)))
  pub few_buses : m.bridges ≤ most_taken * most_functions
  pub counts_room : 2 * length (functions_of b) + 2 ≤ length counts
  pub counted : Counted (to_placing (functions_of b)) counts (length (functions_of b))
  pub memo_room : 7 * length (functions_of b) ≤ length memo
  pub stored : (i : ℕ) (f : Function) → RecordAt (functions_of b) i f → is_bridge f ≡ true → laid_at memo i
      ≡ below (to_placing (functions_of b)) i (spare_low f)
