-- What the planner's sizing asks and what it answers: a bus from its functions, a bridge from its bus, and the whole board from the pools'
-- bases. Assumes nothing.
use Rattle.std.specs.Prelude.{◌≡◌, Bool, false, ◌&&◌, List, ℕ, ◌+◌, ◌*◌, ◌≤◌, ◌<◌, eqb, ltb, length, get_or}
use Rattle.std.proofs.lemmas.List.Edits.{sets}
use Rattle.pools.specs.declared.Pool.{Pool}
use Rattle.pools.specs.declared.Pool.TheVariants.{Low, High, Io}
use Rattle.bar.specs.Bar.{any_bad}
use Rattle.plan_rule.specs.Records.{Function, DepthFirst, only_host}
use Rattle.plan_rule.specs.Above.{above_by_parents, above_bus}
use Rattle.records.specs.Limits.{most_above}
use Rattle.plan_rule.specs.Sizing as placing
use Rattle.plan_rule.specs.Sizing.{bus_laid, function_laid}
use Rattle.plan_rule.proofs.SizingLaws.{Ready}
use Rattle.plan_sizing.specs.declared.Laid.{Laid}
use Rattle.plan_sizing.specs.Functions.{slots_in, header_in, functions_in, set_at, function_at}
use Rattle.plan_sizing.specs.Cut.{says, cut, Whole}
use Rattle.plan_sizing.specs.Memo.{memo_from, memo_between}

-- the arrays of a lawful board: long enough, depth-first, no more bridges above a function than may be, and no read-back unlawful
pub record Board (ps hs ss : List ℕ) : Type 0 where
  pub heads : length ps ≤ length hs
  pub readbacks : 6 * length ps ≤ length ss
  pub ordered : DepthFirst only_host 1 (functions_in ps hs ss)
  pub shallow : (k : ℕ) → length (above_by_parents (functions_in ps hs ss) k) ≤ most_above
  pub readable : (i : ℕ) → i < length ps → any_bad (slots_in (header_in (get_or hs i 0)) (set_at ss i)) ≡ false

-- a function whose BARs can be laid out: it has its header type and its set, and no read-back is unlawful
pub record OwnBars (hs ss : List ℕ) (l : Laid) : Type 0 where
  pub head : l.next < length hs
  pub set : 6 * l.next + 6 ≤ length ss
  pub whole : Whole l
  pub readable : any_bad (slots_in (header_in (get_or hs l.next 0)) (set_at ss l.next)) ≡ false

-- is there a record at index i, and is it on bus b?
abbrev pub is_child : List ℕ → ℕ → ℕ → Bool
is_child ps i b = ltb i (length ps) && eqb (get_or ps i 0) b

-- the walk over bus b stands at l, and buses may lie d bridges below it
pub record Standing (ps hs ss memo : List ℕ) (b d : ℕ) (l : Laid) : Type 0 where
  pub board : Board ps hs ss
  pub room : 7 * length ps ≤ length memo
  pub whole : Whole l
  pub within : l.next ≤ length ps
  pub deep : most_above < length (above_bus (functions_in ps hs ss) b) + d
  pub ready : Ready (functions_in ps hs ss) b l.next

-- from l the walk has come to r, which is what is kept of m, and has stored the numbers of the records that it passed
pub record Walked (fs : List Function) (memo memo' : List ℕ) (l : Laid) (m : placing.Laid) (r : Laid) : Type 0 where
  pub laid : r ≡ cut m
  pub stored : memo' ≡ sets memo (7 * l.next) (memo_between fs l.next r.next)

abbrev pub BusSized : List ℕ → List ℕ → List ℕ → List ℕ → List ℕ → ℕ → Laid → Laid → Type 0
BusSized ps hs ss memo memo' b l r = Walked (functions_in ps hs ss) memo memo' l (bus_laid (functions_in ps hs ss) b (says l)) r

abbrev pub FunctionSized : List ℕ → List ℕ → List ℕ → List ℕ → List ℕ → Laid → Laid → Type 0
FunctionSized ps hs ss memo memo' l r =
    Walked (functions_in ps hs ss) memo memo' l (function_laid (functions_in ps hs ss) (function_at ps hs ss l.next) (says l)) r

-- the loop over bus b, from `start`, stands at l
pub record OnBus (ps hs ss memo memo' : List ℕ) (b d : ℕ) (start l : Laid) : Type 0 where
  pub standing : Standing ps hs ss memo' b d l
  pub from : start.next ≤ l.next
  pub same : cut (bus_laid (functions_in ps hs ss) b (says l)) ≡ cut (bus_laid (functions_in ps hs ss) b (says start))
  pub stored : memo' ≡ sets memo (7 * start.next) (memo_between (functions_in ps hs ss) start.next l.next)

-- ## The whole board

abbrev pub bases_of : ℕ → ℕ → ℕ → Pool → ℕ
bases_of l h i Low = l
bases_of l h i High = h
bases_of l h i Io = i

-- the walk over the root bus starts at the pools' bases
abbrev pub root_from : (Pool → ℕ) → placing.Laid
root_from bases = record { next = 0; extent = λ q. record { end = bases q; align = 0 } }

pub record BoardSized (fs : List Function) (bases : Pool → ℕ) (memo memo' : List ℕ) (r : Laid) : Type 0 where
  pub laid : r ≡ cut (bus_laid fs 0 (root_from bases))
  pub stored : memo' ≡ sets memo 0 (memo_from fs 0 fs)
