-- Sizing, as a walk over the records computes it: a bus from its functions, and a bridge from its bus. `bus_laid` says in one go what a loop
-- over the functions of one bus comes to, for all pools at once; `function_laid` is one turn of that loop. A record has number i + 1 at
-- index i. Assumes nothing.
use Rattle.std.specs.Prelude.{Bool, true, false, cond, ◌&&◌, List, [], ◌∷◌, ℕ, suc, ◌+◌, ◌*◌, max, eqb, ltb, length, drop}
use Rattle.arith.specs.Align.{align_up}
use Rattle.plan_rule.specs.Pools.{Pool, low, high, io, granule, same_pool}
use Rattle.plan_rule.specs.Records.{Host, Bar, Function, run}
use Rattle.plan_rule.specs.Layout.{Piece, select}
use Rattle.plan_rule.specs.declared.Extent.{Extent}
use Rattle.plan_rule.specs.Pieces.{window_size, window_align, window_piece, pieces}

abbrev pub nothing : Extent
nothing = record { end = 0; align = 0 }

-- One item more
abbrev pub grow : Extent → ℕ → ℕ → Extent
grow e size align = record { end = align_up align e.end + size; align = max e.align align }

unfoldable pub extend : Extent → List Piece → Extent
extend e [] = e
extend e (p ∷ ps) = extend (grow e p.size p.align) ps

-- The BARs of pool q
unfoldable pub with_bars : Pool → Extent → List Bar → Extent
with_bars q e [] = e
with_bars q e (b ∷ bs) = with_bars q (cond (same_pool b.pool q) (grow e b.size b.size) e) bs

-- A bridge's window over what its bus comes to: none where there is nothing inside
abbrev pub with_window : Pool → Extent → Extent → Extent
with_window q e inner = cond (eqb inner.align 0) e (grow e (window_size q inner.end) (window_align q inner.align))

-- The spare room at a bus's end, in the low pool
abbrev pub spare_grown : Bool → Extent → ℕ → Extent
spare_grown true e n = e
spare_grown false e n = grow e (n * granule low) (granule low)

abbrev pub with_spare : Pool → ℕ → Extent → Extent
with_spare low n e = spare_grown (eqb n 0) e n
with_spare high n e = e
with_spare io n e = e

-- How far the walk has come, and what it has laid out in each pool
pub record Laid : Type 0 where
  pub next : ℕ
  pub extent : Pool → Extent

abbrev pub laid_from : ℕ → Laid
laid_from i = record { next = i; extent = λ q. nothing }

-- The walk over the functions of bus b, from l on
unfoldable pub bus_laid : List Function → ℕ → Laid → Laid
bus_laid fs b l =
    record {
      next = l.next + length (run b (drop l.next fs));
      extent = λ q. extend (l.extent q) (select b q (pieces (suc l.next) (drop l.next fs)));
    }

abbrev pub bars_laid : Function → Laid → Laid
bars_laid f l = record { next = suc l.next; extent = λ q. with_bars q (l.extent q) f.bars }

abbrev pub window_laid : Laid → Laid → Laid
window_laid l inner = record { next = inner.next; extent = λ q. with_window q (l.extent q) (inner.extent q) }

-- A bus with n MiB of spare room
abbrev pub spared : ℕ → Laid → Laid
spared n l = record { next = l.next; extent = λ q. with_spare q n (l.extent q) }

-- One function: its BARs, and a bridge's windows over its own bus
unfoldable pub function_laid : List Function → Function → Laid → Laid
function_laid fs f l =
    cond f.bridge (window_laid (bars_laid f l) (spared f.spare_low (bus_laid fs (suc l.next) (laid_from (suc l.next)))))
    (bars_laid f l)

-- The walk over the root bus starts at the pools' bases
abbrev pub root_laid : Host → Laid
root_laid h = record { next = 0; extent = λ q. record { end = h.base q; align = 0 } }

-- Is there anything, and does it end past a pool with this last address?
abbrev pub ends_past : ℕ → Extent → Bool
ends_past last x = ltb 0 x.align && ltb (suc last) x.end

-- The window of record k, itself on bus b, over what its bus comes to in pool q
abbrev pub window_for : ℕ → ℕ → Pool → Extent → List Piece
window_for k b q x = cond (eqb x.align 0) [] (window_piece k b q x.end x.align ∷ [])
