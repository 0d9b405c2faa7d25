-- The walk over a board's items: what it asks, and how far it has come. Assumes nothing.
use Rattle.std.specs.Prelude.{◌≡◌, true, false, List, map, ℕ, suc, ◌+◌, ◌*◌, ◌≤◌, ◌<◌, max, ltb, length, drop}
use Rattle.arith.specs.Powers.{PowerOfTwo}
use Rattle.pools.specs.declared.Pool.{Pool}
use Rattle.pools.specs.Pools.{granule}
use Rattle.bar.specs.Bar.{any_bad}
use Rattle.records.specs.Limits.{most_functions}
use Rattle.records.specs.Records.{parts_from, any_part}
use Rattle.plan_rule.specs.Records as placing
use Rattle.plan_rule.specs.declared.Extent.{Extent}
use Rattle.plan_rule.specs.Pieces.{pieces}
use Rattle.plan_rule.specs.Cap.{limit}
use Rattle.board_record.specs.declared.Host.{Host}
use Rattle.board_record.specs.declared.Span.{Span}
use Rattle.board_record.specs.declared.Function.{Function}
use Rattle.board_record.specs.Function.{is_bridge, function_of_part, header_wrong}
use Rattle.board.specs.Board.{board_number, host_of, functions_of}
use Rattle.board.specs.ToPlacing.{to_host, to_placing}
use Rattle.plan_sizing.specs.Memo.{laid_at}
use Rattle.plan_function.specs.Kept.{extent_in}
use Rattle.plan_function.specs.Pass.{cursors_at}
use Rattle.plan_function.proofs.LoopLaws.{Agrees}
use Rattle.plan_pass.specs.Step.{extents_in}
use Rattle.plan_pass.specs.StepLaws.{ends_in, Prepared}
use Rattle.plan_needs.specs.Bases.{laid_host}
use Rattle.plan_items.specs.declared.Told.{Told}
use Rattle.plan_items.specs.declared.Watched.{Watched}
use Rattle.plan_items.specs.declared.Seen.{Seen}
use Rattle.plan_items.specs.Items.{items_from, items_of, first_out, most_lost}
use Rattle.plan_items.specs.Walk.{nothing_seen, see_all, record_told, slots_of}
use Rattle.plan_items.specs.ItemsLaws.{told_in}

-- what the whole walk comes to
abbrev pub seen_in : placing.Host → List placing.Function → Pool → Seen
seen_in h fs q = record { out = first_out h fs q; most = most_lost h fs q }

-- the pool that is looked at
abbrev pub watched_in : Pool → Span → Watched
watched_in q x = record { pool = q; closed = ltb x.last x.base; last = x.last }

-- ## The board's items of pool q

abbrev pub placed_on : List ℕ → placing.Host
placed_on b = laid_host (to_host (host_of b))

abbrev pub told_on : List ℕ → Pool → List Told
told_on b q = told_in q (items_of (to_host (host_of b)) (to_placing (functions_of b)))

-- those from the record at index i on
abbrev pub told_from : List ℕ → Pool → ℕ → List Told
told_from b q i =
    let fs = to_placing (functions_of b) in
    told_in q (items_from (cursors_at (placed_on b) fs i) (pieces (suc i) (drop i fs)))

-- ## One record, from the arrays

abbrev pub inner_in : List ℕ → ℕ → Pool → Extent
inner_in memo i q = extent_in (extents_in (laid_at memo i)) q

abbrev pub told_next : Pool → Function → ℕ → List ℕ → List ℕ → List Told
told_next q f i memo c = record_told q f (suc i) (ends_in c f.parent q) (inner_in memo i q)

pub record Seeable (q : Pool) (f : Function) (i : ℕ) (memo c : List ℕ) : Type 0 where
  pub few : i < most_functions
  pub stored : 7 * i + 7 ≤ length memo
  pub room : 3 * f.parent + 3 ≤ length c
  pub cut : ends_in c f.parent q ≤ limit
  pub readable : any_bad (slots_of f) ≡ false
  pub aligned : is_bridge f ≡ true → PowerOfTwo (max (granule q) (inner_in memo i q).align)

-- ## All records

-- the cursors' array holds those before record i + 1
abbrev pub Holding : List ℕ → ℕ → List ℕ → Type 0
Holding b i c = Agrees (placed_on b) (to_placing (functions_of b)) (length (functions_of b)) i (ends_in c)

-- an accepted board, the arrays that count and size it, and every cursor where its pool is laid out from
pub record Walking (b : List ℕ) (first : ℕ) (counts memo c : List ℕ) : Type 0 where
  pub accepted : board_number b ≡ 0
  pub prepared : Prepared first (functions_of b) counts memo
  pub cursors_room : 3 * suc (length (functions_of b)) ≤ length c
  pub bases : Holding b 0 c

-- the records before number i + 1 are seen, and what is seen of the rest is still to come; the next stands at `at`
pub record Walked (b : List ℕ) (w : Watched) (c₀ c : List ℕ) (seen : Seen) (at i : ℕ) : Type 0 where
  pub rest : map function_of_part (parts_from b at) ≡ drop i (functions_of b)
  pub headers : any_part header_wrong (parts_from b at) ≡ false
  pub within : i ≤ length (functions_of b)
  pub cursors_length : length c ≡ length c₀
  pub holding : Holding b i c
  pub to_come_lem : see_all w seen (told_from b w.pool i) ≡ see_all w nothing_seen (told_on b w.pool)

-- an accepted board, and the arrays that count and size it
pub record Walkable (b : List ℕ) (h : Host) (counts memo : List ℕ) : Type 0 where
  pub accepted : board_number b ≡ 0
  pub host_read : h ≡ host_of b
  pub prepared : Prepared h.first_bus (functions_of b) counts memo
