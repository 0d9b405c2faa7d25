-- The placing pass over a board's records: what it asks, and how far it has come. Assumes nothing.
use Rattle.std.specs.Prelude.{◌≡◌, false, List, [], map, ℕ, suc, ◌+◌, ◌*◌, ◌≤◌, ◌<◌, length, take, drop}
use Rattle.std.proofs.lemmas.List.Edits.{sets}
use Rattle.pools.specs.declared.Pool.{Pool}
use Rattle.plan_rule.specs.Cap.{cap}
use Rattle.plan_rule.specs.Records.{Host as PlacingHost}
use Rattle.records.specs.Limits.{most_functions}
use Rattle.records.specs.Records.{parts_from, any_part}
use Rattle.board_record.specs.declared.Host.{Host}
use Rattle.board_record.specs.Function.{function_of_part, header_wrong}
use Rattle.board.specs.Board.{board_number, host_of, functions_of}
use Rattle.board.specs.ToPlacing.{to_host, to_placing}
use Rattle.plan_function.specs.declared.Cursors.{Cursors}
use Rattle.plan_function.specs.Kept.{ends_of}
use Rattle.plan_function.proofs.JoinLaws.{Room}
use Rattle.plan_function.proofs.LoopLaws.{Agrees}
use Rattle.sheet.specs.Sheet.{sheet_length}
use Rattle.sheet_bytes.specs.Layout.{Planned, sheet_bytes}
use Rattle.plan_answer.specs.Plan.{plan_of}
use Rattle.plan_pass.specs.StepLaws.{ends_in, Prepared}

-- the root bus, and a bus below each record
abbrev pub most_buses : ℕ
most_buses = 1 + most_functions

abbrev pub plan_on : List ℕ → List Planned
plan_on b = plan_of (host_of b) (functions_of b)

-- nothing is placed by a pool's last address, and a closed pool may have any: room is told with lasts that bound what lies in each
abbrev pub with_last : PlacingHost → (Pool → ℕ) → PlacingHost
with_last h last = record { first_bus = h.first_bus; last_bus = h.last_bus; base = h.base; last = last }

-- the cursors' array holds those before record i + 1
abbrev pub Holding : List ℕ → ℕ → List ℕ → Type 0
Holding b i c = Agrees (to_host (host_of b)) (to_placing (functions_of b)) (length (functions_of b)) i (ends_in c)

-- an accepted board on which nothing runs out, the arrays that count and size it, every cursor at its pool's base, and the sheet's version
-- byte written
pub record Ready (b : List ℕ) (first : ℕ) (counts memo c sheet : List ℕ) : Type 0 where
  pub accepted : board_number b ≡ 0
  pub first_bus_lem : first ≡ (host_of b).first_bus
  pub prepared : Prepared first (functions_of b) counts memo
  pub last : Pool → ℕ
  pub room : Room (with_last (to_host (host_of b)) last) (to_placing (functions_of b))
  pub cursors_room : 3 * suc (length (functions_of b)) ≤ length c
  pub bases : Holding b 0 c
  pub sheet_room : sheet_length (length (functions_of b)) ≤ length sheet
  pub version : sheet ≡ sets sheet 0 (sheet_bytes [])

-- the records before number i + 1 are placed and written; the next stands at `at`
pub record Standing (b c₀ sheet₀ c sheet : List ℕ) (at i : ℕ) : Type 0 where
  pub rest : map function_of_part (parts_from b at) ≡ drop i (functions_of b)
  pub headers : any_part header_wrong (parts_from b at) ≡ false
  pub within : i ≤ length (functions_of b)
  pub cursors_length : length c ≡ length c₀
  pub holding : Holding b i c
  pub sheet_length_lem : length sheet ≡ length sheet₀
  pub written : sheet ≡ sets sheet₀ 0 (sheet_bytes (take i (plan_on b)))

-- ## The whole pass

-- every cursor at first, up to 2^62
abbrev pub bases_for : Host → Cursors
bases_for h = record { low = cap h.low.base; high = cap h.high.base; io = cap h.io.base }

-- the first n buses have these cursors
abbrev pub Filled : Cursors → ℕ → List ℕ → Type 0
Filled base n c = (b : ℕ) → b < n → (q : Pool) → ends_in c b q ≡ ends_of base q

-- an accepted board on which nothing runs out, the arrays that count and size it, and room for its sheet
pub record Placing (b : List ℕ) (h : Host) (counts memo sheet : List ℕ) : Type 0 where
  pub accepted : board_number b ≡ 0
  pub host_read : h ≡ host_of b
  pub prepared : Prepared h.first_bus (functions_of b) counts memo
  pub last : Pool → ℕ
  pub room : Room (with_last (to_host (host_of b)) last) (to_placing (functions_of b))
  pub sheet_room : sheet_length (length (functions_of b)) ≤ length sheet
