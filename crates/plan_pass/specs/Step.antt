-- One record of the placing pass: its registers and the cursors after it, from the cursors of every bus (three numbers each, at 3 * b), the
-- bridges counted so far and what sizing stored. Assumes nothing.
use Rattle.std.specs.Prelude.{◌≡◌, ℕ, suc, ◌+◌, ◌-◌, ◌*◌, ◌≤◌, ◌<◌, max, false, cond, List, [], ◌∷◌, length, get_or, take, drop}
use Rattle.std.proofs.lemmas.List.Edits.{sets}
use Rattle.arith.specs.Powers.{PowerOfTwo}
use Rattle.pools.specs.declared.Pool.{Pool}
use Rattle.pools.specs.declared.Pool.TheVariants.{Low, High, Io}
use Rattle.pools.specs.Pools.{granule}
use Rattle.bar.specs.Bar.{slots, any_bad}
use Rattle.window.specs.Window.{closed}
use Rattle.board_record.specs.declared.Function.{Function}
use Rattle.board_record.specs.Function.{function_of_part, is_bridge, slot_count}
use Rattle.plan_sizing.specs.declared.Laid.{Laid}
use Rattle.plan_sizing.specs.Memo.{laid_at}
use Rattle.plan_function.specs.declared.Cursors.{Cursors}
use Rattle.plan_function.specs.declared.Extents.{Extents}
use Rattle.plan_function.specs.declared.BarsPlaced.{BarsPlaced}
use Rattle.plan_function.specs.declared.WindowsPlaced.{WindowsPlaced}
use Rattle.plan_function.specs.Kept.{ends_of, extent_in, bars_placed, windows_placed}
use Rattle.sheet_bytes.specs.declared.Registers.{Registers}
use Rattle.sheet_bytes.specs.Layout.{planned_of, record_bytes}

-- the function of the record of n bytes at a place of a board
abbrev pub function_at : List ℕ → ℕ → ℕ → Function
function_at board at n = function_of_part (take n (drop (at + 2) board))

abbrev pub cursors_in : List ℕ → ℕ → Cursors
cursors_in c b = record { low = get_or c (3 * b) 0; high = get_or c (3 * b + 1) 0; io = get_or c (3 * b + 2) 0 }

abbrev pub ends_list : Cursors → List ℕ
ends_list c = c.low ∷ c.high ∷ c.io ∷ []

abbrev pub extents_in : Laid → Extents
extents_in l = record { low = l.low; high = l.high; io = l.io }

-- the numbers that the first k records take, from the first bus on, less the spares of record p and of the bridges above it, which come
-- later: two counts for each record, at 2 * k
abbrev pub number_in : ℕ → List ℕ → ℕ → ℕ → ℕ
number_in first counts k p = first + (get_or counts (2 * k) 0 - get_or counts (2 * p + 1) 0)

-- the bus number of record k's own bus
abbrev pub bus_in : ℕ → List ℕ → ℕ → ℕ
bus_in first counts k = number_in first counts k k

-- there is such a number, and it is a byte
pub record NumberFits (first : ℕ) (counts : List ℕ) (k p : ℕ) : Type 0 where
  pub taken : 2 * k + 2 ≤ length counts
  pub over : 2 * p + 2 ≤ length counts
  pub fits : get_or counts (2 * p + 1) 0 ≤ get_or counts (2 * k) 0
  pub byte : number_in first counts k p < 256

-- its BARs, from the cursors of the bus it is on
abbrev pub bars_in : List ℕ → Function → BarsPlaced
bars_in c f = bars_placed f.readbacks (slot_count f) (ends_of (cursors_in c f.parent))

-- a bridge's windows, after its BARs
abbrev pub windows_in : List ℕ → List ℕ → ℕ → Function → WindowsPlaced
windows_in memo c i f = windows_placed (extents_in (laid_at memo i)) (bars_in c f).cursors (cursors_in c (suc i))

-- ## What is written of a record, and the cursors after it

-- with these values
abbrev pub leaf_with : ℕ → List ℕ → Function → List ℕ → Registers
leaf_with first counts f values =
    record {
      id = bus_in first counts f.parent * 256 + f.devfn;
      command = f.command;
      header = f.header;
      values = values;
      readbacks = f.readbacks;
      primary = 0;
      secondary = 0;
      subordinate = 0;
      low = closed Low;
      high = closed High;
      io = closed Io;
    }

-- with these values and windows, and the records below it up to number `last`
abbrev pub bridge_with : ℕ → List ℕ → ℕ → Function → ℕ → List ℕ → WindowsPlaced → Registers
bridge_with first counts i f last values w =
    record {
      id = bus_in first counts f.parent * 256 + f.devfn;
      command = f.command;
      header = f.header;
      values = values;
      readbacks = f.readbacks;
      primary = bus_in first counts f.parent;
      secondary = bus_in first counts (suc i);
      subordinate = number_in first counts last f.parent;
      low = w.low;
      high = w.high;
      io = w.io;
    }

unfoldable pub leaf_registers : ℕ → List ℕ → List ℕ → Function → Registers
leaf_registers first counts c f = leaf_with first counts f (bars_in c f).values

unfoldable pub leaf_next : List ℕ → Function → List ℕ
leaf_next c f = sets c (3 * f.parent) (ends_list (bars_in c f).cursors)

module _ (first : ℕ) (counts memo c : List ℕ) (i : ℕ) (f : Function) where
  unfoldable pub bridge_registers : Registers
  bridge_registers = bridge_with first counts i f (laid_at memo i).next (bars_in c f).values (windows_in memo c i f)

  abbrev pub registers_of : Registers
  registers_of = cond (is_bridge f) bridge_registers (leaf_registers first counts c f)

  -- as bytes of the sheet
  abbrev pub record_of : List ℕ
  record_of = record_bytes (planned_of registers_of)

module _ (memo c : List ℕ) (i : ℕ) (f : Function) where
  unfoldable pub bridge_next : List ℕ
  bridge_next = sets (sets c (3 * f.parent) (ends_list (windows_in memo c i f).cursors)) (3 * suc i) (ends_list (windows_in memo c i f).below)

  abbrev pub cursors_next : List ℕ
  cursors_next = cond (is_bridge f) bridge_next (leaf_next c f)

-- ## What a record asks of the arrays

pub record Placeable (first : ℕ) (counts c : List ℕ) (f : Function) : Type 0 where
  pub numbered : NumberFits first counts f.parent f.parent
  pub room : 3 * f.parent + 3 ≤ length c
  pub readable : any_bad (slots (take (slot_count f) f.readbacks)) ≡ false

-- a bridge below record p: its own bus, and the last bus below it
pub record Bridged (first : ℕ) (counts memo c : List ℕ) (i p : ℕ) : Type 0 where
  pub numbered : NumberFits first counts (suc i) (suc i)
  pub room : 3 * suc i + 3 ≤ length c
  pub stored : 7 * i + 7 ≤ length memo
  pub last_numbered : NumberFits first counts (laid_at memo i).next p
  pub aligned : (q : Pool) → PowerOfTwo (max (granule q) (extent_in (extents_in (laid_at memo i)) q).align)
