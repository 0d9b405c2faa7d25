-- Document 01, "Numbering and placing" and "The sheet": what the planner answers and what the sheet then holds. Where every BAR and window
-- lies and which numbers every bus has is the crate placing's rule, on the board's own records. Assumes nothing.
use Rattle.std.specs.Prelude.{ℕ, suc, ◌+◌, ◌*◌, cond, List, [], ◌∷◌, ◌++◌, length, take, drop, eqb, ltb}
use Rattle.pools.specs.declared.Pool.TheVariants.{Low, High, Io}
use Rattle.bar.specs.declared.Slot.{Slot}
use Rattle.bar.specs.Bar.{slots}
use Rattle.window.specs.Window.{closed}
use Rattle.plan_rule.specs.Records as placing
use Rattle.plan_rule.specs.Layout.{Placed}
use Rattle.plan_rule.specs.Placing.{placed}
use Rattle.plan_rule.specs.Numbering.{bus_number, subordinate_of}
use Rattle.plan_rule.specs.Refusals.{refusal_of}
use Rattle.board_record.specs.declared.Host.{Host}
use Rattle.board_record.specs.declared.Function.{Function}
use Rattle.board_record.specs.Function.{is_bridge, slot_count}
use Rattle.board.specs.Board.{board_number, host_of, functions_of}
use Rattle.board.specs.ToPlacing.{to_host, to_placing}
use Rattle.sheet_record.specs.Entry.{Entry}
use Rattle.sheet.specs.Sheet.{sheet_length}
use Rattle.plan_answer.specs.declared.Planning.{Planning}
use Rattle.plan_answer.specs.declared.Planning.TheVariants.{Planned as PlannedAt, Refused}
use Rattle.sheet_bytes.specs.Layout.{Planned, sheet_bytes}
-- the registers of a record, from where everything lies
unfoldable pub use Rattle.plan_function.specs.Registers.{bar_start, window_for, values_from}
pub use Rattle.plan_function.specs.Registers.{is_part, is_window_in}

-- ## Registers

abbrev pub slots_of : Function → List Slot
slots_of f = slots (take (slot_count f) f.readbacks)

-- a bridge's own, and what a function that is no bridge has in their place
abbrev pub of_bridge : {A : Type 0} → Function → A → A → A
of_bridge f x y = cond (is_bridge f) x y

module _ (first : ℕ) (fs : List placing.Function) (xs : List Placed) where
  -- record k of the plan
  abbrev pub entry_for : ℕ → Function → Entry
  entry_for k f =
      record {
        id = bus_number first fs f.parent * 256 + f.devfn;
        header = f.header;
        values = values_from k 0 xs (slots_of f) f.readbacks;
        readbacks = f.readbacks;
        primary = of_bridge f (bus_number first fs f.parent) 0;
        secondary = of_bridge f (bus_number first fs k) 0;
        subordinate = of_bridge f (subordinate_of first fs k) 0;
        low = of_bridge f (window_for k Low xs) (closed Low);
        high = of_bridge f (window_for k High xs) (closed High);
        io = of_bridge f (window_for k Io xs) (closed Io);
      }

  -- the records from number k on
  unfoldable pub planned_from : ℕ → List Function → List Planned
  planned_from k [] = []
  planned_from k (f ∷ rest) = record { entry = entry_for k f; command = f.command } ∷ planned_from (suc k) rest

-- the plan of a board
unfoldable pub plan_of : Host → List Function → List Planned
plan_of h fs = let ps = to_placing fs in planned_from h.first_bus ps (placed (to_host h) ps) 1 fs

-- ## The answer: the board's own number, then 30 to 33, then short room (11)

unfoldable pub on_room : ℕ → ℕ → Planning
on_room size room = cond (ltb room size) (Refused 11) (PlannedAt size)

unfoldable pub on_board : Host → List Function → ℕ → Planning
on_board h fs room =
    let n = refusal_of (to_host h) (to_placing fs) in
    cond (eqb n 0) (on_room (sheet_length (length fs)) room) (Refused n)

unfoldable pub planning : List ℕ → ℕ → Planning
planning b room =
    let rest = on_board (host_of b) (functions_of b) room in
    cond (eqb (board_number b) 0) rest (Refused (board_number b))

-- document 01's number of a planning
abbrev pub number_of : Planning → ℕ
number_of (PlannedAt n) = 0
number_of (Refused n) = n

-- the sheet's bytes followed by what was there; unchanged when refused
abbrev pub sheet_as : Planning → List ℕ → List ℕ → List ℕ
sheet_as (PlannedAt n) b room = sheet_bytes (plan_of (host_of b) (functions_of b)) ++ drop n room
sheet_as (Refused n) b room = room

unfoldable pub sheet_after : List ℕ → List ℕ → List ℕ
sheet_after b room = sheet_as (planning b (length room)) b room
