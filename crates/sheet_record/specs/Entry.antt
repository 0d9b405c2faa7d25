-- Document 01, "The sheet": what one function's record says: its ID, its registers and its read-backs.
-- The command word is kept apart from the rest of a record, since no check and no range looks at it. Assumes nothing.
use Rattle.std.specs.Prelude.{ℕ, zero, suc, ◌+◌, ◌/◌, ◌%◌, Bool, cond, List, [], ◌∷◌, get_or}
use Rattle.endian.specs.Endian.{be, le}
use Rattle.pools.specs.declared.Pool.{Pool}
use Rattle.pools.specs.declared.Pool.TheVariants.{Low, High, Io}
pub use Rattle.bar.specs.Header.{is_bridge, slot_count}
use Rattle.window.specs.declared.Window.{Window}
use Rattle.window.specs.Window.{closed}
use Rattle.sheet_record.specs.Places.{id_at, command_at, header_type_at, values_at, primary_at, secondary_at, subordinate_at}
use Rattle.sheet_record.specs.Places.{io_base_at, io_limit_at, low_base_at, low_limit_at, high_base_at, high_limit_at, upper_base_at, upper_limit_at}
use Rattle.sheet_record.specs.Places.{readbacks_at}

-- n numbers of four bytes, in the order of bytes that `read` has
unfoldable pub dwords : (List ℕ → ℕ → ℕ) → ℕ → List ℕ → ℕ → List ℕ
dwords read zero p at = []
dwords read (suc n) p at = read p at ∷ dwords read n p (at + 4)

-- ## As the bytes have it

abbrev pub id_of : List ℕ → ℕ
id_of p = be 2 p id_at

-- an ID is bus 8, device/function 8
abbrev pub bus_of : List ℕ → ℕ
bus_of p = id_of p / 256

abbrev pub command_of : List ℕ → ℕ
command_of p = le 2 p command_at

abbrev pub header_of : List ℕ → ℕ
header_of p = get_or p header_type_at 0

abbrev pub primary_of : List ℕ → ℕ
primary_of p = get_or p primary_at 0

abbrev pub secondary_of : List ℕ → ℕ
secondary_of p = get_or p secondary_at 0

abbrev pub subordinate_of : List ℕ → ℕ
subordinate_of p = get_or p subordinate_at 0

unfoldable pub window_of : Pool → List ℕ → Window
window_of Low p = record { base = le 2 p low_base_at; limit = le 2 p low_limit_at; upper_base = 0; upper_limit = 0 }
window_of High p =
    record {
      base = le 2 p high_base_at;
      limit = le 2 p high_limit_at;
      upper_base = le 4 p upper_base_at;
      upper_limit = le 4 p upper_limit_at;
    }
window_of Io p = record { base = get_or p io_base_at 0; limit = get_or p io_limit_at 0; upper_base = 0; upper_limit = 0 }

-- ## One record, without its command word. A function that is no bridge has six BAR values, no buses and closed windows.

pub record Entry : Type 0 where
  pub id : ℕ
  pub header : ℕ
  pub values : List ℕ
  pub readbacks : List ℕ
  pub primary : ℕ
  pub secondary : ℕ
  pub subordinate : ℕ
  pub low : Window
  pub high : Window
  pub io : Window

unfoldable pub entry_of : List ℕ → Entry
entry_of p =
    let bridge = is_bridge (header_of p) in
    record {
      id = id_of p;
      header = header_of p;
      values = dwords (le 4) (slot_count (header_of p)) p values_at;
      readbacks = dwords (be 4) 6 p readbacks_at;
      primary = cond bridge (primary_of p) 0;
      secondary = cond bridge (secondary_of p) 0;
      subordinate = cond bridge (subordinate_of p) 0;
      low = cond bridge (window_of Low p) (closed Low);
      high = cond bridge (window_of High p) (closed High);
      io = cond bridge (window_of Io p) (closed Io);
    }

abbrev pub bus : Entry → ℕ
bus e = e.id / 256

abbrev pub devfn : Entry → ℕ
devfn e = e.id % 256

abbrev pub bridges : Entry → Bool
bridges e = is_bridge e.header
