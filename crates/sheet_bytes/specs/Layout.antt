-- Document 01, "The sheet", as bytes: version byte 1, then for each function a length-first record: ID, the 64-byte configuration header
-- (little-endian), six read-backs (big-endian). A record has all its bytes whatever is planned. Assumes nothing.
use Rattle.std.specs.Prelude.{◌≡◌, ℕ, zero, suc, ◌+◌, ◌-◌, ◌*◌, ◌^◌, ◌<◌, false, cond, length, get_or, take, replicate}
use mathlib.Core.List.{List, [], ◌∷◌, ◌++◌, flat_map}
use Rattle.endian.specs.Endian.{be_bytes, le_bytes}
use Rattle.pools.specs.declared.Pool.TheVariants.{Low, High, Io}
use Rattle.window.specs.declared.Window.{Window}
use Rattle.window.specs.Window.{closed, Fits}
use Rattle.sheet_record.specs.Places.{registers_at, command_at, header_type_at, values_at, upper_limit_at, readbacks_at, record_size}
use Rattle.sheet_record.specs.Entry.{Entry, is_bridge, slot_count}
use Rattle.sheet_bytes.specs.declared.Registers.{Registers}

-- what the planner writes of one function: its record and its command word
pub record Planned : Type 0 where
  pub entry : Entry
  pub command : ℕ

abbrev pub zeros : ℕ → List ℕ
zeros n = replicate n 0

-- "the rest 0": from one place up to another
abbrev pub gap : ℕ → ℕ → List ℕ
gap from to = zeros (to - from)

-- n numbers of a list from index i on, each as the bytes that `write` gives: what `dwords` reads back
unfoldable pub dword_bytes : (ℕ → List ℕ) → ℕ → List ℕ → ℕ → List ℕ
dword_bytes write zero vs i = []
dword_bytes write (suc n) vs i = write (get_or vs i 0) ++ dword_bytes write n vs (i + 1)

-- ## The configuration header, from 10h to 3Fh

-- six BARs
unfoldable pub end_bytes : Entry → List ℕ
end_bytes e = dword_bytes (le_bytes 4) 6 e.values 0 ++ gap (values_at + 6 * 4) readbacks_at

-- buses, each a byte, and I/O, base and limit a byte each
abbrev pub number_bytes : ℕ → ℕ → ℕ → Window → List ℕ
number_bytes primary secondary subordinate io =
    (primary ∷ secondary ∷ subordinate ∷ 0 ∷ []) ++ (io.base ∷ io.limit ∷ 0 ∷ 0 ∷ [])

-- base and limit of a memory window
abbrev pub window_bytes : Window → List ℕ
window_bytes w = le_bytes 2 w.base ++ le_bytes 2 w.limit

-- memory, high, and the high window's upper words
abbrev pub memory_bytes : Window → Window → List ℕ
memory_bytes low high =
    window_bytes low ++ window_bytes high ++ (le_bytes 4 high.upper_base ++ le_bytes 4 high.upper_limit)

-- two BARs, then a bridge's own
unfoldable pub bridge_bytes : Entry → List ℕ
bridge_bytes e =
    dword_bytes (le_bytes 4) 2 e.values 0
    ++ number_bytes e.primary e.secondary e.subordinate e.io
    ++ memory_bytes e.low e.high
    ++ gap (upper_limit_at + 4) readbacks_at

unfoldable pub body_bytes : Entry → List ℕ
body_bytes e = cond (is_bridge e.header) (bridge_bytes e) (end_bytes e)

-- ## Whole

-- the configuration header's first 16 bytes: command and header type
unfoldable pub common_bytes : ℕ → ℕ → List ℕ
common_bytes command header = gap registers_at command_at ++ le_bytes 2 command ++ gap (command_at + 2) header_type_at ++ (header ∷ 0 ∷ [])

-- the 64-byte configuration header
unfoldable pub config_bytes : Planned → List ℕ
config_bytes p = common_bytes p.command p.entry.header ++ body_bytes p.entry

-- a record after its own length
unfoldable pub part_bytes : Planned → List ℕ
part_bytes p = be_bytes 2 p.entry.id ++ config_bytes p ++ dword_bytes (be_bytes 4) 6 p.entry.readbacks 0

unfoldable pub record_bytes : Planned → List ℕ
record_bytes p = be_bytes 2 record_size ++ part_bytes p

unfoldable pub sheet_bytes : List Planned → List ℕ
sheet_bytes ps = 1 ∷ flat_map record_bytes ps

-- ## What the writer is handed: room for six values, and a bridge's own, which count for a bridge only

-- a bridge's body
abbrev pub bridge_body : Registers → List ℕ
bridge_body r =
    dword_bytes (le_bytes 4) 2 r.values 0
    ++ number_bytes r.primary r.secondary r.subordinate r.io
    ++ memory_bytes r.low r.high
    ++ gap (upper_limit_at + 4) readbacks_at

unfoldable pub planned_of : Registers → Planned
planned_of r =
    let bridge = is_bridge r.header in
    record {
      entry = record {
        id = r.id;
        header = r.header;
        values = take (slot_count r.header) r.values;
        readbacks = r.readbacks;
        primary = cond bridge r.primary 0;
        secondary = cond bridge r.secondary 0;
        subordinate = cond bridge r.subordinate 0;
        low = cond bridge r.low (closed Low);
        high = cond bridge r.high (closed High);
        io = cond bridge r.io (closed Io);
      };
      command = r.command;
    }

-- ## What a record can hold: every number has its width, and a function that is no bridge has no buses and closed windows, as `entry_of`
-- reads them

-- each number fits four bytes
abbrev pub Dwords : List ℕ → Type 0
Dwords vs = (i : ℕ) → get_or vs i 0 < 2 ^ 32

pub record NoBridge (e : Entry) : Type 0 where
  pub primary : e.primary ≡ 0
  pub secondary : e.secondary ≡ 0
  pub subordinate : e.subordinate ≡ 0
  pub low : e.low ≡ closed Low
  pub high : e.high ≡ closed High
  pub io : e.io ≡ closed Io

pub record Shaped (e : Entry) : Type 0 where
  pub id : e.id < 2 ^ 16
  pub header : e.header < 2 ^ 8
  pub value_count : length e.values ≡ slot_count e.header
  pub values : Dwords e.values
  pub readback_count : length e.readbacks ≡ 6
  pub readbacks : Dwords e.readbacks
  pub primary : e.primary < 2 ^ 8
  pub secondary : e.secondary < 2 ^ 8
  pub subordinate : e.subordinate < 2 ^ 8
  pub low : Fits Low e.low
  pub high : Fits High e.high
  pub io : Fits Io e.io
  pub no_bridge : is_bridge e.header ≡ false → NoBridge e

pub record WellShaped (p : Planned) : Type 0 where
  pub entry : Shaped p.entry
  pub command : p.command < 2 ^ 16
