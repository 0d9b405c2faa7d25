-- Document 01, "The walk": what the walk reads of a record in one address space: the function's BARs and open windows as ranges, and apart
-- from these the command bits that enable them. Assumes nothing.
use Rattle.std.specs.Prelude.{ℕ, ◌+◌, ◌/◌, ◌%◌, ◌^◌, Bool, false, cond, ◌&&◌, List, [], ◌∷◌, ◌++◌, take, drop, eqb}
use Rattle.pools.specs.declared.Pool.{Pool}
use Rattle.pools.specs.declared.Pool.TheVariants.{Low, High, Io}
use Rattle.pools.specs.declared.Space.{Space}
use Rattle.pools.specs.declared.Space.TheVariants.{Memory, Io as Ports}
use Rattle.pools.specs.Pools.{in_space}
use Rattle.bar.specs.declared.Slot.{Slot}
use Rattle.bar.specs.declared.Slot.TheVariants.{Unused, Bar, Upper, Bad}
use Rattle.bar.specs.Bar.{slots}
use Rattle.bar.specs.Values.{value_here, base_of}
use Rattle.window.specs.declared.Window.{Window}
use Rattle.window.specs.Window.{start, stop, is_open}
use Rattle.walk.specs.Ranges.{Range, holds}
use Rattle.walk.specs.Ranges as ranges
use Rattle.walk.specs.Registers.{Node, Registers}
use Rattle.sheet_record.specs.Entry.{Entry, slot_count, bus, devfn, bridges}

-- the pool's name on the walk, where bus numbers are a pool too
abbrev pub pool_of : Pool → ranges.Pool
pool_of Low = ranges.low
pool_of High = ranges.high
pool_of Io = ranges.io

-- ## BARs: where the value says, as long as the read-back says. An upper half is part of the BAR before.

abbrev pub bar_range : Pool → ℕ → ℕ → Range
bar_range q base size = record { pool = pool_of q; start = base; stop = base + size }

-- of the slot whose registers start where these values do
abbrev pub bar_here : Space → Slot → List ℕ → List Range
bar_here space Unused vs = []
bar_here space (Bar q wide size) vs =
    cond (in_space space q) (bar_range q (base_of (Bar q wide size) (value_here (Bar q wide size) vs)) size ∷ []) []
bar_here space Upper vs = []
bar_here space Bad vs = []

unfoldable pub bars_from : Space → List Slot → List ℕ → List Range
bars_from space [] vs = []
bars_from space (x ∷ xs) vs = bar_here space x vs ++ bars_from space xs (drop 1 vs)

-- the same as a test, of the slot's value
abbrev pub bar_holds : Space → Slot → ℕ → ℕ → Bool
bar_holds space Unused v address = false
bar_holds space (Bar q wide size) v address = in_space space q && holds (bar_range q (base_of (Bar q wide size) v) size) address
bar_holds space Upper v address = false
bar_holds space Bad v address = false

abbrev pub slots_of : Entry → List Slot
slots_of e = slots (take (slot_count e.header) e.readbacks)

abbrev pub bars_of : Space → Entry → List Range
bars_of space e = bars_from space (slots_of e) e.values

-- ## Windows: only open ones, low before high. I/O registers have 8 bits, so nothing lies above FFFFh.

abbrev pub open_range : Pool → Window → List Range
open_range q w = cond (is_open q w) (record { pool = pool_of q; start = start q w; stop = stop q w } ∷ []) []

abbrev pub windows_of : Space → Entry → List Range
windows_of Memory e = open_range Low e.low ++ open_range High e.high
windows_of Ports e = open_range Io e.io

-- ## The function, by its number

abbrev pub node_of : ℕ → Entry → Node
node_of k e =
    record { number = k; bus = bus e; devfn = devfn e; bridge = bridges e; secondary = e.secondary; subordinate = e.subordinate }

abbrev pub function_of : Space → ℕ → Entry → Registers
function_of space k e = record { node = node_of k e; bars = bars_of space e; windows = windows_of space e }

-- ## Bits of the command word: 0 enables I/O, 1 memory, and 2 is bus master

abbrev pub command_bit : ℕ → ℕ → Bool
command_bit bit command = eqb (command / 2 ^ bit % 2) 1

abbrev pub space_bit : Space → ℕ
space_bit Memory = 1
space_bit Ports = 0

abbrev pub master_bit : ℕ
master_bit = 2

abbrev pub enables : Space → ℕ → Bool
enables space command = command_bit (space_bit space) command
