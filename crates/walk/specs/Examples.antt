-- Worked examples of the walk, as one table under one claim: document 01's P10, command bits, foreign sheets, ends at 2^64 and 255 bridges
-- in a row; and source document 001's tree by ID. Then P10's sheet is good. Assumes nothing.
use Rattle.std.specs.Prelude.{◌≡◌, Bool, true, false, not, ℕ, zero, suc, ◌^◌, ◌-◌, eqb}
use mathlib.Core.List.{List, [], ◌∷◌}
use Rattle.walk.specs.Ranges.{low, high, io, Range}
use Rattle.walk.specs.Registers.{Node, Registers, nodes}
use Rattle.walk.specs.Tally.{tally_on}
use Rattle.walk.specs.Walk.{Outcome, delivered, refused, walk_from}
use Rattle.walk.specs.Good.{Host}
use Rattle.walk.specs.Ids.{tally_by_id}

abbrev pub bridge_at : ℕ → ℕ → ℕ → ℕ → ℕ → Node
bridge_at n bus devfn sec sub = record { number = n; bus = bus; devfn = devfn; bridge = true; secondary = sec; subordinate = sub }

abbrev pub end_at : ℕ → ℕ → ℕ → Node
end_at number bus devfn = record { number = number; bus = bus; devfn = devfn; bridge = false; secondary = 0; subordinate = 0 }

abbrev pub in_low : ℕ → ℕ → Range
in_low start stop = record { pool = low; start = start; stop = stop }

-- P10: a bridge and the function behind it, in memory and in I/O
abbrev pub p10_windows : List Range
p10_windows = in_low 0xF9000000 0xF9100000 ∷ record { pool = high; start = 0x240000000; stop = 0x244000000 } ∷ []

abbrev pub p10_memory : List Registers
p10_memory =
    record {
      node = bridge_at 1 0 0 1 1;
      bars = [];
      windows = p10_windows;
    }
    ∷ record {
      node = end_at 2 1 0;
      bars = in_low 0xF9000000 0xF9001000 ∷ record { pool = high; start = 0x240000000; stop = 0x244000000 } ∷ [];
      windows = [];
    }
    ∷ []

abbrev pub p10_io : List Registers
p10_io =
    record { node = bridge_at 1 0 0 1 1; bars = []; windows = record { pool = io; start = 0x4000; stop = 0x5000 } ∷ [] }
    ∷ record { node = end_at 2 1 0; bars = record { pool = io; start = 0x4000; stop = 0x4100 } ∷ []; windows = [] }
    ∷ []

-- a BAR outside the window above it
abbrev pub outside : List Registers
outside =
    record { node = bridge_at 1 0 0 1 1; bars = []; windows = in_low 0x100000 0x200000 ∷ [] }
    ∷ record { node = end_at 2 1 0; bars = in_low 0x200000 0x201000 ∷ []; windows = [] }
    ∷ []

-- two bridges with windows over one address
abbrev pub overlapping : List Registers
overlapping =
    record { node = bridge_at 1 0 0 1 1; bars = []; windows = in_low 0x100000 0x300000 ∷ [] }
    ∷ record { node = end_at 2 1 0; bars = in_low 0x100000 0x101000 ∷ []; windows = [] }
    ∷ record { node = bridge_at 3 0 8 2 2; bars = []; windows = in_low 0x100000 0x200000 ∷ [] }
    ∷ []

-- a bridge with a BAR of its own inside its window
abbrev pub own_bar : List Registers
own_bar = record { node = bridge_at 1 0 0 1 1; bars = in_low 0x100000 0x101000 ∷ []; windows = in_low 0x100000 0x200000 ∷ [] } ∷ []

-- the last page of 64 bits
abbrev pub last_page : List Registers
last_page = record { node = end_at 1 0 0; bars = record { pool = high; start = 2 ^ 64 - 4096; stop = 2 ^ 64 } ∷ []; windows = [] } ∷ []

-- bridges in a row from this number on, and a function behind the last of them
unfoldable pub row : ℕ → ℕ → List Registers
row zero k = record { node = end_at (suc k) k 0; bars = in_low 0x100000 0x100010 ∷ []; windows = [] } ∷ []
row (suc n) k = record { node = bridge_at (suc k) k 0 (suc k) 255; bars = []; windows = in_low 0x100000 0x200000 ∷ [] } ∷ row n (suc k)

abbrev pub on : ℕ → Bool
on number = true

abbrev pub but : ℕ → ℕ → Bool
but off number = not (eqb off number)

pub record Example : Type 0 where
  pub sheet : List Registers
  pub enabled : ℕ → Bool
  pub address : ℕ
  pub outcome : Outcome

abbrev pub examples : List Example
examples =
    record { sheet = p10_memory; enabled = on; address = 0xF9000FFC; outcome = delivered 2 1 }
    ∷ record { sheet = p10_memory; enabled = on; address = 0xF9001000; outcome = refused 40 }
    ∷ record { sheet = p10_memory; enabled = on; address = 0x243FFFFFC; outcome = delivered 2 1 }
    ∷ record { sheet = p10_io; enabled = on; address = 0x40FC; outcome = delivered 2 1 }
    ∷ record { sheet = p10_memory; enabled = but 1; address = 0xF9000FFC; outcome = refused 40 }
    ∷ record { sheet = p10_memory; enabled = but 2; address = 0xF9000FFC; outcome = refused 40 }
    ∷ record { sheet = outside; enabled = on; address = 0x200000; outcome = refused 40 }
    ∷ record { sheet = overlapping; enabled = on; address = 0x100000; outcome = refused 41 }
    ∷ record { sheet = overlapping; enabled = but 3; address = 0x100000; outcome = delivered 2 1 }
    ∷ record { sheet = own_bar; enabled = on; address = 0x100FFC; outcome = refused 41 }
    ∷ record { sheet = own_bar; enabled = on; address = 0x101000; outcome = refused 40 }
    ∷ record { sheet = last_page; enabled = on; address = 2 ^ 64 - 4; outcome = delivered 1 0 }
    ∷ record { sheet = row 255 0; enabled = on; address = 0x100004; outcome = delivered 256 255 }
    ∷ record { sheet = []; enabled = on; address = 0; outcome = refused 40 }
    ∷ []

abbrev pub AsShown : Example → Type 0
AsShown e = walk_from (tally_on e.enabled e.sheet e.address) 0 0 ≡ e.outcome

-- Source document 001's tree: the bridges A, C, D, E, B, F, G, H, J, I of document 01 and the functions behind them, in record order.
abbrev pub tree_001 : List Node
tree_001 =
    bridge_at 1 0 0 1 4
    ∷ bridge_at 2 1 0 2 4
    ∷ bridge_at 3 2 0 3 3
    ∷ end_at 4 3 0
    ∷ end_at 5 3 1
    ∷ bridge_at 6 2 8 4 4
    ∷ end_at 7 4 0
    ∷ bridge_at 8 0 8 5 10
    ∷ bridge_at 9 5 0 6 10
    ∷ bridge_at 10 6 0 7 7
    ∷ end_at 11 7 0
    ∷ bridge_at 12 6 8 8 9
    ∷ bridge_at 13 8 0 9 9
    ∷ end_at 14 9 0
    ∷ bridge_at 15 6 16 10 10
    ∷ end_at 16 10 0
    ∷ []

-- two bridges of one bus that both claim to lead to bus 2
abbrev pub doubled : List Node
doubled = bridge_at 1 0 0 1 2 ∷ bridge_at 2 0 8 2 2 ∷ end_at 3 2 0 ∷ []

pub record IdExample : Type 0 where
  pub nodes : List Node
  pub bus : ℕ
  pub devfn : ℕ
  pub outcome : Outcome

abbrev pub id_examples : List IdExample
id_examples =
    record { nodes = tree_001; bus = 4; devfn = 0; outcome = delivered 7 3 }
    ∷ record { nodes = tree_001; bus = 3; devfn = 1; outcome = delivered 5 3 }
    ∷ record { nodes = tree_001; bus = 9; devfn = 0; outcome = delivered 14 4 }
    ∷ record { nodes = tree_001; bus = 6; devfn = 8; outcome = delivered 12 2 }
    ∷ record { nodes = tree_001; bus = 0; devfn = 8; outcome = delivered 8 0 }
    ∷ record { nodes = tree_001; bus = 3; devfn = 8; outcome = refused 40 }
    ∷ record { nodes = tree_001; bus = 11; devfn = 0; outcome = refused 40 }
    ∷ record { nodes = doubled; bus = 2; devfn = 0; outcome = refused 41 }
    ∷ record { nodes = doubled; bus = 0; devfn = 8; outcome = delivered 2 0 }
    ∷ []

abbrev pub IdAsShown : IdExample → Type 0
IdAsShown e = walk_from (tally_by_id e.nodes e.bus e.devfn) 0 0 ≡ e.outcome

abbrev pub p10_host : Host
p10_host =
    record {
      first = 0;
      last = 255;
      pools =
          in_low 0xF9000000 0xFA000000
          ∷ record { pool = high; start = 0x240000000; stop = 0x280000000 }
          ∷ record { pool = io; start = 0x4000; stop = 0x5000 }
          ∷ [];
    }
