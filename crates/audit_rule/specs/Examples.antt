-- Worked examples of an audit, as one table under one claim: P8's and P10's sheets, and P10's spoiled, each number with a later check
-- failing too. Assumes nothing.
use Rattle.std.specs.Prelude.{◌≡◌, List, [], ◌∷◌, ◌++◌, ℕ, set, take}
use Rattle.endian.specs.Endian.{be_bytes}
use Rattle.sheet.specs.Examples.{p8, p10, p10_bridge, p10_end, nibbled}
use Rattle.audit_rule.specs.Audit.{audit_number, sound_number}

-- P10's host record
abbrev pub host : List ℕ
host =
    0 ∷ 255 ∷ be_bytes 4 0xF9000000 ++ be_bytes 4 0xF9FFFFFF ++ be_bytes 8 0x240000000 ++ be_bytes 8 0x27FFFFFFF ++ 0x40 ∷ 0 ∷ 0x4F ∷ 0xFF ∷ []

-- with these first and last buses
abbrev pub host_buses : ℕ → ℕ → List ℕ
host_buses first last = set (set host 0 first) 1 last

-- ## P10's sheet spoiled

-- the function on another bus
abbrev pub moved : ℕ → List ℕ → List ℕ
moved bus s = set s 95 bus

-- its first BAR 1 MiB on, past the window above
abbrev pub beyond : List ℕ → List ℕ
beyond s = set s 115 0x10

-- the bridge's low window closed
abbrev pub shut : List ℕ → List ℕ
shut s = set (set (set s 37 0xF0) 38 0xFF) 40 0

-- the bridge again as device 1, with its secondary and subordinate
abbrev pub sibling : ℕ → ℕ → List ℕ
sibling secondary subordinate = set (set (set p10_bridge 3 8) 29 secondary) 30 subordinate

-- the function again as device 1, not enabled
abbrev pub disabled : List ℕ
disabled = set (set p10_end 3 8) 8 0

-- its wide BAR 1 MiB at F9100000h, and the bridge's high window over that, as firmware that keeps below 4 GiB leaves them
abbrev pub prefetchable_below4_gi_b : List ℕ → List ℕ
prefetchable_below4_gi_b s =
    let base = set (set (set (set s 41 0x11) 42 0xF9) 43 0x11) 44 0xF9 in
    let window = set (set base 45 0) 49 0 in
    let value = set (set (set window 119 0x10) 120 0xF9) 121 0 in
    set (set value 165 0xFF) 166 0xF0

pub record Row : Type 0 where
  pub for : List ℕ
  pub sheet : List ℕ
  pub number : ℕ

abbrev pub Holds : Row → Type 0
Holds r = audit_number r.for r.sheet ≡ r.number

abbrev pub row : List ℕ → List ℕ → ℕ → Row
row host s n = record { for = host; sheet = s; number = n }

abbrev pub examples : List Row
examples =
    row host p8 0
    ∷ row host p10 0
    -- the host record first: its size, then its edges, then the sheet's own numbers
    ∷ row (take 29 (host_buses 1 0)) [] 20
    ∷ row (host ++ 0 ∷ []) p10 20
    ∷ row (host_buses 1 0) [] 26
    ∷ row host [] 20
    ∷ row host (nibbled (moved 2 p10)) 29
    -- 50: the first record off the host's first bus; a bridge's buses past its last; a bus that no bridge leads to
    ∷ row (host_buses 1 255) p10 50
    ∷ row (host_buses 0 0) p10 50
    ∷ row host (moved 2 (beyond p10)) 50
    -- a bus that two bridges lead to; siblings' ranges that share an edge
    ∷ row host (1 ∷ p10_bridge ++ sibling 1 1 ++ p10_end) 50
    ∷ row host (1 ∷ set p10_bridge 30 2 ++ sibling 2 3) 50
    -- 51: a BAR past the window above; a low BAR below a closed low window and an open high one, though another lies over it
    ∷ row host (beyond p10) 51
    ∷ row host (shut (p10 ++ disabled)) 51
    -- a high window in the low pool
    ∷ row host (prefetchable_below4_gi_b p10) 51
    -- 52: a disabled function's BARs over another's; windows of siblings
    ∷ row host (p10 ++ disabled) 52
    ∷ row host (1 ∷ p10_bridge ++ sibling 2 2) 52
    ∷ []

-- the same with 51 asked of the address space
abbrev pub HoldsBySpace : Row → Type 0
HoldsBySpace r = sound_number r.for r.sheet ≡ r.number

abbrev pub space_examples : List Row
space_examples =
    row host p10 0
    -- a high window in the low pool, and a high BAR in it
    ∷ row host (prefetchable_below4_gi_b p10) 0
    ∷ row host (beyond p10) 51
    ∷ row host (p10 ++ disabled) 52
    ∷ []
