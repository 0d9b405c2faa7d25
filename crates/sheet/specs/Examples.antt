-- Worked examples of sheets, as one table under one claim: P8's and P10's sheets, each number with the check after it failing too, lookups,
-- and P10's registers as the walk has them. Assumes nothing.
use Rattle.std.specs.Prelude.{◌≡◌, List, [], ◌∷◌, ◌++◌, ℕ, zero, suc, set, take, replicate}
use Rattle.pools.specs.declared.Space.{Space}
use Rattle.pools.specs.declared.Space.TheVariants.{Memory, Io}
use Rattle.walk.specs.Registers.{Registers}
use Rattle.walk.specs.Examples.{p10_memory, p10_io}
use Rattle.sheet.specs.declared.Lookup.{Lookup}
use Rattle.sheet.specs.declared.Lookup.TheVariants.{Registers as Found, Refused}
use Rattle.sheet.specs.Sheet.{commands_of}
use Rattle.sheet.specs.Sheet.{sheet_number}
use Rattle.sheet.specs.Lookup.{lookup_of, with_command}
use Rattle.sheet.specs.Spaces.{registers_of}

-- ## P10's sheet, byte by byte

abbrev pub p10_bridge : List ℕ
p10_bridge =
    -- length, ID
    0 ∷ 0x5A ∷ 0 ∷ 0 ∷
    -- 00h
    0 ∷ 0 ∷ 0 ∷ 0 ∷ 0x03 ∷ 0 ∷ 0 ∷ 0 ∷ 0 ∷ 0 ∷ 0 ∷ 0 ∷ 0 ∷ 0 ∷ 0x01 ∷ 0 ∷
    -- 10h
    0 ∷ 0 ∷ 0 ∷ 0 ∷ 0 ∷ 0 ∷ 0 ∷ 0 ∷ 0 ∷ 0x01 ∷ 0x01 ∷ 0 ∷ 0x40 ∷ 0x40 ∷ 0 ∷ 0 ∷
    -- 20h
    0 ∷ 0xF9 ∷ 0 ∷ 0xF9 ∷ 0x01 ∷ 0x40 ∷ 0xF1 ∷ 0x43 ∷ 0x02 ∷ 0 ∷ 0 ∷ 0 ∷ 0x02 ∷ 0 ∷ 0 ∷ 0 ∷
    -- 30h
    0 ∷ 0 ∷ 0 ∷ 0 ∷ 0 ∷ 0 ∷ 0 ∷ 0 ∷ 0 ∷ 0 ∷ 0 ∷ 0 ∷ 0 ∷ 0 ∷ 0 ∷ 0 ∷
    -- read-backs
    0 ∷ 0 ∷ 0 ∷ 0 ∷ 0 ∷ 0 ∷ 0 ∷ 0 ∷ 0 ∷ 0 ∷ 0 ∷ 0 ∷
    0 ∷ 0 ∷ 0 ∷ 0 ∷ 0 ∷ 0 ∷ 0 ∷ 0 ∷ 0 ∷ 0 ∷ 0 ∷ 0 ∷ []

abbrev pub p10_end : List ℕ
p10_end =
    -- length, ID
    0 ∷ 0x5A ∷ 0x01 ∷ 0 ∷
    -- 00h
    0 ∷ 0 ∷ 0 ∷ 0 ∷ 0x03 ∷ 0 ∷ 0 ∷ 0 ∷ 0 ∷ 0 ∷ 0 ∷ 0 ∷ 0 ∷ 0 ∷ 0 ∷ 0 ∷
    -- 10h
    0 ∷ 0 ∷ 0 ∷ 0xF9 ∷ 0x0C ∷ 0 ∷ 0 ∷ 0x40 ∷ 0x02 ∷ 0 ∷ 0 ∷ 0 ∷ 0x01 ∷ 0x40 ∷ 0 ∷ 0 ∷
    -- 20h
    0 ∷ 0 ∷ 0 ∷ 0 ∷ 0 ∷ 0 ∷ 0 ∷ 0 ∷ 0 ∷ 0 ∷ 0 ∷ 0 ∷ 0 ∷ 0 ∷ 0 ∷ 0 ∷
    -- 30h
    0 ∷ 0 ∷ 0 ∷ 0 ∷ 0 ∷ 0 ∷ 0 ∷ 0 ∷ 0 ∷ 0 ∷ 0 ∷ 0 ∷ 0 ∷ 0 ∷ 0 ∷ 0 ∷
    -- read-backs
    0xFF ∷ 0xFF ∷ 0xF0 ∷ 0 ∷ 0xFC ∷ 0 ∷ 0 ∷ 0x0C ∷ 0xFF ∷ 0xFF ∷ 0xFF ∷ 0xFF ∷
    0xFF ∷ 0xFF ∷ 0xFF ∷ 0x01 ∷ 0 ∷ 0 ∷ 0 ∷ 0 ∷ 0 ∷ 0 ∷ 0 ∷ 0 ∷ []

abbrev pub p10 : List ℕ
p10 = 1 ∷ p10_bridge ++ p10_end

-- P8's
abbrev pub p8 : List ℕ
p8 = 1 ∷ []

-- n records of zeros, all of one ID
unfoldable pub blank : ℕ → List ℕ
blank zero = []
blank (suc n) = 0 ∷ 90 ∷ replicate 90 0 ++ blank n

-- ## P10's sheet spoiled: each byte that is set breaks one check

-- the bridge's header type 2
abbrev pub typed : List ℕ → List ℕ
typed s = set s 19 2

-- its secondary bus its own
abbrev pub sunk : List ℕ → List ℕ
sunk s = set s 30 0

-- the function's ID that of the bridge
abbrev pub doubled : List ℕ → List ℕ
doubled s = set s 95 0

-- the function's first BAR off its size
abbrev pub shifted : List ℕ → List ℕ
shifted s = set s 114 8

-- the low window's base with a nibble of 1
abbrev pub nibbled : List ℕ → List ℕ
nibbled s = set s 37 1

-- ## The table

pub data Claim : Type 0 where
  numbered : List ℕ → ℕ → Claim
  finds : List ℕ → ℕ → Lookup → Claim
  reads : Space → List ℕ → List Registers → Claim
  commands : List ℕ → List ℕ → Claim

abbrev pub Holds : Claim → Type 0
Holds (numbered s n) = sheet_number s ≡ n
Holds (finds s id l) = lookup_of s id ≡ l
Holds (reads space s fs) = registers_of space s ≡ fs
Holds (commands s cs) = commands_of s ≡ cs

abbrev pub examples : List Claim
examples =
    numbered p8 0
    ∷ numbered p10 0
    ∷ numbered [] 20
    ∷ numbered (2 ∷ []) 21
    ∷ numbered (2 ∷ 0 ∷ []) 21
    ∷ numbered (1 ∷ 0 ∷ []) 20
    ∷ numbered (1 ∷ 0 ∷ 0 ∷ []) 20
    ∷ numbered (take 184 p10) 20
    ∷ numbered (p10 ++ (0 ∷ [])) 20
    ∷ numbered (set p10 2 89) 20
    -- 513 functions, and 512
    ∷ numbered (1 ∷ blank 513) 22
    ∷ numbered (1 ∷ blank 512) 28
    ∷ numbered (typed (sunk p10)) 24
    ∷ numbered (sunk (doubled p10)) 27
    -- 28 is tried before 25
    ∷ numbered (doubled (shifted p10)) 28
    ∷ numbered (shifted (nibbled p10)) 25
    ∷ numbered (nibbled p10) 29
    -- a nonzero value in an unused slot; one of a bridge's last four read-backs; a bridge's BAR value with no read-back
    ∷ numbered (set p10 130 1) 25
    ∷ numbered (set p10 92 1) 25
    ∷ numbered (set p10 21 1) 25
    -- bit 7 of a header type is free, and so are the bytes that document 01 does not name
    ∷ numbered (set (set (set p10 19 0x81) 32 7) 60 9) 0
    ∷ finds p10 0x0000 (Found 5)
    ∷ finds p10 0x0100 (Found 97)
    ∷ finds p10 0x0101 (Refused 40)
    ∷ finds p8 0x0000 (Refused 40)
    ∷ finds (sunk p10) 0x0100 (Refused 27)
    ∷ reads Memory p10 p10_memory
    ∷ reads Io p10 p10_io
    ∷ commands p10 (3 ∷ 3 ∷ [])
    ∷ commands (with_command (lookup_of p10 0x0100) p10 0x0401) (3 ∷ 0x0401 ∷ [])
    ∷ []
