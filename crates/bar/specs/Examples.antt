-- Worked examples: P9 and the read-backs that are easy to get wrong, each set as its slots, and values on a sheet. Assumes nothing.
use Rattle.std.specs.Prelude.{◌≡◌, refl, Bool, true, false, ℕ, ◌^◌, List, [], ◌∷◌, map}
use Rattle.pools.specs.declared.Pool.TheVariants.{Low, High, Io}
use Rattle.bar.specs.declared.Slot.{Slot}
use Rattle.bar.specs.declared.Slot.TheVariants.{Unused, Bar, Upper, Bad}
use Rattle.bar.specs.Bar.{size_from, sized, io_slot, narrow_slot, wide_slot, slot_here, slots}
use Rattle.bar.specs.Values.{is_bar_value, values_fit, values_lawful}

-- ## Read-backs

pub record Row : Type 0 where
  pub set : List ℕ
  pub says : List Slot

abbrev pub ◌says◌ : List ℕ → List Slot → Row
s says xs = record { set = s; says = xs }

infix 4 ◌says◌
abbrev pub rows : List Row
rows =
    -- P9, and type bits alone
    (0xF0FFF000 ∷ [] says Bad ∷ [])
    ∷ (0x00000001 ∷ 0x00000008 ∷ 0x00000004 ∷ 0x00000000 ∷ [] says Bad ∷ Bad ∷ Bad ∷ Upper ∷ [])
    -- I/O: the upper half all zeros or all ones
    ∷ (0x00008001 ∷ 0xFFFF8001 ∷ 0xFFFFFFFD ∷ [] says Bar Io false (2 ^ 15) ∷ Bar Io false (2 ^ 15) ∷ Bar Io false 4 ∷ [])
    ∷ (0xFFFF0001 ∷ 0x0001FF01 ∷ 0xFFFFFF03 ∷ [] says Bad ∷ Bad ∷ Bad ∷ [])
    -- memory of 32 bits is low, prefetchable or not
    ∷ (0xFFFFFF80 ∷ 0x80000000 ∷ 0xFFF00008 ∷ 0xFFF00002 ∷ [] says Bar Low false 128 ∷ Bar Low false (2 ^ 31) ∷ Bar Low false (2 ^ 20)
    ∷ Bad ∷ [])
    -- no memory BAR is smaller than 128 bytes, of 32 bits or of 64
    ∷ (0xFFFFFFC0 ∷ 0xFFFFFFF0 ∷ 0xFFFFFF8C ∷ 0xFFFFFFFF ∷ 0xFFFFFFCC ∷ 0xFFFFFFFF ∷ [] says Bad ∷ Bad ∷ Bar High true 128 ∷ Upper ∷ Bad
    ∷ Upper ∷ [])
    -- 64-bit BARs: judged on the joined bits, low unless prefetchable, none left
    ∷ (0x0000000C ∷ 0xFFFFFFFF ∷ 0xFFF0000C ∷ 0x00000000 ∷ [] says Bar High true (2 ^ 32) ∷ Upper ∷ Bad ∷ Upper ∷ [])
    ∷ (0x00000004 ∷ 0x80000000 ∷ [] says Bar Low true (2 ^ 63) ∷ Upper ∷ [])
    ∷ (0x00000000 ∷ 0xFFF0000C ∷ [] says Unused ∷ Bad ∷ [])
    -- P10's endpoint
    ∷ (0xFFFFF000 ∷ 0xFC00000C ∷ 0xFFFFFFFF ∷ 0xFFFFFF01 ∷ 0 ∷ 0 ∷ [] says Bar Low false 4096 ∷ Bar High true (2 ^ 26) ∷ Upper ∷ Bar Io
    false 256 ∷ Unused ∷ Unused ∷ [])
    ∷ []

-- ## Values, against the read-backs of P10's endpoint

abbrev pub endpoint : List ℕ
endpoint = 0xFFFFF000 ∷ 0xFC00000C ∷ 0xFFFFFFFF ∷ 0xFFFFFF01 ∷ 0 ∷ 0 ∷ []

pub record Sheet : Type 0 where
  pub values : List ℕ
  pub lawful : Bool

abbrev pub sheets : List Sheet
sheets =
    -- as planned; a base off its size; the wrong type bits
    record { values = 0xF9000000 ∷ 0x4000000C ∷ 2 ∷ 0x00004001 ∷ 0 ∷ 0 ∷ []; lawful = true }
    ∷ record { values = 0xF9000800 ∷ 0x4000000C ∷ 2 ∷ 0x00004001 ∷ 0 ∷ 0 ∷ []; lawful = false }
    ∷ record { values = 0xF9000000 ∷ 0x4200000C ∷ 2 ∷ 0x00004001 ∷ 0 ∷ 0 ∷ []; lawful = false }
    ∷ record { values = 0xF9000000 ∷ 0x40000004 ∷ 2 ∷ 0x00004001 ∷ 0 ∷ 0 ∷ []; lawful = false }
    -- an I/O BAR above FFFFh; a value in an unused slot
    ∷ record { values = 0xF9000000 ∷ 0x4000000C ∷ 2 ∷ 0x00014001 ∷ 0 ∷ 0 ∷ []; lawful = false }
    ∷ record { values = 0xF9000000 ∷ 0x4000000C ∷ 2 ∷ 0x00004001 ∷ 0 ∷ 16 ∷ []; lawful = false }
    ∷ []

pub record Worked : Type 0 where
  pub read_backs : map (λ r. slots r.set) rows ≡ map (λ r. r.says) rows
  pub on_sheets : map (λ s. values_lawful endpoint s.values) sheets ≡ map (λ s. s.lawful) sheets

pub examples : Worked
unfolding slots slot_here narrow_slot wide_slot io_slot sized size_from is_bar_value values_fit
examples = record { read_backs = refl; on_sheets = refl }
