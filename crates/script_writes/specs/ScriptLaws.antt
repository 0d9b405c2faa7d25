-- A write's record as a list of eighteen bytes; scripts one after the other. Assumes nothing.
use Rattle.std.specs.Prelude.{◌≡◌, Bool, true, false, List, [], ◌∷◌, ℕ, ◌+◌, ◌/◌, ◌%◌, ◌≤◌, eqb}
use Rattle.script_writes.specs.declared.Boot.{Boot}

-- byte 0: 44h for type 0, 45h for type 1
abbrev pub kind_byte : Bool → ℕ
kind_byte true = 0x44
kind_byte false = 0x45

-- the offset of a register of the 64-byte header
pub record IsRegister (offset : ℕ) : Type 0 where
  pub inside : offset + 4 ≤ 64
  pub aligned : offset % 4 ≡ 0

-- the fourteen before the data
abbrev pub header_for : Boot → ℕ → ℕ → ℕ → ℕ → List ℕ
header_for boot tag id enables offset =
    0 ∷ 16 ∷ kind_byte (eqb (id / 256) boot.root) ∷ 0 ∷ 0 ∷ 1 ∷ (boot.requester / 256) ∷ (boot.requester % 256) ∷ tag ∷ enables
    ∷ (id / 256) ∷ (id % 256) ∷ 0 ∷ offset ∷ []
