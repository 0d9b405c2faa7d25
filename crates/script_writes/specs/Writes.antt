-- Document 02, E14: the plan as configuration writes, in their order: "bus registers of bridges in record order, then used BARs and all
-- window registers, closed too, by record and rising offset, then command words in record order". "Each write is one dword with only the
-- named bytes enabled." Assumes nothing.
use Rattle.std.specs.Prelude.{ℕ, zero, suc, ◌+◌, ◌*◌, ◌/◌, ◌%◌, ◌^◌, Bool, cond, not, List, [], ◌∷◌, ◌++◌, eqb, get_or}
use Rattle.endian.specs.Endian.{be}
use Rattle.sheet_record.specs.Places.{register, readbacks_at}
use Rattle.sheet_record.specs.Entry.{id_of, header_of, is_bridge, slot_count}
use Rattle.script_writes.specs.declared.Pass.{Pass}
use Rattle.script_writes.specs.declared.Pass.TheVariants.{Buses, Registers, Commands}

-- one write: the number and the ID of the function's record, the register's offset, its first byte enables, and four data bytes in
-- register order
pub record Write : Type 0 where
  pub number : ℕ
  pub id : ℕ
  pub offset : ℕ
  pub enables : ℕ
  pub bytes : List ℕ

-- byte i of the dword is enabled
abbrev pub named : ℕ → ℕ → Bool
named enables i = eqb (enables / 2 ^ i % 2) 1

-- byte i of the register at this offset of the record, 0 where it is not named
abbrev pub data_byte : List ℕ → ℕ → ℕ → ℕ → ℕ
data_byte p offset enables i = cond (named enables i) (get_or p (register offset + i) 0) 0

abbrev pub data_of : List ℕ → ℕ → ℕ → List ℕ
data_of p offset enables =
    data_byte p offset enables 0 ∷ data_byte p offset enables 1 ∷ data_byte p offset enables 2 ∷ data_byte p offset enables 3 ∷ []

-- what the part p of record k has there
abbrev pub write_of : ℕ → List ℕ → ℕ → ℕ → Write
write_of k p offset enables = record { number = k; id = id_of p; offset = offset; enables = enables; bytes = data_of p offset enables }

-- the bytes that a write names
abbrev pub three_bytes : ℕ
three_bytes = 0b0111

abbrev pub two_bytes : ℕ
two_bytes = 0b0011

abbrev pub four_bytes : ℕ
four_bytes = 0b1111

-- ## One record

-- primary, secondary and subordinate bus of a bridge
abbrev pub bus_writes : ℕ → List ℕ → List Write
bus_writes k p = cond (is_bridge (header_of p)) (write_of k p 0x18 three_bytes ∷ []) []

-- "0 is unused": any other read-back is of a BAR, or of the upper half of one (`used_agree`)
abbrev pub is_used : List ℕ → ℕ → Bool
is_used p j = not (eqb (be 4 p (readbacks_at + 4 * j)) 0)

-- slot j's register, if it is used
abbrev pub slot_writes : ℕ → List ℕ → ℕ → List Write
slot_writes k p j = cond (is_used p j) (write_of k p (0x10 + 4 * j) four_bytes ∷ []) []

-- those of n slots from slot j on
unfoldable pub bar_writes : ℕ → List ℕ → ℕ → ℕ → List Write
bar_writes k p zero j = []
bar_writes k p (suc n) j = slot_writes k p j ++ bar_writes k p n (j + 1)

-- I/O, memory, high, and the high window's upper words
abbrev pub window_writes : ℕ → List ℕ → List Write
window_writes k p =
    write_of k p 0x1c two_bytes
    ∷ write_of k p 0x20 four_bytes
    ∷ write_of k p 0x24 four_bytes
    ∷ write_of k p 0x28 four_bytes
    ∷ write_of k p 0x2c four_bytes
    ∷ []

abbrev pub register_writes : ℕ → List ℕ → List Write
register_writes k p = bar_writes k p (slot_count (header_of p)) 0 ++ cond (is_bridge (header_of p)) (window_writes k p) []

abbrev pub command_writes : ℕ → List ℕ → List Write
command_writes k p = write_of k p 0x04 two_bytes ∷ []

abbrev pub writes_in : Pass → ℕ → List ℕ → List Write
writes_in Buses k p = bus_writes k p
writes_in Registers k p = register_writes k p
writes_in Commands k p = command_writes k p

-- ## All records

-- of the records whose parts these are, from number k on
unfoldable pub pass_writes : Pass → ℕ → List (List ℕ) → List Write
pass_writes pass k [] = []
pass_writes pass k (p ∷ ps) = writes_in pass k p ++ pass_writes pass (suc k) ps

unfoldable pub writes_of : List (List ℕ) → List Write
writes_of ps = pass_writes Buses 1 ps ++ pass_writes Registers 1 ps ++ pass_writes Commands 1 ps
