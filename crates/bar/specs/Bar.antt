-- Document 01, "Read-backs": a set of read-backs as slots, each unused, a BAR with its pool and size, the upper half of the BAR before, or
-- unlawful (25). Assumes nothing.
use Rattle.std.specs.Prelude.{◌≡◌, ℕ, zero, suc, ◌+◌, ◌-◌, ◌*◌, ◌/◌, ◌%◌, ◌^◌, ◌≤◌, ◌<◌, Bool, true, false, cond, not, ◌&&◌, ◌||◌, List, [], ◌∷◌, eqb}
use Rattle.pools.specs.declared.Pool.{Pool}
use Rattle.pools.specs.declared.Pool.TheVariants.{Low, High, Io}
use Rattle.bar.specs.declared.Slot.{Slot}
use Rattle.bar.specs.declared.Slot.TheVariants.{Unused, Bar, Upper, Bad}

-- ## Sizes, once over width and least size bit

-- ones from bit k to the top of w bits
abbrev pub ones_from : ℕ → ℕ → ℕ
ones_from w k = 2 ^ w - 2 ^ k

-- the size that a mask of w bits has if its ones start at one of the n bits from k on; 0 if it has none
unfoldable pub size_from : ℕ → ℕ → ℕ → ℕ → ℕ
size_from w k zero mask = 0
size_from w k (suc n) mask = let later = size_from w (suc k) n mask in cond (eqb mask (ones_from w k)) (2 ^ k) later

-- the size of a mask of w bits whose size bit is k or above
abbrev pub size_of : ℕ → ℕ → ℕ → ℕ
size_of w k mask = size_from w k (w - k) mask

-- ## One BAR

-- the type bits lie below a register's base: I/O bits 1:0, memory bits 3:0
abbrev pub type_bits : Pool → ℕ
type_bits Low = 4
type_bits High = 4
type_bits Io = 2

abbrev pub type_of : Pool → ℕ → ℕ
type_of pool v = v % 2 ^ type_bits pool

abbrev pub without_type : Pool → ℕ → ℕ
without_type pool v = v / 2 ^ type_bits pool * 2 ^ type_bits pool

-- the least size bit: an I/O BAR has 4 bytes or more, a memory BAR 128 (document 02, E9)
abbrev pub least_bit : Pool → ℕ
least_bit Low = 7
least_bit High = 7
least_bit Io = 2

-- the bits of an address: I/O ones go up through bit 15, memory ones to the top
abbrev pub width : Pool → Bool → ℕ
width Low wide = cond wide 64 32
width High wide = cond wide 64 32
width Io wide = 16

-- a size of 0 is no size
unfoldable pub sized : Pool → Bool → ℕ → Slot
sized pool wide size = cond (eqb size 0) Bad (Bar pool wide size)

-- the read-back without its type bits says the size
abbrev pub bar_of : Pool → Bool → ℕ → Slot
bar_of pool wide r = sized pool wide (size_of (width pool wide) (least_bit pool) (without_type pool r))

-- bit 0 set is I/O
abbrev pub is_io_bar : ℕ → Bool
is_io_bar r = eqb (r % 2) 1

-- I/O: bit 1 zero, ones from a size bit in 2 to 15 up through bit 15, upper half all ones or all zeros
abbrev pub io_wrong : ℕ → Bool
io_wrong r = eqb (r / 2 % 2) 1 || not (eqb (r / 65536) 0 || eqb (r / 65536) 65535)

unfoldable pub io_slot : ℕ → Slot
io_slot r = cond (io_wrong r) Bad (bar_of Io false (r % 65536))

-- memory: bits 2:1 are 00, or 10 for 64-bit; ones from a size bit, 7 or above (document 02, E9), to the top
abbrev pub is_wide : ℕ → Bool
is_wide r = not (is_io_bar r) && eqb (r / 2 % 4) 2

-- a read-back of 32 bits alone: a 64-bit one wants the next slot, and none left is 25
unfoldable pub narrow_slot : ℕ → Slot
narrow_slot r = cond (eqb r 0) Unused (cond (is_io_bar r) (io_slot r) (cond (eqb (r / 2 % 4) 0) (bar_of Low false r) Bad))

-- bit 3 prefetchable: prefetchable 64-bit BARs use the high pool, every other memory BAR the low one
abbrev pub wide_pool : ℕ → Pool
wide_pool r = cond (eqb (r / 8 % 2) 1) High Low

-- two registers of 32 bits as one number
abbrev pub joined : ℕ → ℕ → ℕ
joined r upper = upper * 4294967296 + r

unfoldable pub wide_slot : ℕ → ℕ → Slot
wide_slot r upper = bar_of (wide_pool r) true (joined r upper)

-- ## What a decoded slot keeps

-- a BAR's size is a power of two, from its pool's least size bit up to its width
pub record BarSize (pool : Pool) (wide : Bool) (size : ℕ) : Type 0 where
  pub bit : ℕ
  pub least : least_bit pool ≤ bit
  pub most : bit < width pool wide
  pub power : size ≡ 2 ^ bit

abbrev pub SizedSlot : Slot → Type 0
SizedSlot Unused = Unit
SizedSlot (Bar pool wide size) = BarSize pool wide size
SizedSlot Upper = Unit
SizedSlot Bad = Unit

-- ## A set: a slot is read only where a BAR starts

-- the slot that starts where these read-backs do
unfoldable pub slot_here : List ℕ → Slot
slot_here [] = Unused
slot_here (r ∷ []) = narrow_slot r
slot_here (r ∷ u ∷ us) = cond (is_wide r) (wide_slot r u) (narrow_slot r)

-- a 64-bit BAR takes the next slot as its upper half
unfoldable pub slots : List ℕ → List Slot
slots [] = []
slots (r ∷ []) = slot_here (r ∷ []) ∷ []
slots (r ∷ u ∷ us) =
    let after = slots us in
    let next = slots (u ∷ us) in
    slot_here (r ∷ u ∷ us) ∷ cond (is_wide r) (Upper ∷ after) next

-- 25
abbrev pub is_bad : Slot → Bool
is_bad Unused = false
is_bad (Bar pool wide size) = false
is_bad Upper = false
is_bad Bad = true

unfoldable pub any_bad : List Slot → Bool
any_bad [] = false
any_bad (x ∷ xs) = is_bad x || any_bad xs

-- a lawful slot of a 64-bit BAR is followed by its upper half
abbrev pub takes_next : Slot → Bool
takes_next Unused = false
takes_next (Bar pool wide size) = wide
takes_next Upper = false
takes_next Bad = false

-- the places that a lawful slot takes
abbrev pub span : Slot → ℕ
span x = cond (takes_next x) 2 1
