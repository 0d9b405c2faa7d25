-- Document 01, number 25 on a sheet: the values in a function's BAR registers against its read-backs, and the base that a value says.
-- Assumes nothing.
use Rattle.std.specs.Prelude.{ℕ, suc, ◌+◌, ◌/◌, ◌%◌, Bool, true, false, cond, not, ◌&&◌, ◌||◌, List, [], ◌∷◌, ◌++◌, eqb, leb, get_or, drop}
use Rattle.pools.specs.declared.Pool.{Pool}
use Rattle.pools.specs.Pools.{is_io}
use Rattle.bar.specs.declared.Slot.{Slot}
use Rattle.bar.specs.declared.Slot.TheVariants.{Unused, Bar, Upper, Bad}
use Rattle.bar.specs.Bar.{type_of, without_type, joined, takes_next, slots}

-- the number in a slot's registers, which start where these values do: a 64-bit BAR has two
abbrev pub value_here : Slot → List ℕ → ℕ
value_here x vs = cond (takes_next x) (joined (get_or vs 0 0) (get_or vs 1 0)) (get_or vs 0 0)

-- ## What a value may be: r is the read-back, which alone says size and type bits

-- a BAR value off its size or type bits, or an I/O BAR above FFFFh, is 25
unfoldable pub is_bar_value : Pool → ℕ → ℕ → ℕ → Bool
is_bar_value pool size r v =
    eqb (type_of pool v) (type_of pool r) && eqb (without_type pool v % size) 0 && (not (is_io pool) || leb v 65535)

-- so is a nonzero value in an unused slot; an upper half is part of the BAR before
abbrev pub is_value : Slot → ℕ → ℕ → Bool
is_value Unused r v = eqb v 0
is_value (Bar pool wide size) r v = is_bar_value pool size r v
is_value Upper r v = true
is_value Bad r v = false

unfoldable pub values_fit : List Slot → List ℕ → List ℕ → Bool
values_fit [] rs vs = true
values_fit (x ∷ xs) rs vs = is_value x (get_or rs 0 0) (value_here x vs) && values_fit xs (drop 1 rs) (drop 1 vs)

-- lawful read-backs with lawful values
abbrev pub values_lawful : List ℕ → List ℕ → Bool
values_lawful rs vs = values_fit (slots rs) rs vs

-- ## From a value to a base and back

-- the address where a BAR starts
abbrev pub base_of : Slot → ℕ → ℕ
base_of Unused v = 0
base_of (Bar pool wide size) v = without_type pool v
base_of Upper v = 0
base_of Bad v = 0

-- what a BAR's registers hold once the base is written: its type bits stay the read-back's
abbrev pub value_of : Slot → ℕ → ℕ → ℕ
value_of Unused r base = 0
value_of (Bar pool wide size) r base = without_type pool base + type_of pool r
value_of Upper r base = 0
value_of Bad r base = 0

-- the number as registers of 32 bits
abbrev pub registers_of : Slot → ℕ → List ℕ
registers_of x v = cond (takes_next x) (v % 4294967296 ∷ v / 4294967296 ∷ []) (v ∷ [])

-- the registers that start at a slot; an upper half's are the BAR's before
abbrev pub slot_registers : Slot → ℕ → ℕ → List ℕ
slot_registers Unused r base = 0 ∷ []
slot_registers (Bar pool wide size) r base = registers_of (Bar pool wide size) (value_of (Bar pool wide size) r base)
slot_registers Upper r base = []
slot_registers Bad r base = 0 ∷ []

-- the registers of a set whose BARs are placed: base j is where the BAR of slot j starts
unfoldable pub placed_values : (ℕ → ℕ) → List Slot → List ℕ → List ℕ
placed_values base [] rs = []
placed_values base (x ∷ xs) rs = slot_registers x (get_or rs 0 0) (base 0) ++ placed_values (λ j. base (suc j)) xs (drop 1 rs)
