-- Document 01, "Words of demand 3": a sheet with other command words, "no other byte being changed". Assumes nothing.
use Rattle.std.specs.Prelude.{◌≡◌, List, ℕ, ◌+◌, ◌-◌, ◌/◌, ◌%◌, length, get_or}
use Rattle.sheet_record.specs.Places.{command_at, stride}

-- the place of byte i in its record, which starts with its length; the version byte stands before the first
abbrev pub place_in : ℕ → ℕ
place_in i = (i + (stride - 1)) % stride

-- byte i is one of the two of a command word, the record's bytes 8 and 9
abbrev pub InCommand : ℕ → Type 0
InCommand i = place_in i / 2 ≡ (2 + command_at) / 2

-- t is s but for command words
pub record SameButCommands (s t : List ℕ) : Type 0 where
  pub same_length : length t ≡ length s
  pub same_bytes : (i : ℕ) → (InCommand i → ⊥) → get_or t i 0 ≡ get_or s i 0
