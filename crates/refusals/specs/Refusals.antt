-- Documents 01 and 02, "Numbers given back": a refusal's number is one of 1 to 99, and 0 is no refusal. Assumes nothing.
use Rattle.std.specs.Prelude.{ℕ, ◌≤◌, ◌<◌}

abbrev pub IsRefusal : ℕ → Type 0
IsRefusal n = (0 < n) × (n ≤ 99)

-- a refusal's number, or 0
abbrev pub IsNumber : ℕ → Type 0
IsNumber n = n ≤ 99
