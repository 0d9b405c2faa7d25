-- A record's number, where there is one. Assumes nothing.
use Rattle.std.specs.Prelude.{◌≡◌, ℕ, ◌<◌, Option, MatchOption}

-- numbers start at 1, and 0 stands for none
abbrev pub IsNumber : Option ℕ → ℕ → Type 0
IsNumber r n = MatchOption r (n ≡ 0) (λ number. (number ≡ n) × (0 < number))
