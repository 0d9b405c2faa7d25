-- Hexadecimal digits read back: 0 to 9, and A to F in either case. Assumes nothing.
use Rattle.std.specs.Prelude.{◌≡◌, refl, ℕ, ◌+◌, ◌-◌, ◌≤◌, Bool, true, cond, ◌&&◌, Option, Some, None, List, [], ◌∷◌, map, leb}
use Rattle.std.proofs.Math.Bool.{and-eq-true_iff}
use Rattle.std.proofs.Common.{leb-true}
use Rattle.text.specs.Text.{digit}

abbrev pub is_within : ℕ → ℕ → ℕ → Bool
is_within first byte last = leb first byte && leb byte last

unfoldable pub value_of : ℕ → Option ℕ
value_of byte =
    cond
    (is_within 48 byte 57)
    (Some (byte - 48))
    (cond (is_within 65 byte 70) (Some (byte - 65 + 10)) (cond (is_within 97 byte 102) (Some (byte - 97 + 10)) None))

pub first_le : (first byte last : ℕ) → is_within first byte last ≡ true → first ≤ byte
first_le first byte last e = leb-true first byte ((and-eq-true_iff (leb first byte) (leb byte last)).0 e).0

abbrev pub sixteen : List ℕ
sixteen = 0 ∷ 1 ∷ 2 ∷ 3 ∷ 4 ∷ 5 ∷ 6 ∷ 7 ∷ 8 ∷ 9 ∷ 10 ∷ 11 ∷ 12 ∷ 13 ∷ 14 ∷ 15 ∷ []

-- every digit that is put is read back, and so is a letter in lower case
pub digits_back : map (λ d. value_of (digit d)) sixteen ≡ map Some sixteen
unfolding value_of
digits_back = refl

pub lower_case : map (λ d. value_of (87 + d)) (10 ∷ 11 ∷ 12 ∷ 13 ∷ 14 ∷ 15 ∷ []) ≡ map Some (10 ∷ 11 ∷ 12 ∷ 13 ∷ 14 ∷ 15 ∷ [])
unfolding value_of
lower_case = refl
