-- Worked examples: numbers with their digits, and a word of which a part fits. Assumes nothing.
use Rattle.std.specs.Prelude.{◌≡◌, refl, ℕ, List, [], ◌∷◌, map}
use Rattle.std.proofs.lemmas.List.Edits.{sets}
use Rattle.text.specs.Text.{hexadecimal, decimal_over, decimal}

-- a number, a width, and what stands for it in hexadecimal and in decimal
pub record Row : Type 0 where
  pub number : ℕ
  pub width : ℕ
  pub hex : List ℕ
  pub dec : List ℕ

abbrev pub rows : List Row
rows =
    record { number = 0; width = 1; hex = 48 ∷ []; dec = 48 ∷ [] }
    ∷ record { number = 31; width = 2; hex = 49 ∷ 70 ∷ []; dec = 51 ∷ 49 ∷ [] }
    ∷ record { number = 1024; width = 3; hex = 52 ∷ 48 ∷ 48 ∷ []; dec = 49 ∷ 48 ∷ 50 ∷ 52 ∷ [] }
    ∷ record { number = 43981; width = 6; hex = 48 ∷ 48 ∷ 65 ∷ 66 ∷ 67 ∷ 68 ∷ []; dec = 52 ∷ 51 ∷ 57 ∷ 56 ∷ 49 ∷ [] }
    ∷ record { number = 43981; width = 2; hex = 67 ∷ 68 ∷ []; dec = 52 ∷ 51 ∷ 57 ∷ 56 ∷ 49 ∷ [] }
    ∷ record { number = 7; width = 0; hex = []; dec = 55 ∷ [] }
    ∷ record {
      number = 18446744073709551615;
      width = 16;
      hex = 70 ∷ 70 ∷ 70 ∷ 70 ∷ 70 ∷ 70 ∷ 70 ∷ 70 ∷ 70 ∷ 70 ∷ 70 ∷ 70 ∷ 70 ∷ 70 ∷ 70 ∷ 70 ∷ [];
      dec = 49 ∷ 56 ∷ 52 ∷ 52 ∷ 54 ∷ 55 ∷ 52 ∷ 52 ∷ 48 ∷ 55 ∷ 51 ∷ 55 ∷ 48 ∷ 57 ∷ 53 ∷ 53 ∷ 49 ∷ 54 ∷ 49 ∷ 53 ∷ [];
    }
    ∷ []

pub record Worked (rs : List Row) : Type 0 where
  pub hexadecimals : map (λ r. hexadecimal r.width r.number) rs ≡ map (λ r. r.hex) rs
  pub decimals : map (λ r. decimal r.number) rs ≡ map (λ r. r.dec) rs

pub examples : Worked rows
unfolding hexadecimal decimal_over decimal
examples = record { hexadecimals = refl; decimals = refl }

-- what does not fit is left out
pub cut_short : sets {A = ℕ} (1 ∷ 2 ∷ 3 ∷ 4 ∷ []) 2 (77 ∷ 82 ∷ 100 ∷ []) ≡ 1 ∷ 2 ∷ 77 ∷ 82 ∷ []
cut_short = refl
