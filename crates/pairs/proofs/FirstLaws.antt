-- Laws of `first`: how a search of the table goes on row by row, as the code's loops make it, and what holds of the row that it finds.
-- Assumes nothing.
use Rattle.std.specs.Prelude.{◌≡◌, refl, List, [], ◌∷◌, Bool, true, false, cond, ◌&&◌, ℕ, ◌+◌, ◌<◌, ◌≤◌, length, drop, get_or, Option, Some, None}
use Rattle.std.proofs.Common.{sym, ◌∙◌, add-one, arith, drop-cons}
use Rattle.std.proofs.Math.Bool.{and-eq-true_iff}
use Rattle.pairs.specs.declared.Row.{Row}
use Rattle.pairs.specs.Pairs.{table, no_row, first}

-- the search from row i on, by what the test says of row i
first_drop : (p : Row → Bool) (rows : List Row) (i : ℕ) (d : Row) → i < length rows
    → first p (drop i rows) ≡ cond (p (get_or rows i d)) (Some (get_or rows i d)) (first p (drop (i + 1) rows))
unfolding first
first_drop p rows i d below = rw (add-one, drop-cons rows i d)

-- `all` is the code's copy of the table
module _ (p : Row → Bool) (i : ℕ) (below : i < 34) {all : List Row} {b : Bool} (same : all ≡ table) (test : b ≡ p (get_or all i no_row)) where
  first_step : first p (drop i table) ≡ cond b (Some (get_or all i no_row)) (first p (drop (i + 1) table))
  unfolding table
  first_step = rw (test, same) (first_drop p table i no_row below)

  pub first_hit : {whole : Option Row} → b ≡ true → first p (drop i table) ≡ whole → Some (get_or all i no_row) ≡ whole
  first_hit hit rest = sym (rw hit at first_step) ∙ rest

  pub first_miss : {whole : Option Row} → b ≡ false → first p (drop i table) ≡ whole → first p (drop (i + 1) table) ≡ whole
  first_miss miss rest = sym (rw miss at first_step) ∙ rest

pub first_none : (p : Row → Bool) (i : ℕ) {whole : Option Row} → 34 ≤ i → i ≤ 34 → first p (drop i table) ≡ whole → None ≡ whole
unfolding first table
first_none p i low high rest = let end : i ≡ 34 = omega arith in rw end at rest

-- two tests that agree find the same
pub first_same : (p q : Row → Bool) (rows : List Row) → ((row : Row) → p row ≡ q row) → first p rows ≡ first q rows
unfolding first
first_same p q [] e = refl
first_same p q (row ∷ rows) e = rw (e row, first_same p q rows e)

-- all rows pass a test
unfoldable pub every : (Row → Bool) → List Row → Bool
every q [] = true
every q (row ∷ rows) = q row && every q rows

-- the row found passes the search's own test, and each test that all rows pass
pub first_found : (p q : Row → Bool) (rows : List Row) {row : Row}
    → every q rows ≡ true → first p rows ≡ Some row → (p row ≡ true) × (q row ≡ true)
unfolding first every
first_found p q [] all h = let z : ◌≡◌ {A = ℕ} 0 1 = cc in absurd (omega arith)
first_found p q (r ∷ rows) {row} all h = go (p r) refl h (first_found p q rows ((and-eq-true_iff (q r) (every q rows)).0 all).1)
  where
    own : q r ≡ true
    own = ((and-eq-true_iff (q r) (every q rows)).0 all).0

    go : (b : Bool) → p r ≡ b → cond b (Some r) (first p rows) ≡ Some row
        → (first p rows ≡ Some row → (p row ≡ true) × (q row ≡ true))
        → (p row ≡ true) × (q row ≡ true)
    go true e h later = (cc, cc own)
    go false e h later = later h
