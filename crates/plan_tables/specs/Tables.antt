-- A board's functions as three arrays: the parent record and the head of each, and its set of six read-backs. Assumes nothing.
use Rattle.std.specs.Prelude.{◌≡◌, false, ℕ, ◌+◌, ◌*◌, ◌%◌, ◌≤◌, length, set}
use mathlib.Core.List.{List, map, flat_map}
use Rattle.std.proofs.lemmas.List.Edits.{sets}
use Rattle.records.specs.Records.{parts_from, any_part}
use Rattle.records.specs.Limits.{most_functions}
use Rattle.board_record.specs.declared.Function.{Function}
use Rattle.board_record.specs.Function.{function_of_part, header_wrong}
use Rattle.board.specs.Board.{functions_of}

abbrev pub parents_of : List Function → List ℕ
parents_of = map (λ f. f.parent)

-- the header type byte, and above it the spares
abbrev pub head_of : Function → ℕ
head_of f = f.header % 256 + 256 * f.spares

abbrev pub heads_of : List Function → List ℕ
heads_of = map head_of

abbrev pub readbacks_of : List Function → List ℕ
readbacks_of = flat_map (λ f. f.readbacks)

-- the arrays have room for n functions
pub record Room (n : ℕ) (ps hs ss : List ℕ) : Type 0 where
  pub parents : n ≤ length ps
  pub heads : n ≤ length hs
  pub readbacks : 6 * n ≤ length ss

-- the arrays ps, hs, ss with one function stored at index i
pub record Put (f : Function) (i : ℕ) (ps hs ss ps' hs' ss' : List ℕ) : Type 0 where
  pub parents : ps' ≡ set ps i f.parent
  pub heads : hs' ≡ set hs i (head_of f)
  pub readbacks : ss' ≡ sets ss (6 * i) f.readbacks

-- the arrays with all functions stored from index 0 on, and how many there are
pub record Filled (fs : List Function) (ps hs ss ps' hs' ss' : List ℕ) (n : ℕ) : Type 0 where
  pub count : n ≡ length fs
  pub parents : ps' ≡ sets ps 0 (parents_of fs)
  pub heads : hs' ≡ sets hs 0 (heads_of fs)
  pub readbacks : ss' ≡ sets ss 0 (readbacks_of fs)

-- the pass has these parts left, with i functions stored: storing those that are left fills the arrays
pub record FillingParts (b ps hs ss : List ℕ) (left : List (List ℕ)) (i : ℕ) (ps' hs' ss' : List ℕ) : Type 0 where
  pub lawful : any_part header_wrong left ≡ false
  pub few : i + length (map function_of_part left) ≤ most_functions
  pub room : Room most_functions ps' hs' ss'
  pub count : i + length (map function_of_part left) ≡ length (functions_of b)
  pub parents : sets ps' i (parents_of (map function_of_part left)) ≡ sets ps 0 (parents_of (functions_of b))
  pub heads : sets hs' i (heads_of (map function_of_part left)) ≡ sets hs 0 (heads_of (functions_of b))
  pub readbacks : sets ss' (6 * i) (readbacks_of (map function_of_part left)) ≡ sets ss 0 (readbacks_of (functions_of b))

-- the functions that a pass with its cursor at a place has left
abbrev pub functions_from : List ℕ → ℕ → List Function
functions_from b at = map function_of_part (parts_from b at)

-- the pass stands before the record at `at`, with i functions stored: storing those that are left fills the arrays
pub record Filling (b ps hs ss : List ℕ) (at i : ℕ) (ps' hs' ss' : List ℕ) : Type 0 where
  pub lawful : any_part header_wrong (parts_from b at) ≡ false
  pub few : i + length (functions_from b at) ≤ most_functions
  pub room : Room most_functions ps' hs' ss'
  pub count : i + length (functions_from b at) ≡ length (functions_of b)
  pub parents : sets ps' i (parents_of (functions_from b at)) ≡ sets ps 0 (parents_of (functions_of b))
  pub heads : sets hs' i (heads_of (functions_from b at)) ≡ sets hs 0 (heads_of (functions_of b))
  pub readbacks : sets ss' (6 * i) (readbacks_of (functions_from b at)) ≡ sets ss 0 (readbacks_of (functions_of b))
