-- A call's answer: document 01's number, or numbers for the answer slice. An answer slice too short is 11, tried last; numbers past the
-- answer's own are left as they were. Assumes nothing.
use Rattle.std.specs.Prelude.{ℕ, cond, List, ◌++◌, length, drop, ltb, eqb}

pub data Answer : Type 0 where
  refuses : ℕ → Answer
  gives : List ℕ → Answer

-- what the call returns: 0 is accepted
abbrev pub returned : Answer → List ℕ → ℕ
returned (refuses n) slice = n
returned (gives ns) slice = cond (ltb (length slice) (length ns)) 11 0

-- what the answer slice then holds
abbrev pub filled : Answer → List ℕ → List ℕ
filled (refuses n) slice = slice
filled (gives ns) slice = cond (ltb (length slice) (length ns)) slice (ns ++ drop (length ns) slice)

-- what else a call may write, beside an answer of one number: with no room for the answer it stays
abbrev pub left_beside : List ℕ → List ℕ → List ℕ → List ℕ
left_beside slice before after = cond (eqb (length slice) 0) before after
