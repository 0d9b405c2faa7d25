-- Document 01, "The board": at most so many functions, depth-first, at most so many bridges above any. Document 02, E7, has the numbers:
-- "Raise functions to 512 and bridges above a function to 32. A full sheet is then 47,105 bytes." A sheet has a record for each function,
-- and so no more. Assumes nothing.
use Rattle.std.specs.Prelude.{ℕ}

abbrev pub most_functions : ℕ
most_functions = 512

abbrev pub most_above : ℕ
most_above = 32
