-- Document 02, E4, of a whole trace: "version byte 1, then length-first records of header bytes. One line comes out per record". The
-- records are those of document 01's frame; what a record's line says is any `line` of its number and header. Assumes nothing.
use Rattle.std.specs.Prelude.{ℕ, ◌+◌, ◌%◌, cond, List, [], ◌∷◌, ◌++◌, take, ◌==◌}
use Rattle.text.specs.Text.{ascii}
use Rattle.records.specs.Records.{Parts, parts_of}

-- "record numbers wrap at 64 bits"
unfoldable pub number_after : ℕ → ℕ
number_after n = (n + 1) % 18446744073709551616

-- "A header over 16 bytes is labelled by its front."
abbrev pub front_length : ℕ
front_length = 16

abbrev pub front_of : List ℕ → List ℕ
front_of header = take front_length header

-- "A trace of no bytes gives the one line `refused 20`, another version only `refused 21`"
abbrev pub empty_line : List ℕ
empty_line = ascii "refused 20\n"

abbrev pub version_line : List ℕ
version_line = ascii "refused 21\n"

-- "A trace that ends inside a record gives the lines before it and a last line `cut`."
abbrev pub cut_line : List ℕ
cut_line = ascii "cut\n"

module _ (line : ℕ → List ℕ → List ℕ) where
  -- the records after record n
  unfoldable pub record_lines : ℕ → List (List ℕ) → List ℕ
  record_lines n [] = []
  record_lines n (header ∷ headers) = line (number_after n) (front_of header) ++ record_lines (number_after n) headers

  abbrev pub framed_lines : Parts → List ℕ
  framed_lines r = record_lines 0 r.parts ++ cond r.whole [] cut_line

  unfoldable pub annotated : List ℕ → List ℕ
  annotated [] = empty_line
  annotated (version ∷ s) = cond (version == 1) (framed_lines (parts_of s)) version_line
