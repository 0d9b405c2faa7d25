-- Document 02, E4: "The program reads a length-first sheet, then the trace, on standard input: a length above a full sheet's prints at
-- once only `refused 22`, a sheet cut short only `refused 20`." Assumes nothing.
use Rattle.std.specs.Prelude.{ℕ, cond, List, Option, Some, None, length, take, drop, ltb}
use Rattle.text.specs.Text.{ascii}
use Rattle.endian.specs.Endian.{be}
use Rattle.sheet.specs.Sheet.{full_sheet}
use Rattle.trace.specs.Annotated.{annotated}
use Rattle.trace_line.specs.Line.{line_over}

-- the sheet that a length opens, of so many bytes: none is longer than a full sheet
unfoldable pub opening_of : ℕ → Option ℕ
opening_of size = cond (ltb full_sheet size) None (Some size)

-- the lines that a sheet gives a trace are those of any `line` of the sheet, a record's number and its header
module _ (line : List ℕ → ℕ → List ℕ → List ℕ) where
  -- a sheet of so many bytes, then the trace
  unfoldable pub over_sheet : ℕ → List ℕ → List ℕ
  over_sheet size s = cond (ltb (length s) size) (ascii "refused 20\n") (annotated (line (take size s)) (drop size s))

  abbrev pub from_opening : Option ℕ → List ℕ → List ℕ
  from_opening (Some size) s = over_sheet size s
  from_opening None s = ascii "refused 22\n"

  -- an input that ends inside the length is a sheet cut short
  unfoldable pub program_with : List ℕ → List ℕ
  program_with s = cond (ltb (length s) 2) (ascii "refused 20\n") (from_opening (opening_of (be 2 s 0)) (drop 2 s))

-- by document 01's reader and router
abbrev pub program_of : List ℕ → List ℕ
program_of = program_with line_over
