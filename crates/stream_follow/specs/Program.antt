-- Document 03, E15: what the program prints that tells both ends of a trace: after the two bytes of the host's ID it reads and answers as
-- E4's annotator does, with the lines of both ends. Assumes nothing.
use Rattle.std.specs.Prelude.{ℕ, cond, List, length, drop, ltb}
use Rattle.text.specs.Text.{ascii}
use Rattle.endian.specs.Endian.{be}
use Rattle.trace_ends.specs.Ends.{line_ends}
use Rattle.stream_trace.specs.Program.{program_with}

-- an input that ends inside the ID is cut short as one that ends inside the length is
unfoldable pub follow_of : List ℕ → List ℕ
follow_of s = cond (ltb (length s) 2) (ascii "refused 20\n") (program_with (line_ends (be 2 s 0)) (drop 2 s))
