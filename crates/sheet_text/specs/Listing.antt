-- Document 01, "Examples": a plan is "printed whole (functions, then BARs, buses, I/O, memory, high, uppers; a refusal prints `refused
-- N`)". Registers are in hexadecimal, counts and N in decimal, and every line ends with a newline. Assumes nothing.
use Rattle.std.specs.Prelude.{ℕ, ◌+◌, ◌*◌, cond, length, take, eqb}
use mathlib.Core.List.{List, [], ◌∷◌, ◌++◌, flat_map}
use Rattle.text.specs.Text.{ascii, hexadecimal, decimal, refusal_text}
use Rattle.records.specs.Limits.{most_functions}
use Rattle.window.specs.declared.Window.{Window}
use Rattle.sheet_record.specs.Entry.{Entry, bridges}
use Rattle.sheet.specs.Sheet.{entries_of, sheet_number}
use Rattle.plan_answer.specs.declared.Planning.{Planning}
use Rattle.plan_answer.specs.declared.Planning.TheVariants.{Planned, Refused}

-- ## Words

abbrev pub newline : List ℕ
newline = 10 ∷ []

-- each number after a space, in its last `width` hexadecimal digits
unfoldable pub words : ℕ → List ℕ → List ℕ
words width [] = []
words width (n ∷ ns) = 32 ∷ hexadecimal width n ++ words width ns

-- ## A function's line

abbrev pub buses : Entry → List ℕ
buses e = e.primary ∷ e.secondary ∷ e.subordinate ∷ []

abbrev pub edges : Window → List ℕ
edges w = w.base ∷ w.limit ∷ []

abbrev pub uppers : Window → List ℕ
uppers w = w.upper_base ∷ w.upper_limit ∷ []

unfoldable pub window_text : Entry → List ℕ
window_text e = words 2 (edges e.io) ++ words 4 (edges e.low) ++ words 4 (edges e.high) ++ words 8 (uppers e.high)

unfoldable pub bridge_text : Entry → List ℕ
bridge_text e = ascii " bridge" ++ words 8 e.values ++ words 2 (buses e) ++ window_text e ++ newline

unfoldable pub end_text : Entry → List ℕ
end_text e = ascii " end" ++ words 8 e.values ++ newline

unfoldable pub line_of : Entry → List ℕ
line_of e = hexadecimal 4 e.id ++ cond (bridges e) (bridge_text e) (end_text e)

-- ## The whole

unfoldable pub count_text : ℕ → List ℕ
count_text n = ascii "plan " ++ decimal n ++ newline

unfoldable pub plan_text : List Entry → List ℕ
plan_text es = count_text (length es) ++ flat_map line_of es

-- of any bytes as a sheet
unfoldable pub sheet_text : List ℕ → List ℕ
sheet_text s = cond (eqb (sheet_number s) 0) (plan_text (entries_of s)) (refusal_text (sheet_number s))

-- of the planner's answer and the room where it left the sheet
abbrev pub planning_text : Planning → List ℕ → List ℕ
planning_text (Planned n) room = sheet_text (take n room)
planning_text (Refused n) room = refusal_text n

-- the most bytes that an answer has: a count, and a bridge's line for each function (`sheet_le` of LengthLaws)
abbrev pub longest : ℕ
longest = 9 + 83 * most_functions
