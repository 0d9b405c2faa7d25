-- A record's line by an engine and its bytes: E4's and E8's, which tells the owner, and document 03's, which tells both ends. Assumes
-- nothing.
use Rattle.std.specs.Prelude.{ℕ, ◌≡◌, List}
use Rattle.sheet.specs.Sheet.{sheet_number}
use Rattle.trace_line.specs.Finder.{Knows, line_by}
use Rattle.trace_ends.specs.Ends.{line_ends}
use Rattle.trace_engine.specs.declared.Engine.{Engine}
use Rattle.trace_engine.specs.declared.Engine.TheVariants.{Owner, Ends}

-- the number that it has is its sheet's
abbrev pub Ready : Engine → List ℕ → Type 0
Ready (Owner finder) bytes = Knows finder bytes
Ready (Ends host_id number) bytes = number ≡ sheet_number bytes

abbrev pub line_of : Engine → List ℕ → ℕ → List ℕ → List ℕ
line_of (Owner finder) bytes = line_by finder bytes
line_of (Ends host_id number) bytes = line_ends host_id bytes

-- no line is longer
abbrev pub longest_of : Engine → ℕ
longest_of (Owner _) = 40
longest_of (Ends host_id number) = 51

-- nor by any engine
abbrev pub longest_line : ℕ
longest_line = 51
