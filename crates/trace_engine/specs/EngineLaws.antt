-- The lines of a piece, each of at most so many bytes, fit a room that has so many for each of them. Assumes nothing.
use Rattle.std.specs.Prelude.{ℕ, ◌+◌, ◌*◌, ◌/◌, ◌≤◌, ◌<◌, ◌≡◌, List, length}
use Rattle.std.proofs.Common.{arith}
use Rattle.trace.specs.declared.Trace.{Trace}
use Rattle.trace.specs.declared.Emits.{Emits}
use Rattle.trace.specs.Trace.{text_of, lines_of, line_count}
use Rattle.trace.proofs.FeedLaws.{Sound, text_le, lines_le, count_le_half}
use Rattle.trace_line.specs.Finder.{line_by}
use Rattle.trace_line.specs.LineLaws.{line_le}
use Rattle.trace_ends.specs.Ends.{line_ends}
use Rattle.trace_ends.specs.EndsLaws.{line_ends_le}
use Rattle.trace_engine.specs.declared.Engine.{Engine}
use Rattle.trace_engine.specs.declared.Engine.TheVariants.{Owner, Ends}
use Rattle.trace_engine.specs.Engine.{line_of, longest_of, longest_line}

-- what an event gives, with a record's number and header
pub emitted_le : (engine : Engine) (bytes : List ℕ) (m : Emits) (n : ℕ) (header : List ℕ) → Sound n
    → length (text_of (line_of engine bytes) m n header) ≤ longest_line
emitted_le (Owner finder) bytes m n header s = omega (arith, text_le (line_by finder bytes) 40 (omega arith) (line_le finder bytes) m n header s)
emitted_le (Ends host_id number) bytes m n header s = text_le (line_ends host_id bytes) 51 (omega arith) (line_ends_le host_id bytes) m n header s

-- lines that are few enough fit
pub few_fit : (engine : Engine) (bytes : List ℕ) (t : Trace) (piece : List ℕ) (room : ℕ) → Sound t.number
    → line_count t.stage piece ≤ room / longest_of engine → length (lines_of (line_of engine bytes) t piece) ≤ room
few_fit (Owner finder) bytes t piece room sound few =
    omega (arith, lines_le (line_by finder bytes) 40 (omega arith) (line_le finder bytes) t piece sound)
few_fit (Ends host_id number) bytes t piece room sound few =
    omega (arith, lines_le (line_ends host_id bytes) 51 (omega arith) (line_ends_le host_id bytes) t piece sound)

-- and so do those of a piece that is short enough
pub half_fit : (engine : Engine) (bytes : List ℕ) (t : Trace) (piece : List ℕ) (room most : ℕ) → Sound t.number
    → most ≡ room / longest_of engine → length piece / 2 < most → length (lines_of (line_of engine bytes) t piece) ≤ room
half_fit engine bytes t piece room most sound is short =
    few_fit engine bytes t piece room sound (rw (← is) (omega (arith, count_le_half t.stage piece)))

-- a room for any line has room for one
pub some_fit : (engine : Engine) (room : ℕ) → longest_line ≤ room → 0 < room / longest_of engine
some_fit (Owner _) room h = omega arith
some_fit (Ends host_id number) room h = omega arith
