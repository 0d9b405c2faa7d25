-- A host record and then a sheet, an input of any length fed in pieces: as many bytes are kept as the two can have, and one more to tell
-- that there are more. `pieces_audited` of FeedLaws says that the answer is the audit's on all the bytes, wherever the cuts fall.
-- Assumes nothing.
use Rattle.std.specs.Prelude.{ℕ, ◌+◌, ◌-◌, min, Bool, false, cond, not, ◌||◌, List, length, take, drop, eqb, ltb}
use Rattle.std.proofs.lemmas.List.Edits.{sets}
use Rattle.records.specs.declared.frame.Stage.TheVariants.{Start}
use Rattle.records.specs.declared.frame.Event.{Event}
use Rattle.records.specs.declared.frame.Event.TheVariants.{Version, Foreign, Passed, Half, Begins, Byte}
use Rattle.records.specs.declared.frame.Ending.{Ending}
use Rattle.records.specs.declared.frame.Ending.TheVariants.{Empty, Unread, Whole, Cut}
use Rattle.records.specs.Frame.{stage_of, heard_of, ending_of}
use Rattle.board_record.specs.Host.{host_length, host_of_part, host_wrong}
use Rattle.sheet_record.specs.Places.{record_size}
use Rattle.sheet.specs.Sheet.{full_sheet}
use Rattle.audit_feed.specs.declared.Feed.{Feed}
use Rattle.audit_feed.specs.Program.{input_number, number_text}

abbrev pub most_bytes : ℕ
most_bytes = host_length + full_sheet

abbrev pub kept : ℕ
kept = most_bytes + 1

abbrev pub started : Feed
started = record { count = 0; stage = Start; misframed = false }

-- ## A piece more

-- what of it is the sheet's
abbrev pub sheet_in : Feed → List ℕ → List ℕ
sheet_in f piece = drop (host_length - f.count) piece

-- a record of another length than 90 is noted where it begins
abbrev pub heard_by : Bool → Event → Bool
heard_by m Version = m
heard_by m Foreign = m
heard_by m Passed = m
heard_by m (Half high) = m
heard_by m (Begins size) = m || not (eqb size record_size)
heard_by m (Byte byte left) = m

abbrev pub fed_of : Feed → List ℕ → Feed
fed_of f piece =
    record {
      count = min (f.count + length piece) kept;
      stage = stage_of f.stage (sheet_in f piece);
      misframed = heard_of heard_by f.stage f.misframed (sheet_in f piece);
    }

-- the room that keeps the first bytes
abbrev pub kept_after : Feed → List ℕ → List ℕ → List ℕ
kept_after f room piece = sets room f.count piece

-- ## The answer: of an input too long for a full sheet, by the host record and the sheet's frame; else the audit's, on the bytes kept

abbrev pub number_at : Ending → Bool → ℕ
number_at Empty m = 20
number_at Unread m = 21
number_at Whole m = cond m 20 22
number_at Cut m = 20

unfoldable pub frame_number : Feed → ℕ
frame_number f = number_at (ending_of f.stage) f.misframed

unfoldable pub long_number : Feed → List ℕ → ℕ
long_number f host = cond (host_wrong (host_of_part host)) 26 (frame_number f)

unfoldable pub is_long : Feed → Bool
is_long f = ltb most_bytes f.count

unfoldable pub number_of : Feed → List ℕ → ℕ
number_of f room = cond (is_long f) (long_number f (take host_length room)) (input_number (take f.count room))

-- as it is printed
unfoldable pub answer_of : Feed → List ℕ → List ℕ
answer_of f room = number_text (number_of f room)
