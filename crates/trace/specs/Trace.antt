-- A trace fed byte by byte, an account that hears the frame's events: what is kept of the bytes so far, and the lines that they give.
-- TraceLaws joins this with the lines of a whole trace. Assumes nothing.
use Rattle.std.specs.Prelude.{ℕ, ◌+◌, min, cond, List, [], ◌++◌, length, take, replicate, ◌==◌, slice_set}
use Rattle.records.specs.declared.frame.Stage.{Stage}
use Rattle.records.specs.declared.frame.Stage.TheVariants.{Start, Other, Between, Length, Inside}
use Rattle.records.specs.declared.frame.Event.{Event}
use Rattle.records.specs.declared.frame.Event.TheVariants.{Version, Foreign, Passed, Half, Begins, Byte}
use Rattle.records.specs.declared.frame.Ending.{Ending}
use Rattle.records.specs.declared.frame.Ending.TheVariants.{Empty, Unread, Whole, Cut}
use Rattle.records.specs.declared.Next.{Next}
use Rattle.records.specs.declared.Next.TheVariants.{Broken}
use Rattle.records.specs.Records.{next_of}
use Rattle.records.specs.Frame.{stage_of, heard_of, ending_of}
use Rattle.trace.specs.declared.Emits.{Emits}
use Rattle.trace.specs.declared.Emits.TheVariants.{Nothing, Refusal, Line}
use Rattle.trace.specs.declared.Trace.{Trace}
use Rattle.trace.specs.Annotated.{front_length, number_after, empty_line, version_line, cut_line}

-- ## The state

abbrev pub tracing : Stage → ℕ → ℕ → List ℕ → Trace
tracing stage number kept head = record { stage = stage; number = number; kept = kept; head = head }

-- no bytes kept, where no record is under way
abbrev pub no_bytes : List ℕ
no_bytes = replicate front_length 0

abbrev pub fresh : Trace
fresh = tracing Start 0 0 no_bytes

-- after record n
abbrev pub between : ℕ → Trace
between n = tracing Between n 0 no_bytes

-- what is kept beside the stage
pub record Account : Type 0 where
  pub number : ℕ
  pub kept : ℕ
  pub head : List ℕ

abbrev pub account_of : Trace → Account
account_of t = record { number = t.number; kept = t.kept; head = t.head }

abbrev pub trace_at : Stage → Account → Trace
trace_at stage a = tracing stage a.number a.kept a.head

-- with so many bytes of a record to come: with none it is whole
unfoldable pub line_at : ℕ → Emits
line_at left = cond (left == 0) Line Nothing

-- another version is refused at its first byte
abbrev pub emitted_by : Event → Emits
emitted_by Version = Nothing
emitted_by Foreign = Refusal
emitted_by Passed = Nothing
emitted_by (Half high) = Nothing
emitted_by (Begins size) = line_at size
emitted_by (Byte byte left) = line_at left

abbrev pub number_by : Emits → ℕ → ℕ
number_by Nothing n = n
number_by Refusal n = n
number_by Line n = number_after n

-- the bytes of a record are kept as far as the head has places
abbrev pub kept_by : Event → ℕ → ℕ → ℕ
kept_by Version kept places = kept
kept_by Foreign kept places = kept
kept_by Passed kept places = kept
kept_by (Half high) kept places = kept
kept_by (Begins size) kept places = 0
kept_by (Byte byte left) kept places = min (kept + 1) places

abbrev pub head_by : Event → ℕ → List ℕ → List ℕ
head_by Version kept head = head
head_by Foreign kept head = head
head_by Passed kept head = head
head_by (Half high) kept head = head
head_by (Begins size) kept head = head
head_by (Byte byte left) kept head = slice_set head kept byte

-- with a record's line its bytes are let go
abbrev pub kept_after : Emits → ℕ → ℕ
kept_after Nothing kept = kept
kept_after Refusal kept = kept
kept_after Line kept = 0

abbrev pub head_after : Emits → List ℕ → List ℕ
head_after Nothing head = head
head_after Refusal head = head
head_after Line head = no_bytes

abbrev pub heard_by : Account → Event → Account
heard_by a e =
    record {
      number = number_by (emitted_by e) a.number;
      kept = kept_after (emitted_by e) (kept_by e a.kept (length a.head));
      head = head_after (emitted_by e) (head_by e a.kept a.head);
    }

-- after a piece
unfoldable pub state_of : Trace → List ℕ → Trace
state_of t piece = trace_at (stage_of t.stage piece) (heard_of heard_by t.stage (account_of t) piece)

-- ## The lines

-- what is kept with an event, before a line lets it go
abbrev pub header_by : Event → Account → List ℕ
header_by e a = take (kept_by e a.kept (length a.head)) (head_by e a.kept a.head)

-- an account, and the lines that were given on the way to it
pub record Told : Type 0 where
  pub account : Account
  pub lines : List ℕ

module _ (line : ℕ → List ℕ → List ℕ) where
  abbrev pub text_of : Emits → ℕ → List ℕ → List ℕ
  text_of Nothing number header = []
  text_of Refusal number header = version_line
  text_of Line number header = line number header

  -- the account is that before the event
  abbrev pub text_by : Event → Account → List ℕ
  text_by e a = text_of (emitted_by e) (number_by (emitted_by e) a.number) (header_by e a)

  abbrev pub told_by : Told → Event → Told
  told_by t e = record { account = heard_by t.account e; lines = t.lines ++ text_by e t.account }

  -- of a piece
  unfoldable pub lines_of : Trace → List ℕ → List ℕ
  lines_of t piece = (heard_of told_by t.stage (record { account = account_of t; lines = [] }) piece).lines

-- the record that starts here, if one is whole here
abbrev pub next_in : Stage → List ℕ → Next
next_in Start s = Broken
next_in Other s = Broken
next_in Between s = next_of s
next_in (Length high) s = Broken
next_in (Inside left) s = Broken

-- how many lines a piece gives, by the frame alone
abbrev pub count_on : Emits → ℕ → ℕ
count_on Nothing n = n
count_on Refusal n = n + 1
count_on Line n = n + 1

abbrev pub count_by : ℕ → Event → ℕ
count_by n e = count_on (emitted_by e) n

unfoldable pub line_count : Stage → List ℕ → ℕ
line_count stage piece = heard_of count_by stage 0 piece

-- ## At the end

abbrev pub end_text : Ending → List ℕ
end_text Empty = empty_line
end_text Unread = []
end_text Whole = []
end_text Cut = cut_line

abbrev pub end_line : Trace → List ℕ
end_line t = end_text (ending_of t.stage)
