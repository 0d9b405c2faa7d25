-- Document 02, E4, "Trace annotator in pieces", in its sentences, for any sheet; what is said of pieces, rooms and the end for any line
-- of a record, so also of E8's lines by an index. Lines and numbers are bytes of text. `trace_annotated` of TraceLaws proves it. Assumes
-- nothing.
use Rattle.std.specs.Prelude.{◌≡◌, true, false, ℕ, ◌+◌, ◌≤◌, ◌<◌, length, take, drop}
use mathlib.Core.List.{List, [], ◌∷◌, ◌++◌, flatten}
use Rattle.text.specs.Text.{ascii, decimal}
use Rattle.endian.specs.Endian.{be}
use Rattle.records.specs.declared.frame.Stage.TheVariants.{Between}
use Rattle.records.specs.Records.{parts_of}
use Rattle.packet.specs.declared.Packet.{Packet}
use Rattle.packet.specs.Fields.{kind_of}
use Rattle.packet_text.specs.Labels.{kind_text}
use Rattle.tlp.specs.declared.Reading.TheVariants.{Accepted, Refused as NotRead}
use Rattle.tlp.specs.Reading.{read_of}
use Rattle.sheet.specs.Sheet.{full_sheet}
use Rattle.route_answer.specs.declared.Delivery.{Delivery}
use Rattle.route_answer.specs.declared.Routing.TheVariants.{Delivered, Broadcast, Port, Refused}
use Rattle.route.specs.Route.{route_of}
use Rattle.trace.specs.declared.Trace.{Trace}
use Rattle.trace.specs.declared.Fed.{Fed}
use Rattle.trace.specs.declared.Finished.{Finished}
use Rattle.trace.specs.Annotated.{number_after}
use Rattle.trace.specs.Trace.{fresh, between, state_of, lines_of, end_line}
use Rattle.trace.proofs.TraceLaws.{state_all, lines_all}
use Rattle.trace.specs.Feed.{fed_of, fed_put, finished_of, finished_put}
use Rattle.trace.proofs.FeedLaws.{Call, taken, state_called, lines_called}
use Rattle.trace_line.specs.Line.{line_over}
use Rattle.stream_trace.specs.Program.{program_of}

-- ## One line

abbrev pub sentence : ℕ → List ℕ → List ℕ → List ℕ
sentence n kind rest = decimal n ++ ((ascii " " ++ (kind ++ rest)) ++ ascii "\n")

-- "One line comes out per record, as `1 MRd owner 2` or `2 IOWr refused 40`"
pub record Labels (sheet : List ℕ) (n : ℕ) (header : List ℕ) : Type 0 where
  -- "the kind is as read"
  pub owner_line : (p : Packet) (d : Delivery) → read_of header ≡ Accepted p → route_of header sheet ≡ Delivered d
      → line_over sheet n header ≡ sentence n (kind_text (kind_of p)) (ascii " owner " ++ decimal d.owner)
  pub refused_line : (p : Packet) (number : ℕ) → read_of header ≡ Accepted p → route_of header sheet ≡ Refused number
      → line_over sheet n header ≡ sentence n (kind_text (kind_of p)) (ascii " refused " ++ decimal number)
  -- "a refused header's `-`"
  pub header_line : (number : ℕ) → read_of header ≡ NotRead number
      → line_over sheet n header ≡ sentence n (ascii "-") (ascii " refused " ++ decimal number)
  -- "a broadcast's owner `all`"
  pub every_line : (p q : Packet) (functions : ℕ) → read_of header ≡ Accepted p → route_of header sheet ≡ Broadcast functions q
      → line_over sheet n header ≡ sentence n (kind_text (kind_of p)) (ascii " owner all")
  -- "form 100's `port`"
  pub port_line : (p q : Packet) → read_of header ≡ Accepted p → route_of header sheet ≡ Port q
      → line_over sheet n header ≡ sentence n (kind_text (kind_of p)) (ascii " owner port")
  -- "A header over 16 bytes is labelled by its front."
  pub by_its_front : line_over sheet n (take 16 header) ≡ line_over sheet n header

-- ## A trace

-- the lines of records after record n, each by document 01's reader and router
unfoldable pub lines_after : List ℕ → ℕ → List (List ℕ) → List ℕ
lines_after sheet n [] = []
lines_after sheet n (header ∷ headers) = line_over sheet (number_after n) header ++ lines_after sheet (number_after n) headers

-- all that comes out of a trace fed in these pieces, and its end, from a fresh state, each record with its `line`
abbrev pub told : (ℕ → List ℕ → List ℕ) → List (List ℕ) → List ℕ
told line pieces = lines_all line fresh pieces ++ end_line (state_all fresh pieces)

-- "From a fresh state, with one sheet throughout, wherever the cuts fall": any pieces, of which some may hold no bytes
pub record Annotates (sheet : List ℕ) (pieces : List (List ℕ)) : Type 0 where
  -- "the lines are those of document 01's reader and router applied to each record"
  pub whole_trace : (s : List ℕ) → flatten pieces ≡ 1 ∷ s → (parts_of s).whole ≡ true
      → told (line_over sheet) pieces ≡ lines_after sheet 0 (parts_of s).parts
  -- "A trace that ends inside a record gives the lines before it and a last line `cut`."
  pub cut_trace : (s : List ℕ) → flatten pieces ≡ 1 ∷ s → (parts_of s).whole ≡ false
      → told (line_over sheet) pieces ≡ lines_after sheet 0 (parts_of s).parts ++ ascii "cut\n"
  -- "A trace of no bytes gives the one line `refused 20`, .."
  pub no_trace : flatten pieces ≡ [] → told (line_over sheet) pieces ≡ ascii "refused 20\n"
  -- ".. another version only `refused 21`"
  pub other_version : (v : ℕ) (s : List ℕ) → flatten pieces ≡ v ∷ s → ¬ (v ≡ 1) → told (line_over sheet) pieces ≡ ascii "refused 21\n"
  -- "and the end state that of one piece"; between records that is the number of the last one, and nothing of its bytes
  pub end_state : state_all fresh pieces ≡ state_of fresh (flatten pieces)
  pub nothing_kept : (state_all fresh pieces).stage ≡ Between → state_all fresh pieces ≡ between (state_all fresh pieces).number

-- ## One call

-- what a call answers
abbrev pub answers : ℕ → ℕ → Trace → Fed
answers number written state = record { number = number; written = written; state = state }

-- a piece fed in any state, with any room, over a sheet or by an index
pub record Feeds (line : ℕ → List ℕ → List ℕ) (t : Trace) (piece out : List ℕ) : Type 0 where
  -- "Output room short of a piece's lines is 11 and the piece is not taken"
  pub short_room_lem : length out < length (lines_of line t piece)
      → (fed_of line t piece (length out) ≡ answers 11 0 t) × (fed_put line t piece out ≡ out)
  -- else its lines are put at the front of the room, and nothing past them
  pub enough_room : length (lines_of line t piece) ≤ length out
      → (fed_of line t piece (length out) ≡ answers 0 (length (lines_of line t piece)) (state_of t piece))
      × (fed_put line t piece out ≡ lines_of line t piece ++ drop (length (lines_of line t piece)) out)

-- "Ending gives `refused 20`, `cut` or no line, or 11 for short room, and leaves the state as it was.": it answers no state
pub record Ends (t : Trace) (out : List ℕ) : Type 0 where
  pub short_end : length out < length (end_line t)
      → (◌≡◌ {A = Finished} (finished_of t (length out)) (record { number = 11; written = 0 })) × (finished_put t out ≡ out)
  pub enough_end : length (end_line t) ≤ length out
      → (◌≡◌ {A = Finished} (finished_of t (length out)) (record { number = 0; written = length (end_line t) }))
      × (finished_put t out ≡ end_line t ++ drop (length (end_line t)) out)

-- calls with any pieces and rooms: those that are refused change neither lines nor state
pub record Calls (line : ℕ → List ℕ → List ℕ) (calls : List Call) : Type 0 where
  pub lines_of_taken : lines_called line fresh calls ++ end_line (state_called line fresh calls) ≡ told line (taken line fresh calls)
  pub state_of_taken : state_called line fresh calls ≡ state_all fresh (taken line fresh calls)

-- ## The program

-- "The program reads a length-first sheet, then the trace, on standard input": a and b are the bytes of the length
pub record Prints (a b : ℕ) : Type 0 where
  pub pieces_printed : (sheet : List ℕ) (pieces : List (List ℕ)) → length sheet ≡ be 2 (a ∷ b ∷ []) 0 → length sheet ≤ full_sheet
      → program_of (a ∷ b ∷ (sheet ++ flatten pieces)) ≡ told (line_over sheet) pieces
  -- "a length above a full sheet's prints at once only `refused 22`": whatever follows
  pub long_sheet : (s : List ℕ) → full_sheet < be 2 (a ∷ b ∷ []) 0 → program_of (a ∷ b ∷ s) ≡ ascii "refused 22\n"
  -- "a sheet cut short only `refused 20`"
  pub short_sheet : (s : List ℕ) → be 2 (a ∷ b ∷ []) 0 ≤ full_sheet → length s < be 2 (a ∷ b ∷ []) 0
      → program_of (a ∷ b ∷ s) ≡ ascii "refused 20\n"

-- ## All of it

pub record TraceAnnotated : Type 0 where
  pub labels : (sheet : List ℕ) (n : ℕ) (header : List ℕ) → Labels sheet n header
  -- "record numbers wrap at 64 bits": from 1, and after 2^64 - 1 comes 0
  pub first_number : number_after 0 ≡ 1
  pub next_number : (n : ℕ) → n < 18446744073709551615 → number_after n ≡ 1 + n
  pub number_wraps : number_after 18446744073709551615 ≡ 0
  pub annotates : (sheet : List ℕ) (pieces : List (List ℕ)) → Annotates sheet pieces
  -- "`refused 21`, at its first byte"
  pub at_first_byte : (sheet : List ℕ) (v : ℕ) → ¬ (v ≡ 1) → lines_of (line_over sheet) fresh (v ∷ []) ≡ ascii "refused 21\n"
  pub feeds : (line : ℕ → List ℕ → List ℕ) (t : Trace) (piece out : List ℕ) → Feeds line t piece out
  pub ends : (t : Trace) (out : List ℕ) → Ends t out
  pub calls : (line : ℕ → List ℕ → List ℕ) (cs : List Call) → Calls line cs
  pub prints : (a b : ℕ) → Prints a b
  pub no_length : (s : List ℕ) → length s < 2 → program_of s ≡ ascii "refused 20\n"
