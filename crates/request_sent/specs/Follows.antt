-- Document 03, E15, of a trace: "A trace of both ends is fed as `cartsundial_annotate` is, with the host's ID first": a record's line names
-- who sends the packet and who gets it, and cut anywhere, the lines are those of the call on each record. What E4 says of rooms, of
-- refused pieces and of the end it says for any line of a record (`feeds`, `calls` and `ends` of TraceAnnotated). `follows` of FollowsLaws
-- proves it. Assumes nothing.
use Rattle.std.specs.Prelude.{◌≡◌, true, false, ℕ, ◌≤◌, ◌<◌, length, take}
use mathlib.Core.List.{List, [], ◌∷◌, ◌++◌, flatten}
use Rattle.text.specs.Text.{ascii, decimal}
use Rattle.endian.specs.Endian.{be}
use Rattle.records.specs.Records.{parts_of}
use Rattle.packet.specs.declared.Packet.{Packet}
use Rattle.packet.specs.Fields.{kind_of}
use Rattle.packet_text.specs.Labels.{kind_text}
use Rattle.tlp.specs.declared.Reading.TheVariants.{Accepted, Refused as NotRead}
use Rattle.tlp.specs.Reading.{read_of}
use Rattle.sheet.specs.Sheet.{full_sheet, sheet_number}
use Rattle.route_answer.specs.declared.Delivery.{Delivery}
use Rattle.route_answer.specs.declared.Routing.TheVariants.{Delivered as RoutedTo, Broadcast, Port as RoutedToPort, Refused as NotRouted}
use Rattle.route_cards.specs.declared.Arrival.{Arrival}
use Rattle.route_sent.specs.declared.Fate.TheVariants.{Delivered, Host, Port, Refused}
use Rattle.route_sent.specs.declared.BothEnds.TheVariants.{FromHost, FromFunction}
use Rattle.route_sent.specs.BothEnds.{both_ends_of}
use Rattle.trace.specs.Annotated.{number_after}
use Rattle.trace.specs.Trace.{fresh, state_of}
use Rattle.trace.proofs.TraceLaws.{state_all}
use Rattle.trace_ends.specs.Ends.{line_ends}
use Rattle.stream_follow.specs.Program.{follow_of}
use Rattle.requests.specs.Trace.{sentence, told}

-- ## One line

-- of record n, whose header is read as a packet
pub record NamesEnds (host_id : ℕ) (sheet : List ℕ) (n : ℕ) (header : List ℕ) (p : Packet) : Type 0 where
  -- `6 MRd from host to 4`
  pub host_to_function : (d : Delivery) → both_ends_of host_id header sheet ≡ FromHost (RoutedTo d)
      → line_ends host_id sheet n header ≡ sentence n (kind_text (kind_of p)) (ascii " from host to " ++ decimal d.owner)
  -- `from host to all`
  pub host_to_all : (functions : ℕ) (q : Packet) → both_ends_of host_id header sheet ≡ FromHost (Broadcast functions q)
      → line_ends host_id sheet n header ≡ sentence n (kind_text (kind_of p)) (ascii " from host to all")
  pub host_to_port : (q : Packet) → both_ends_of host_id header sheet ≡ FromHost (RoutedToPort q)
      → line_ends host_id sheet n header ≡ sentence n (kind_text (kind_of p)) (ascii " from host to port")
  -- "The answer names the sender also where it is refused with 40, 41, 44 or 45": `3 MRd from host refused 40`
  pub host_refused : (number : ℕ) → both_ends_of host_id header sheet ≡ FromHost (NotRouted number)
      → line_ends host_id sheet n header ≡ sentence n (kind_text (kind_of p)) (ascii " from host refused " ++ decimal number)
  -- from record k
  pub function_to_function : (k : ℕ) (d : Arrival) → both_ends_of host_id header sheet ≡ FromFunction k (Delivered d)
      → line_ends host_id sheet n header
      ≡ sentence n (kind_text (kind_of p)) ((ascii " from " ++ decimal k) ++ (ascii " to " ++ decimal d.owner))
  -- `4 MWr from 3 to host`
  pub function_to_host : (k bridges : ℕ) (q : Packet) → both_ends_of host_id header sheet ≡ FromFunction k (Host bridges q)
      → line_ends host_id sheet n header ≡ sentence n (kind_text (kind_of p)) ((ascii " from " ++ decimal k) ++ ascii " to host")
  -- `from 3 to port`
  pub function_to_port : (k : ℕ) (q : Packet) → both_ends_of host_id header sheet ≡ FromFunction k (Port q)
      → line_ends host_id sheet n header ≡ sentence n (kind_text (kind_of p)) ((ascii " from " ++ decimal k) ++ ascii " to port")
  -- `7 MWr from 3 refused 44`
  pub function_refused : (k number : ℕ) → both_ends_of host_id header sheet ≡ FromFunction k (Refused number)
      → line_ends host_id sheet n header
      ≡ sentence n (kind_text (kind_of p)) ((ascii " from " ++ decimal k) ++ (ascii " refused " ++ decimal number))
  -- "with the reader's or the sheet's number there is none": `1 MRd refused 27`
  pub sheet_refused : ¬ (sheet_number sheet ≡ 0)
      → line_ends host_id sheet n header ≡ sentence n (kind_text (kind_of p)) (ascii " refused " ++ decimal (sheet_number sheet))

-- ## A trace

-- the lines of records after record n, each by the call on its header
unfoldable pub lines_after : ℕ → List ℕ → ℕ → List (List ℕ) → List ℕ
lines_after host_id sheet n [] = []
lines_after host_id sheet n (header ∷ headers) =
    line_ends host_id sheet (number_after n) header ++ lines_after host_id sheet (number_after n) headers

-- from a fresh state, with one ID and one sheet throughout, wherever the cuts fall
pub record Follows (host_id : ℕ) (sheet : List ℕ) (pieces : List (List ℕ)) : Type 0 where
  -- the lines are those of the call on each record
  pub whole_trace : (s : List ℕ) → flatten pieces ≡ 1 ∷ s → (parts_of s).whole ≡ true
      → told (line_ends host_id sheet) pieces ≡ lines_after host_id sheet 0 (parts_of s).parts
  pub cut_trace : (s : List ℕ) → flatten pieces ≡ 1 ∷ s → (parts_of s).whole ≡ false
      → told (line_ends host_id sheet) pieces ≡ lines_after host_id sheet 0 (parts_of s).parts ++ ascii "cut\n"
  pub no_trace : flatten pieces ≡ [] → told (line_ends host_id sheet) pieces ≡ ascii "refused 20\n"
  pub other_version : (v : ℕ) (s : List ℕ) → flatten pieces ≡ v ∷ s → ¬ (v ≡ 1)
      → told (line_ends host_id sheet) pieces ≡ ascii "refused 21\n"
  -- and the end state that of one piece
  pub end_state : state_all fresh pieces ≡ state_of fresh (flatten pieces)

-- ## The program

-- x and y are the bytes of the host's ID, a and b those of the length
pub record FollowPrints (x y a b : ℕ) : Type 0 where
  pub pieces_printed : (sheet : List ℕ) (pieces : List (List ℕ)) → length sheet ≡ be 2 (a ∷ b ∷ []) 0 → length sheet ≤ full_sheet
      → follow_of (x ∷ y ∷ (a ∷ b ∷ (sheet ++ flatten pieces))) ≡ told (line_ends (be 2 (x ∷ y ∷ []) 0) sheet) pieces
  pub long_sheet : (s : List ℕ) → full_sheet < be 2 (a ∷ b ∷ []) 0 → follow_of (x ∷ y ∷ (a ∷ b ∷ s)) ≡ ascii "refused 22\n"
  pub short_sheet : (s : List ℕ) → be 2 (a ∷ b ∷ []) 0 ≤ full_sheet → length s < be 2 (a ∷ b ∷ []) 0
      → follow_of (x ∷ y ∷ (a ∷ b ∷ s)) ≡ ascii "refused 20\n"

-- ## All of it

pub record TraceFollowed : Type 0 where
  pub labels : (host_id : ℕ) (sheet : List ℕ) (n : ℕ) (header : List ℕ) (p : Packet) → read_of header ≡ Accepted p
      → NamesEnds host_id sheet n header p
  -- a header that is not read: `2 - refused 4`
  pub header_line : (host_id : ℕ) (sheet : List ℕ) (n : ℕ) (header : List ℕ) (number : ℕ) → read_of header ≡ NotRead number
      → line_ends host_id sheet n header ≡ sentence n (ascii "-") (ascii " refused " ++ decimal number)
  -- "A header over 16 bytes is labelled by its front."
  pub by_its_front : (host_id : ℕ) (sheet : List ℕ) (n : ℕ) (header : List ℕ)
      → line_ends host_id sheet n (take 16 header) ≡ line_ends host_id sheet n header
  pub follows : (host_id : ℕ) (sheet : List ℕ) (pieces : List (List ℕ)) → Follows host_id sheet pieces
  pub prints : (x y a b : ℕ) → FollowPrints x y a b
  -- fewer than two bytes, or two and fewer than two of the length
  pub no_id : (s : List ℕ) → length s < 2 → follow_of s ≡ ascii "refused 20\n"
  pub no_length : (x y : ℕ) (s : List ℕ) → length s < 2 → follow_of (x ∷ y ∷ s) ≡ ascii "refused 20\n"
