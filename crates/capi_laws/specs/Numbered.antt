-- No refusal has the number 0, so that a call returns 0 just where it is accepted and its answer slice has room (`given_of_zero` of
-- capi_answers): each definition's own law says which numbers its refusals have. Assumes nothing.
use Rattle.std.specs.Prelude.{ℕ, ◌≡◌, refl, Bool, true, false, cond, List, [], ◌∷◌, eqb}
use Rattle.std.proofs.Common.{arith}
use Rattle.std.proofs.lemmas.Bool.{eqb-false}
use Rattle.packet_parsing.specs.RefusedLaws.{Numbered as NumberedParsed, numbered_packet}
use Rattle.packet_parsing.specs.declared.Parsed.{Parsed}
use Rattle.packet_parsing.specs.declared.Parsed.TheVariants.{Accepted as Taken, Refused as NotTaken}
use Rattle.packet_parsing.specs.Parsing.{last_kind, is_reserved, kind_at, by_address, by_target, completing, messaging, any_above, packet_as}
use Rattle.packet_parsing.specs.Parsing.{on_pair, on_kind, from_kind, packet_of}
use Rattle.tlp.specs.declared.Reading.{Reading}
use Rattle.tlp.specs.declared.Reading.TheVariants.{Accepted, Refused as NotRead}
use Rattle.tlp.specs.Reading.{read_of}
use Rattle.tlp.specs.declared.Writing.{Writing}
use Rattle.tlp.specs.declared.Writing.TheVariants.{Written, Refused as NotWritten}
use Rattle.tlp.specs.Writing.{write_of}
use Rattle.tlp.specs.NumberLaws as header_numbers
use Rattle.sheet.specs.declared.RecordId.{RecordId}
use Rattle.sheet.specs.declared.RecordId.TheVariants.{Id, Refused as NoRecord}
use Rattle.sheet.specs.declared.Lookup.{Lookup}
use Rattle.sheet.specs.declared.Lookup.TheVariants.{Registers, Refused as NotFound}
use Rattle.sheet.specs.Lookup.{lookup_of, record_id}
use Rattle.sheet.proofs.NumberLaws as sheet_numbers
use Rattle.route_list.specs.Counted.{counted}
use Rattle.route_answer.specs.declared.Routing.{Routing}
use Rattle.route_answer.specs.declared.Routing.TheVariants.{Delivered, Broadcast, Port, Refused as NotDelivered}
use Rattle.route_answer.proofs.NumberLaws.{Numbered as NumberedRouting}
use Rattle.route.specs.Route.{route_of}
use Rattle.route.specs.Listed.{list_of}
use Rattle.route.proofs.NumberLaws as route_numbers
use Rattle.index_search.specs.Search.{search_of}
use Rattle.index_search.specs.NumberLaws.{numbered_search}
use Rattle.plan_answer.specs.declared.Planning.{Planning}
use Rattle.plan_answer.specs.declared.Planning.TheVariants.{Planned, Refused as NotPlanned}
use Rattle.plan_answer.specs.Plan.{planning}
use Rattle.plan_answer.specs.NumberLaws.{Numbered as NumberedPlanning, numbered_planning}
use Rattle.trace.specs.Feed.{fed_of, finished_of}
use Rattle.trace_ends.specs.Ends.{line_ends}
use Rattle.trace_numbers.specs.Parsing.{Parsed as ParsedState, Accepted as State, Refused as NoState, trace_of}
use Rattle.trace_numbers.specs.NumbersLaws.{NumberedParsed as NumberedParsedState, numbered_trace_of}
use Rattle.capi_answers.specs.Answers.{refuses, gives}
use Rattle.capi_answers.proofs.AnswersLaws.{Numbered}
use Rattle.capi_routing.specs.Routing.{on_routing}
use Rattle.capi_trace.specs.Calls.{on_lines, piece_on, piece_answer, no_host_id, follow_answer, end_on, end_answer}
use Rattle.capi_find.specs.Calls.{find_answer}
use Rattle.capi_cards.specs.Calls.{send_answer}
use Rattle.capi_cards.specs.Numbered.{numbered_sending}
use Rattle.capi_sent.specs.Calls.{sender_answer, ends_answer}
use Rattle.capi_sent.specs.Numbered as sent_numbers
use Rattle.capi_script.specs.Calls.{script_answer}
use Rattle.capi_script.specs.Refused.{numbered_script as script_numbered}
use Rattle.capi_packet.specs.Calls.{on_reading, read_answer, on_writing, on_parsed, write_answer}
use Rattle.capi_sheet.specs.Calls.{on_lookup, lookup_answer, on_record_id, id_answer}
use Rattle.capi_plan.specs.Calls.{on_planning, plan_answer}
use Rattle.capi_route.specs.Calls.{route_answer}

-- ## Reading and writing

pub numbered_read : (header : List ℕ) → Numbered (read_answer header)
numbered_read header = go (read_of header) (header_numbers.numbered_read header)
  where
    go : (r : Reading) → header_numbers.NumberedReading r → Numbered (on_reading r)
    go (Accepted p) h = tt
    go (NotRead n) h = h.0

pub numbered_write : (packet : List ℕ) (room : ℕ) → Numbered (write_answer packet room)
numbered_write packet room = by_packet (packet_of packet) (numbered_packet packet)
  where
    by_writing : (w : Writing) → header_numbers.NumberedWriting w → Numbered (on_writing w)
    by_writing (Written n) h = tt
    by_writing (NotWritten n) h = h.0

    by_packet : (q : Parsed) → NumberedParsed q → Numbered (on_parsed q room)
    by_packet (Taken p) h = by_writing (write_of p room) (header_numbers.numbered_write p room)
    by_packet (NotTaken n) h = h.0

-- ## Lookup, and from a record's number to its ID

pub numbered_lookup : (sheet : List ℕ) (id : ℕ) → Numbered (lookup_answer sheet id)
numbered_lookup sheet id = go (lookup_of sheet id) (sheet_numbers.numbered_lookup sheet id)
  where
    go : (l : Lookup) → sheet_numbers.NumberedLookup l → Numbered (on_lookup l)
    go (Registers at) h = tt
    go (NotFound n) h = h.0

pub numbered_id : (sheet : List ℕ) (number : ℕ) → Numbered (id_answer sheet number)
numbered_id sheet number = go (record_id sheet number) (sheet_numbers.numbered_id sheet number)
  where
    go : (r : RecordId) → sheet_numbers.NumberedId r → Numbered (on_record_id r)
    go (Id id) h = tt
    go (NoRecord n) h = h.0

-- ## Routing: by a walk over a sheet, or by an index

numbered_routing : (list : ℕ → List ℕ) (r : Routing) → NumberedRouting r → Numbered (on_routing r list)
numbered_routing list (Delivered d) h = tt
numbered_routing list (Broadcast n p) h = tt
numbered_routing list (Port p) h = tt
numbered_routing list (NotDelivered n) h = h.0

pub numbered_route : (header sheet : List ℕ) → Numbered (route_answer header sheet)
numbered_route header sheet =
    numbered_routing (λ n. list_of sheet) (route_of header sheet) (route_numbers.numbered_route header sheet)

pub numbered_find : (header ix : List ℕ) → Numbered (find_answer header ix)
numbered_find header ix = numbered_routing (counted 1) (search_of header ix) (numbered_search header ix)

-- a request from a card
pub numbered_route_from : (number : ℕ) (header sheet : List ℕ) → Numbered (send_answer number header sheet)
numbered_route_from = numbered_sending

-- both ends
pub numbered_sender : (host_id : ℕ) (header sheet : List ℕ) → Numbered (sender_answer host_id header sheet)
numbered_sender = sent_numbers.numbered_sender

pub numbered_route_sent : (host_id : ℕ) (header sheet : List ℕ) → Numbered (ends_answer host_id header sheet)
numbered_route_sent = sent_numbers.numbered_ends

-- ## Planning

pub numbered_plan : (board : List ℕ) (room : ℕ) → Numbered (plan_answer board room)
numbered_plan board room = go (planning board room) (numbered_planning board room)
  where
    go : (a : Planning) → NumberedPlanning a → Numbered (on_planning a)
    go (Planned n) h = tt
    go (NotPlanned n) h = h.0

-- its script
pub numbered_script : (board : List ℕ) (requester tag room : ℕ) → Numbered (script_answer board requester tag room)
numbered_script = script_numbered

-- ## A trace

numbered_lines : (number count : ℕ) → Numbered (on_lines number count)
numbered_lines number count = go (eqb number 0) refl
  where
    go : (b : Bool) → eqb number 0 ≡ b → Numbered (cond b (gives (count ∷ [])) (refuses number))
    go true e = tt
    go false e = omega (arith, eqb-false number 0 e)

-- over a sheet or by an index
pub numbered_piece : (line : ℕ → List ℕ → List ℕ) (state piece : List ℕ) (room : ℕ) → Numbered (piece_answer line state piece room)
numbered_piece line state piece room = go (trace_of state) (numbered_trace_of state)
  where
    go : (q : ParsedState) → NumberedParsedState q → Numbered (piece_on line q piece room)
    go (State t) h = let f = fed_of line t piece room in numbered_lines f.number f.written
    go (NoState n) h = h

pub numbered_follow : (host_id : ℕ) (sheet state piece : List ℕ) (room : ℕ) → Numbered (follow_answer host_id sheet state piece room)
numbered_follow host_id sheet state piece room = go (no_host_id host_id)
  where
    go : (b : Bool) → Numbered (cond b (refuses 10) (piece_answer (line_ends host_id sheet) state piece room))
    go true = omega arith
    go false = numbered_piece (line_ends host_id sheet) state piece room

pub numbered_end : (state : List ℕ) (room : ℕ) → Numbered (end_answer state room)
numbered_end state room = go (trace_of state) (numbered_trace_of state)
  where
    go : (q : ParsedState) → NumberedParsedState q → Numbered (end_on q room)
    go (State t) h = let f = finished_of t room in numbered_lines f.number f.written
    go (NoState n) h = h
