-- Demand 1: "Any bytes may be given as a header, a board or a register sheet, with no duty on the caller beforehand. Each call ends with an
-- answer or a numbered refusal, and a refused call changes no lent byte." No call of docs/API.md has a `requires` (what one crate helps
-- another with may), and the contract of each says for any bytes what it answers and what every byte that it may write then holds, by the
-- definitions named here. What is left is the last clause, of each call that is lent something to write; what it is lent to read alone, no
-- call can change. Assumes nothing.
use Rattle.std.specs.Prelude.{◌≡◌, List, ℕ, length}
use Rattle.packet.specs.declared.Packet.{Packet}
use Rattle.tlp.specs.declared.Writing.TheVariants.{Refused as NotWritten}
use Rattle.tlp.specs.Writing.{write_of, room_after}
use Rattle.sheet.specs.declared.Lookup.TheVariants.{Refused as NotFound}
use Rattle.sheet.specs.Lookup.{lookup_of, with_command}
use Rattle.plan_answer.specs.declared.Planning.TheVariants.{Refused as NotPlanned}
use Rattle.plan_answer.specs.Plan.{planning, sheet_after}
use Rattle.board_feed.specs.declared.Feed.{Feed}
use Rattle.board_feed.specs.Feed.{planning_of, sheet_of}
use Rattle.route_answer.specs.declared.Routing.TheVariants.{Refused}
use Rattle.route.specs.Route.{route_of}
use Rattle.route_answer.specs.Listed.{on_room, listed_after}
use Rattle.route.specs.Listed.{list_after}
use Rattle.route_sent.specs.BothEnds as ends
use Rattle.route_sent.specs.BothEnds.{both_ends_of}
use Rattle.trace.specs.declared.Trace.{Trace}
use Rattle.trace.specs.Feed.{fed_of, fed_put, finished_of, finished_put}
use Rattle.index_build.specs.Build.{build_number, sound_build_number, index_after, sound_index_after}
use Rattle.index_alone.specs.Alone.{alone_build_number, alone_index_after}
use Rattle.index_search.specs.Search.{search_of}
use Rattle.ledger.specs.Ledger.{open_number, open_after, complete_number, complete_after}
use Rattle.scripter.specs.declared.Scripting.TheVariants.{Refused as NotScripted}
use Rattle.scripter.specs.Scripting as scripter
use Rattle.script_feed.specs.declared.Input.{Input}
use Rattle.script_feed.specs.Feed as fed
use Rattle.capi_laws.specs.Refused.{RefusedKeeps}

pub record Demand1 : Type 0 where
  -- `tlp::write`: the room
  pub write_keeps_room : (p : Packet) (room : List ℕ) (n : ℕ) → write_of p (length room) ≡ NotWritten n → room_after p room ≡ room
  -- `planner::plan`, and `board_feed::Feed::plan` of a board that was fed in pieces: the sheet
  pub plan_keeps_sheet : (b sheet : List ℕ) (n : ℕ) → planning b (length sheet) ≡ NotPlanned n → sheet_after b sheet ≡ sheet
  pub fed_plan_keeps_sheet : (f : Feed) (kept sheet : List ℕ) (n : ℕ) → planning_of f kept (length sheet) ≡ NotPlanned n
      → sheet_of f kept sheet ≡ sheet
  -- `scripter::write_script`, and `script_feed::Input::script` of one that was fed: the room
  pub script_keeps_room : (b room : List ℕ) (requester tag n : ℕ) → scripter.scripting b (length room) ≡ NotScripted n
      → scripter.room_after b requester tag room ≡ room
  pub fed_script_keeps_room : (f : Input) (front kept room : List ℕ) (n : ℕ) → fed.scripting_of f kept (length room) ≡ NotScripted n
      → fed.room_of f front kept room ≡ room
  -- `sheet::set_command`: the sheet
  pub command_keeps_sheet : (s : List ℕ) (id command n : ℕ) → lookup_of s id ≡ NotFound n → with_command (lookup_of s id) s command ≡ s
  -- `route::route_listed`, `index_search::search_listed` and `route_sent::route_sent_listed`: the slice for a broadcast's list
  pub route_keeps_list : (header s list : List ℕ) (n : ℕ) → let r = on_room (route_of header s) (length list) in
      r ≡ Refused n → list_after r s list ≡ list
  pub search_keeps_list : (header index list : List ℕ) (n : ℕ) → let r = on_room (search_of header index) (length list) in
      r ≡ Refused n → listed_after r list ≡ list
  pub sent_keeps_list : (host_id : ℕ) (header s list : List ℕ) → let r = ends.on_room (both_ends_of host_id header s) (length list) in
      ¬ (ends.number_of r ≡ 0) → ends.listed_after r list ≡ list
  -- `index_build::build` and `build_sound`, `index_alone::build_alone`: the slice for the index
  pub build_keeps_slice : (host s slice : List ℕ) → ¬ (build_number host s (length slice) ≡ 0) → index_after host s slice ≡ slice
  pub build_sound_keeps_slice : (host s slice : List ℕ) → ¬ (sound_build_number host s (length slice) ≡ 0)
      → sound_index_after host s slice ≡ slice
  pub build_alone_keeps_slice : (s slice : List ℕ) → ¬ (alone_build_number s (length slice) ≡ 0) → alone_index_after s slice ≡ slice
  -- `trace_feed::feed` over a sheet, `feed_index` by an index, and `trace::finish`: the room for lines; and the state goes on as it was
  pub feed_keeps_room : (line : ℕ → List ℕ → List ℕ) (t : Trace) (piece room : List ℕ)
      → let fed = fed_of line t piece (length room) in
      ¬ (fed.number ≡ 0) → (fed_put line t piece room ≡ room) × (fed.state ≡ t)
  pub finish_keeps_room : (t : Trace) (room : List ℕ) → ¬ ((finished_of t (length room)).number ≡ 0) → finished_put t room ≡ room
  -- `ledger::open_request` and `complete_request`: the ledger
  pub open_keeps_ledger : (header ledger : List ℕ) → ¬ (open_number header ledger ≡ 0) → open_after header ledger ≡ ledger
  pub complete_keeps_ledger : (header ledger : List ℕ) → ¬ (complete_number header ledger ≡ 0) → complete_after header ledger ≡ ledger
  -- and every call from C: its answer slice, and what else it is lent to write
  pub from_c : RefusedKeeps
