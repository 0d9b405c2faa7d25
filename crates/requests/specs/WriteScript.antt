-- Document 02, E14, "The write script", in the request's sentences: what the call answers for a board, what a script is, and what becomes
-- of the registers while its records are performed one after another. Bytes are what a slice of u8 holds. `write_script` of
-- WriteScriptLaws proves it. Assumes nothing.
use Rattle.std.specs.Prelude.{◌≡◌, ◌⊎◌, true, List, ◌∷◌, ℕ, ◌≤◌, ◌<◌, length, take, drop}
use Rattle.endian.specs.Endian.{Bytes}
use Rattle.packet.specs.declared.Packet.{Packet}
use Rattle.tlp.specs.declared.Reading.TheVariants.{Accepted}
use Rattle.tlp.specs.Reading.{read_of}
use Rattle.pools.specs.declared.Space.{Space}
use Rattle.records.specs.Records.{parts_of}
use Rattle.walk.specs.Walk.{refused, no_owner}
use Rattle.sheet.specs.Sheet.{full_sheet}
use Rattle.plan_answer.specs.declared.Planning.TheVariants.{Planned, Refused as NotPlanned}
use Rattle.plan_answer.specs.Plan.{planning}
use Rattle.plan_sheet.specs.Delivery.{sheet_outcome}
use Rattle.route_answer.specs.declared.Routing.TheVariants.{Refused as NotRouted}
use Rattle.route.specs.Route.{route_packet, route_of}
use Rattle.script_writes.specs.Writes.{Write}
use Rattle.scripter.specs.declared.Scripting.TheVariants.{Written, Refused}
use Rattle.scripter.specs.Scripting.{planned_sheet, board_writes, script_of, script_length, scripting, room_after}
use Rattle.scripter.specs.LongestLaws.{longest_script}
use Rattle.script_run.specs.Run.{script_parts, state_after, TakenInPlace}
use Rattle.demands.specs.Demand3.{IsRequest}

-- a board that the planner plans, given room for its sheet: `full_sheet` is that of any board
pub record IsPlanned (b : List ℕ) : Type 0 where
  pub bytes : Bytes b
  pub size : ℕ
  pub planned : planning b full_sheet ≡ Planned size

-- "the boot's requester ID and first tag (a byte ..)"
pub record IsBoot (requester tag : ℕ) : Type 0 where
  pub requester_fits : requester < 65536
  pub tag_fits : tag < 256

pub record WriteScript : Type 0 where
  -- "A board the planner refuses gets that number."
  pub refused_as_planned : (b : List ℕ) (room n : ℕ) → planning b full_sheet ≡ NotPlanned n → scripting b room ≡ Refused n
  -- "Short room is 11 .."; else the script's length is answered
  pub short_room_lem : (b : List ℕ) (room : ℕ) → IsPlanned b → room < script_length b → scripting b room ≡ Refused 11
  pub else_written : (b : List ℕ) (room : ℕ) → IsPlanned b → script_length b ≤ room → scripting b room ≡ Written (script_length b)
  -- ".. with no byte written", as for every refusal; else the script starts the room, and what lies past it is kept
  pub refused_keeps_room : (b room : List ℕ) (requester tag n : ℕ) → scripting b (length room) ≡ Refused n
      → room_after b requester tag room ≡ room
  pub script_starts_room : (b room : List ℕ) (requester tag n : ℕ) → scripting b (length room) ≡ Written n
      → (take n (room_after b requester tag room) ≡ script_of b requester tag) × (drop n (room_after b requester tag room) ≡ drop n room)
  -- 73,692 bytes are room for the script of any board
  pub longest : (b : List ℕ) → IsPlanned b → script_length b ≤ longest_script
  -- "write one length-first record a write": as many records as writes, and the last ends where the script does
  pub one_record_a_write : (b : List ℕ) (requester tag : ℕ)
      → ((parts_of (script_of b requester tag)).whole ≡ true) × (length (script_parts b requester tag) ≡ length (board_writes b))
  -- "Start from a model .. With the sheet checks left out, the walk takes every write to its function at its place in the list"
  pub taken_in_place : (b : List ℕ) (requester tag : ℕ) → IsPlanned b → IsBoot requester tag
      → (j : ℕ) (w : Write) (rest : List Write) → drop j (board_writes b) ≡ w ∷ rest → TakenInPlace b requester tag j w
  -- "and the end state is the sheet."
  pub ends_as_planned : (b : List ℕ) (requester tag : ℕ) → IsPlanned b → IsBoot requester tag
      → state_after b requester tag (length (board_writes b)) ≡ planned_sheet b
  -- "Stop after any write, and each memory or I/O address has either its final owner or none": a request there comes to what it comes to on
  -- the sheet, number, owner and bridges crossed, or to 40
  pub owner_or_none : (b : List ℕ) (requester tag : ℕ) → IsPlanned b → IsBoot requester tag → (j : ℕ) (sp : Space) (address : ℕ)
      → (sheet_outcome sp (state_after b requester tag j) address ≡ sheet_outcome sp (planned_sheet b) address)
      ⊎ (sheet_outcome sp (state_after b requester tag j) address ≡ refused no_owner)
  -- so that a header read as such a request gets there, "with the sheet checks left out", what the router answers over the sheet, or 40
  pub routed_or_none : (b : List ℕ) (requester tag : ℕ) → IsPlanned b → IsBoot requester tag → (j : ℕ)
      → (header : List ℕ) (p : Packet) → read_of header ≡ Accepted p → (sp : Space) (address : ℕ) → IsRequest p sp address
      → (route_packet p (state_after b requester tag j) ≡ route_of header (planned_sheet b))
      ⊎ (route_packet p (state_after b requester tag j) ≡ NotRouted 40)
