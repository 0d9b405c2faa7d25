-- Document 02, E14: "Start from a model where functions, header types and read-backs are those of the planned sheet and every other
-- register is zero. With the sheet checks left out, the walk takes every write to its function": what one record of a script does to the
-- registers, and what the records in order do. Assumes nothing.
use Rattle.std.specs.Prelude.{ℕ, suc, ◌+◌, ◌-◌, ◌*◌, Bool, cond, ◌||◌, List, [], ◌∷◌, eqb, leb, ltb, get_or, set, take, drop}
use Rattle.pairs.specs.declared.ConfigKind.TheVariants.{CfgRd0, CfgWr0, CfgRd1, CfgWr1}
use Rattle.packet.specs.declared.Packet.{Packet}
use Rattle.packet.specs.declared.Packet.TheVariants.{Memory, Io, Config, Completion, Message}
use Rattle.tlp.specs.declared.Reading.{Reading}
use Rattle.tlp.specs.declared.Reading.TheVariants.{Accepted, Refused as NotRead}
use Rattle.tlp.specs.Reading.{read_of}
use Rattle.sheet_record.specs.Places.{registers_at, register, header_type_at, readbacks_at}
use Rattle.sheet.specs.Sheet.{record_at}
use Rattle.sheet.specs.Commands.{place_in}
use Rattle.route_answer.specs.declared.Routing.{Routing}
use Rattle.route_answer.specs.declared.Routing.TheVariants.{Delivered, Broadcast, Port, Refused}
use Rattle.route.specs.Route.{route_packet}
use Rattle.script_writes.specs.Writes.{named}

-- ## The model

-- byte j of a record, which starts with its own length: the length and the ID, the header type, and the read-backs
abbrev pub is_kept : ℕ → Bool
is_kept j = ltb j (2 + registers_at) || (eqb j (2 + header_type_at) || leb (2 + readbacks_at) j)

-- the bytes from index i on
unfoldable pub blank_from : ℕ → List ℕ → List ℕ
blank_from i [] = []
blank_from i (x ∷ s) = cond (is_kept (place_in i)) x 0 ∷ blank_from (suc i) s

abbrev pub model_of : List ℕ → List ℕ
model_of s = blank_from 0 s

-- ## A configuration write at its function

-- where the register at this offset of record `number`, from 1 on, stands
abbrev pub register_place : ℕ → ℕ → ℕ
register_place number offset = record_at (number - 1) + (2 + register offset)

abbrev pub store_byte : ℕ → ℕ → List ℕ → ℕ → List ℕ → List ℕ
store_byte at enables bytes i s = cond (named enables i) (set s (at + i) (get_or bytes i 0)) s

-- the bytes that are enabled, and no other
abbrev pub store_four : ℕ → ℕ → List ℕ → List ℕ → List ℕ
store_four at enables bytes s =
    store_byte at enables bytes 3 (store_byte at enables bytes 2 (store_byte at enables bytes 1 (store_byte at enables bytes 0 s)))

-- what arrives at function `number`: a configuration write of type 0 is stored
abbrev pub stored_at : ℕ → Packet → List ℕ → List ℕ → List ℕ
stored_at number (Memory k h e a) bytes s = s
stored_at number (Io k h e a) bytes s = s
stored_at number (Config CfgRd0 h e t) bytes s = s
stored_at number (Config CfgWr0 h e t) bytes s = store_four (register_place number (4 * t.register)) e.first bytes s
stored_at number (Config CfgRd1 h e t) bytes s = s
stored_at number (Config CfgWr1 h e t) bytes s = s
stored_at number (Completion k h o) bytes s = s
stored_at number (Message k h routing code tail) bytes s = s

-- ## A script's records

-- a packet that is not delivered changes nothing
abbrev pub performed_as : Routing → List ℕ → List ℕ → List ℕ
performed_as (Delivered d) bytes s = stored_at d.owner d.packet bytes s
performed_as (Broadcast functions p) bytes s = s
performed_as (Port p) bytes s = s
performed_as (Refused n) bytes s = s

-- nor does a header that is not read
abbrev pub performed_by : Reading → List ℕ → List ℕ → List ℕ
performed_by (Accepted p) bytes s = performed_as (route_packet p s) bytes s
performed_by (NotRead n) bytes s = s

-- one record: twelve header bytes, which the router walks past the sheet's checks, and four data bytes
unfoldable pub performed : List ℕ → List ℕ → List ℕ
performed part s = performed_by (read_of (take 12 part)) (drop 12 part) s

unfoldable pub run : List (List ℕ) → List ℕ → List ℕ
run [] s = s
run (part ∷ parts) s = run parts (performed part s)
