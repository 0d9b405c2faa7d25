-- What the calls on a header answer, from document 01's definitions, and what the room of a write then holds. Assumes nothing.
use Rattle.std.specs.Prelude.{ℕ, List, [], ◌∷◌}
use Rattle.packet_parsing.specs.declared.Parsed.{Parsed}
use Rattle.packet_parsing.specs.declared.Parsed.TheVariants.{Accepted as Taken, Refused as NotTaken}
use Rattle.packet_numbers.specs.Numbers.{numbers_of}
use Rattle.packet_parsing.specs.Parsing.{packet_of}
use Rattle.tlp.specs.declared.Reading.{Reading}
use Rattle.tlp.specs.declared.Reading.TheVariants.{Accepted, Refused as NotRead}
use Rattle.tlp.specs.declared.Writing.{Writing}
use Rattle.tlp.specs.declared.Writing.TheVariants.{Written, Refused as NotWritten}
use Rattle.tlp.specs.Reading.{read_of}
use Rattle.tlp.specs.Writing.{write_of, room_after}
use Rattle.capi_answers.specs.Answers.{Answer, refuses, gives, left_beside}

-- ## Reading: the packet's twenty numbers

abbrev pub on_reading : Reading → Answer
on_reading (Accepted p) = gives (numbers_of p)
on_reading (NotRead n) = refuses n

abbrev pub read_answer : List ℕ → Answer
read_answer header = on_reading (read_of header)

-- ## Writing: how many bytes

abbrev pub on_writing : Writing → Answer
on_writing (Written n) = gives (n ∷ [])
on_writing (NotWritten n) = refuses n

abbrev pub on_parsed : Parsed → ℕ → Answer
on_parsed (Taken p) room = on_writing (write_of p room)
on_parsed (NotTaken n) room = refuses n

abbrev pub write_answer : List ℕ → ℕ → Answer
write_answer packet room = on_parsed (packet_of packet) room

abbrev pub room_of : Parsed → List ℕ → List ℕ
room_of (Taken p) room = room_after p room
room_of (NotTaken n) room = room

-- with no room for the answer nothing is written
abbrev pub room_left : List ℕ → List ℕ → List ℕ → List ℕ
room_left packet room written = left_beside written room (room_of (packet_of packet) room)
