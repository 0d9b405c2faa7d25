-- Document 01, "Examples (P: to be proved together)", and beside them examples of document 02's requests: one table under one claim.
-- Assumes nothing.
use Rattle.std.specs.Prelude.{ℕ, ◌≡◌, length, replicate}
use Prim.Native.String.{String}
use mathlib.Core.List.{List, [], ◌∷◌, ◌++◌}
use Rattle.endian.specs.Endian.{be_bytes}
use Rattle.text.specs.Text.{ascii}
use Rattle.packet.specs.Fields.{head_of}
use Rattle.tlp.specs.declared.Reading.{Reading}
use Rattle.tlp.specs.declared.Reading.TheVariants.{Accepted, Refused}
use Rattle.tlp.specs.Reading.{number_of as reading_number, read_of}
use Rattle.plan_rule.specs.Numbering.{bridges}
use Rattle.board.specs.Board.{board_number}
use Rattle.board.specs.Examples.{host, host_with, bridge, bridge_with, row, card, p10}
use Rattle.sheet.specs.Sheet.{sheet_length, full_sheet}
use Rattle.sheet.specs.Sheet.{sheet_number}
use Rattle.sheet.specs.Examples.{p10 as p10_sheet}
use Rattle.plan_answer.specs.declared.Planning.TheVariants.{Planned}
use Rattle.plan_answer.specs.Plan.{planning}
use Rattle.plan_answer.specs.Plan.{number_of as planning_number, sheet_after}
use Rattle.sheet_text.specs.BoardText.{board_text}
use Rattle.route_answer.specs.declared.Routing.{Routing}
use Rattle.route_answer.specs.declared.Routing.TheVariants.{Delivered, Broadcast, Port, Refused as NotDelivered}
use Rattle.route_answer.specs.Routing.{number_of as routing_number}
use Rattle.route.specs.Route.{route_of}

-- the Length that a reading reports; a refused header has none, and 0 is no Length of a memory request
abbrev pub length_read : Reading → ℕ
length_read (Accepted p) = (head_of p).length
length_read (Refused n) = 0

-- the record that a request is delivered to, 0 where it is to none, and the bridges crossed on the way
abbrev pub record_of : Routing → ℕ
record_of (Delivered d) = d.owner
record_of (Broadcast n p) = 0
record_of (Port p) = 0
record_of (NotDelivered n) = 0

abbrev pub crossed : Routing → ℕ
crossed (Delivered d) = d.bridges
crossed (Broadcast n p) = 0
crossed (Port p) = 0
crossed (NotDelivered n) = 0

pub data Claim : Type 0 where
  -- reading a header answers this number (0: accepted), or reports this Length
  reads : List ℕ → ℕ → Claim
  reads_length : List ℕ → ℕ → Claim
  -- the checks of a board, or of a sheet, answer this number (0: accepted)
  board_checks : List ℕ → ℕ → Claim
  sheet_checks : List ℕ → ℕ → Claim
  -- planning a board answers this number (0: accepted), or leaves this sheet in room of its length
  plans : List ℕ → ℕ → Claim
  leaves : List ℕ → List ℕ → Claim
  -- a board's plan is printed so
  prints : List ℕ → String → Claim
  -- over a sheet a header goes to a record, so many bridges on, or is refused
  goes : List ℕ → List ℕ → ℕ → ℕ → Claim
  refuses : List ℕ → List ℕ → ℕ → Claim

abbrev pub Holds : Claim → Type 0
Holds (reads s n) = reading_number (read_of s) ≡ n
Holds (reads_length s n) = length_read (read_of s) ≡ n
Holds (board_checks b n) = board_number b ≡ n
Holds (sheet_checks s n) = sheet_number s ≡ n
Holds (plans b n) = planning_number (planning b full_sheet) ≡ n
Holds (leaves b s) = (planning b (length s) ≡ Planned (length s)) × (sheet_after b (replicate (length s) 0) ≡ s)
Holds (prints b text) = board_text b full_sheet ≡ ascii text
Holds (goes header s k count) = (record_of (route_of header s) ≡ k) × (crossed (route_of header s) ≡ count)
Holds (refuses header s n) = routing_number (route_of header s) ≡ n

-- document 01's example P by its number, or one of document 02's request E
pub data Example : Type 0 where
  P : ℕ → Claim → Example
  E : ℕ → Claim → Example

abbrev pub claim_of : Example → Claim
claim_of (P n c) = c
claim_of (E n c) = c

abbrev pub All : List Example → Type 0
All [] = Unit
All (e ∷ es) = Holds (claim_of e) × All es

-- a memory request's twelve bytes: byte 0, Length code, last and first enables in byte 7, the address's low 16 bits
abbrev pub request : ℕ → ℕ → ℕ → ℕ → ℕ → List ℕ
request byte code enables high low = byte ∷ 0 ∷ 0 ∷ code ∷ 0 ∷ 0 ∷ 0 ∷ enables ∷ 0 ∷ 0 ∷ high ∷ low ∷ []

-- the same in the four-dword form, with the address's upper half
abbrev pub request64 : ℕ → ℕ → List ℕ
request64 byte upper = byte ∷ 0 ∷ 0 ∷ 1 ∷ 0 ∷ 0 ∷ 0 ∷ 0x0f ∷ 0 ∷ 0 ∷ 0 ∷ upper ∷ 0 ∷ 0 ∷ 0 ∷ 0 ∷ []

-- one dword read at F900 and these sixteen bits
abbrev pub read_at : ℕ → ℕ → List ℕ
read_at high low = 0x00 ∷ 0 ∷ 0 ∷ 1 ∷ 0 ∷ 0 ∷ 0 ∷ 0x0F ∷ 0xF9 ∷ 0x00 ∷ high ∷ low ∷ []

-- P10's board in version 2: 2 spare buses and 3 MiB at its bridge, and a second bridge with 1 bus, 1 MiB and nothing below
abbrev pub spared : List ℕ
spared =
    2 ∷ host ++ bridge_with 0 0 1 2 3
    ++ 0 ∷ 30 ∷ 0 ∷ 1 ∷ 0 ∷ 0 ∷ 0 ∷ 3
    ∷ be_bytes 4 0xFFFFF000 ++ be_bytes 4 0xFC00000C ++ be_bytes 4 0xFFFFFFFF ++ be_bytes 4 0xFFFFFF01 ++ be_bytes 8 0
    ++ bridge_with 0 8 1 1 1

-- its sheet, in room of a sheet of three functions
abbrev pub spared_sheet : List ℕ
spared_sheet = sheet_after spared (replicate (sheet_length 3) 0)

-- one dword read in the low memory at the end of the first bridge's window, and in the second's, which is all spare room
abbrev pub read_in : ℕ → List ℕ
read_in mib = 0x00 ∷ 0 ∷ 0 ∷ 1 ∷ 0 ∷ 0 ∷ 0 ∷ 0x0F ∷ 0xF9 ∷ mib ∷ 0 ∷ 0 ∷ []

-- a sheet of one function, all of its registers 0, with one read-back
abbrev pub sheet_with : ℕ → List ℕ
sheet_with readback = 1 ∷ 0 ∷ 90 ∷ 0 ∷ 0 ∷ replicate 64 0 ++ be_bytes 4 readback ++ replicate 20 0

abbrev pub MRd3 : ℕ
MRd3 = 0x00

abbrev pub MRd4 : ℕ
MRd4 = 0x20

abbrev pub MWr3 : ℕ
MWr3 = 0x40

-- ## The examples: P1 to P10, tiny BARs, and empty slots

unfoldable pub examples : List Example
examples =
    -- 11 bytes
    P 1 (reads (0 ∷ 0 ∷ 0 ∷ 1 ∷ 0 ∷ 0 ∷ 0 ∷ 0x0f ∷ 0 ∷ 0 ∷ 0 ∷ []) 1)
    -- Length code 0 at offset 0 of a 4 KiB page, and at offset 4
    ∷ P 2 (reads_length (request MRd3 0 0xff 0x10 0x00) 1024)
    ∷ P 2 (reads (request MRd3 0 0xff 0x10 0x04) 8)
    -- MWr Length 2 on an 8-byte edge, enables 0101/1010, either way round, and its twin 4 past the edge
    ∷ P 3 (reads (request MWr3 2 0x5a 0x10 0x00) 0)
    ∷ P 3 (reads (request MWr3 2 0xa5 0x10 0x00) 0)
    ∷ P 3 (reads (request MWr3 2 0x5a 0x10 0x04) 7)
    ∷ P 3 (reads (request MWr3 2 0xa5 0x10 0x04) 7)
    -- the same at Length 3
    ∷ P 4 (reads (request MWr3 3 0x5a 0x10 0x00) 7)
    ∷ P 4 (reads (request MWr3 3 0xa5 0x10 0x00) 7)
    -- 64-bit form, upper half 0, and upper half 1
    ∷ P 5 (reads (request64 MRd4 0) 6)
    ∷ P 5 (reads (request64 MRd4 1) 0)
    -- buses 0 to 255: 255 bridges, and 256
    ∷ P 6 (plans (1 ∷ host ++ row 0 255 0) 0)
    ∷ P 6 (plans (1 ∷ host ++ row 0 256 0) 30)
    -- a low pool of 1 MiB: one BAR of 1 MiB on the root bus, and two
    ∷ P 7 (plans (1 ∷ host_with 0xF9000000 0xF90FFFFF ++ card 0 0 0xFFF00000) 0)
    ∷ P 7 (plans (1 ∷ host_with 0xF9000000 0xF90FFFFF ++ card 0 0 0xFFF00000 ++ card 0 8 0xFFF00000) 31)
    -- no functions: the sheet is the byte 01
    ∷ P 8 (leaves (1 ∷ host) (1 ∷ []))
    -- the read-back F0FFF000
    ∷ P 9 (plans (1 ∷ host ++ card 0 0 0xF0FFF000) 25)
    -- the board after source document 004: its sheet, its plan printed whole, and a read of F9000FFC and of F9001000 over the sheet
    ∷ P 10 (leaves p10 p10_sheet)
    ∷ P 10 (prints p10 "plan 2\n0000 bridge 00000000 00000000 00 01 01 40 40 F900 F900 4001 43F1 00000002 00000002\n0100 end F9000000 4000000C 00000002 00004001 00000000 00000000\n")
    ∷ P 10 (goes (read_at 0x0F 0xFC) p10_sheet 2 1)
    ∷ P 10 (refuses (read_at 0x10 0x00) p10_sheet 40)
    ∷ []

unfoldable pub tiny_bars : List Example
tiny_bars =
    -- "FFFFFF80 is accepted, FFFFFFC0 refused.", "on boards and sheets alike"
    E 9 (board_checks (1 ∷ host ++ card 0 0 0xFFFFFF80) 0)
    ∷ E 9 (board_checks (1 ∷ host ++ card 0 0 0xFFFFFFC0) 25)
    ∷ E 9 (sheet_checks (sheet_with 0xFFFFFF80) 0)
    ∷ E 9 (sheet_checks (sheet_with 0xFFFFFFC0) 25)
    ∷ []

unfoldable pub spares : List Example
spares =
    -- the first bridge's spares are buses 2 and 3 and the last 3 MiB of its window; the second bridge is numbered after them, and open
    E 10 (prints spared "plan 3\n0000 bridge 00000000 00000000 00 01 03 40 40 F900 F930 4001 43F1 00000002 00000002\n0100 end F9000000 4000000C 00000002 00004001 00000000 00000000\n0008 bridge 00000000 00000000 00 04 05 F0 00 F940 F940 FFF1 0001 00000000 00000000\n")
    -- nobody is in spare room
    ∷ E 10 (goes (read_at 0x0F 0xFC) spared_sheet 2 1)
    ∷ E 10 (refuses (read_in 0x30) spared_sheet 40)
    ∷ E 10 (refuses (read_in 0x40) spared_sheet 40)
    -- buses 0 to 255: a bridge and 254 spares, and 255; a low pool of 16 MiB: 16 of spares, and 17
    ∷ E 10 (plans (2 ∷ host ++ bridge_with 0 0 1 254 0) 0)
    ∷ E 10 (plans (2 ∷ host ++ bridge_with 0 0 1 255 0) 30)
    ∷ E 10 (plans (2 ∷ host ++ bridge_with 0 0 1 0 16) 0)
    ∷ E 10 (plans (2 ∷ host ++ bridge_with 0 0 1 0 17) 31)
    -- a bridge of version 1 in version 2, and of version 2 in version 1
    ∷ E 10 (plans (2 ∷ host ++ bridge 0 0 1) 24)
    ∷ E 10 (plans (1 ∷ host ++ bridge_with 0 0 1 0 0) 24)
    ∷ []

-- all of them hold
pub record Examples : Type 0 where
  pub P1_to_P10 : All examples
  pub tiny_bars_lem : All tiny_bars
  pub empty_slots : All spares
