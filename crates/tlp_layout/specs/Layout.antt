-- Document 01, "Header layout": a packet's 12 or 16 bytes. Assumes nothing.
use Rattle.std.specs.Int.{from_bool}
use Rattle.std.specs.Prelude.{◌≡◌, refl, ℕ, ◌+◌, ◌*◌, ◌/◌, ◌%◌, Bool, true, false, cond, List, [], ◌∷◌, ◌++◌, eqb}
use Rattle.endian.specs.Endian.{be_bytes}
use Rattle.pairs.specs.declared.Row.{Row}
use Rattle.pairs.specs.declared.Pair.{Pair}
use Rattle.pairs.specs.declared.Pair.TheVariants.{Carried, NotCarried, Unknown}
use Rattle.pairs.specs.Pairs.{row_of}
use Rattle.packet.specs.declared.Head.{Head}
use Rattle.packet.specs.declared.Enables.{Enables}
use Rattle.packet.specs.declared.Target.{Target}
use Rattle.packet.specs.declared.Outcome.{Outcome}
use Rattle.packet.specs.declared.Packet.{Packet}
use Rattle.packet.specs.declared.Packet.TheVariants.{Memory, Io, Config, Completion, Message}
use Rattle.packet.specs.Fields.{kind_of, head_of}

abbrev pub bit : Bool → ℕ
bit true = 1
bit false = 0

-- a flag as a number is its bit
pub flag_bit : (b : Bool) → from_bool b ≡ bit b
flag_bit true = refl
flag_bit false = refl

-- Length counts dwords; code 0 means 1,024
abbrev pub length_code : ℕ → ℕ
length_code n = n % 1024

-- Byte 0: Fmt 7:5, Type 4:0. Byte 1: tag bit 9 in 7, TC 6:4, tag bit 8 in 3, Attr2 bit 2. Byte 2: TD 7, EP 6, Attr 5:4, AT 3:2,
-- Length 9:8 in 1:0. Byte 3: Length 7:0
unfoldable pub front_bytes : Row → Head → List ℕ
front_bytes row h =
    row.byte
    ∷ (h.tag / 512 * 128 + h.tc * 16 + h.tag / 256 % 2 * 8 + h.attr / 4 * 4)
    ∷ (bit h.td * 128 + bit h.ep * 64 + h.attr % 4 * 16 + h.at * 4 + length_code h.length / 256)
    ∷ (length_code h.length % 256)
    ∷ []

-- requests: bytes 4-5 requester ID, 6 tag 7:0, 7 last byte enables 7:4 and first 3:0
unfoldable pub request_bytes : Head → Enables → List ℕ
request_bytes h e = be_bytes 2 h.requester ++ (h.tag % 256 ∷ (e.last * 16 + e.first) ∷ [])

-- memory and I/O: address in bytes 8-11, or 8-15 in the four-dword form
unfoldable pub address_bytes : Head → ℕ → List ℕ
address_bytes h a = cond (eqb h.form 4) (be_bytes 8 a) (be_bytes 4 a)

-- configuration: bytes 8-9 target ID, byte 10 bits 3:0 extended register, byte 11 bits 7:2 register
unfoldable pub target_bytes : Target → List ℕ
target_bytes t = be_bytes 2 t.id ++ ((t.register / 64) ∷ (t.register % 64 * 4) ∷ [])

-- completions: 4-5 completer ID; byte 6 status 7:5, BCM bit 4, byte count 11:8 in 3:0; 7 count low
unfoldable pub outcome_bytes : Outcome → List ℕ
outcome_bytes o = be_bytes 2 o.completer ++ ((o.status * 32 + bit o.bcm * 16 + o.count / 256) ∷ (o.count % 256) ∷ [])

-- then 8-9 requester ID; 10 tag 7:0; 11 bits 6:0 lower address
unfoldable pub completion_bytes : Head → Outcome → List ℕ
completion_bytes h o = outcome_bytes o ++ be_bytes 2 h.requester ++ (h.tag % 256 ∷ o.lower ∷ [])

-- messages: bytes 4-5 requester ID, 6 tag 7:0, 7 message code
unfoldable pub message_bytes : Head → ℕ → List ℕ
message_bytes h code = be_bytes 2 h.requester ++ (h.tag % 256 ∷ code ∷ [])

abbrev pub body_bytes : Packet → List ℕ
body_bytes (Memory k h e a) = request_bytes h e ++ address_bytes h a
body_bytes (Io k h e a) = request_bytes h e ++ address_bytes h a
body_bytes (Config k h e t) = request_bytes h e ++ target_bytes t
body_bytes (Completion k h o) = completion_bytes h o
body_bytes (Message k h routing code tail) = message_bytes h code ++ be_bytes 8 tail

-- a packet whose kind and form are not carried has no layout
abbrev pub layout_as : Pair → Packet → List ℕ
layout_as (Carried row) p = front_bytes row (head_of p) ++ body_bytes p
layout_as NotCarried p = []
layout_as Unknown p = []

unfoldable pub layout : Packet → List ℕ
layout p = layout_as (row_of (kind_of p) (head_of p).form) p

-- the bytes that a packet takes: 12 or 16
abbrev pub size : Packet → ℕ
size p = 4 * (head_of p).form
