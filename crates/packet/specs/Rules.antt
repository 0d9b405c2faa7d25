-- Rules 4 to 9 of document 01 as far as they speak of fields, in its order. Reader and writer share them. Assumes nothing.
use Rattle.std.specs.Prelude.{ℕ, ◌+◌, ◌*◌, ◌%◌, ◌^◌, Bool, true, false, cond, not, ◌&&◌, ◌||◌, ltb, eqb}
use Rattle.pairs.specs.declared.CompletionKind.TheVariants.{Cpl, CplD, CplLk, CplDLk}
use Rattle.pairs.specs.declared.MessageKind.TheVariants.{Msg, MsgD}
use Rattle.pairs.specs.declared.MessageRouting.{MessageRouting}
use Rattle.pairs.specs.declared.MessageRouting.TheVariants.{ToRoot, ByAddress, ById, Broadcast, Local, Gathered}
use Rattle.packet.specs.declared.Head.{Head}
use Rattle.packet.specs.declared.Enables.{Enables}
use Rattle.packet.specs.declared.Packet.{Packet}
use Rattle.packet.specs.declared.Packet.TheVariants.{Memory, Io, Config, Completion, Message}

-- routing 001: bytes 8 to 15 are an address
abbrev pub is_by_address : MessageRouting → Bool
is_by_address ToRoot = false
is_by_address ByAddress = true
is_by_address ById = false
is_by_address Broadcast = false
is_by_address Local = false
is_by_address Gathered = false

-- 4: an address's low two bits set, memory AT 11, or completion or message AT not 00
unfoldable pub reserved_set : Packet → Bool
reserved_set (Memory k h e a) = not (eqb (a % 4) 0) || eqb h.at 3
reserved_set (Io k h e a) = not (eqb (a % 4) 0)
reserved_set (Config k h e t) = false
reserved_set (Completion k h o) = not (eqb h.at 0)
reserved_set (Message k h routing code tail) = not (eqb h.at 0) || is_by_address routing && not (eqb (tail % 4) 0)

-- TC, all Attr, AT zero, Length 1, last enables 0
abbrev pub one_dword : Head → Enables → Bool
one_dword h e = eqb h.tc 0 && eqb h.attr 0 && eqb h.at 0 && eqb h.length 1 && eqb e.last 0

-- 5: an I/O or configuration request that is not so, or a Cpl, CplLk or Msg with a Length
unfoldable pub fixed_wrong : Packet → Bool
fixed_wrong (Memory k h e a) = false
fixed_wrong (Io k h e a) = not (one_dword h e)
fixed_wrong (Config k h e t) = not (one_dword h e)
fixed_wrong (Completion Cpl h o) = not (eqb h.length 0)
fixed_wrong (Completion CplD h o) = false
fixed_wrong (Completion CplLk h o) = not (eqb h.length 0)
fixed_wrong (Completion CplDLk h o) = false
fixed_wrong (Message Msg h routing code tail) = not (eqb h.length 0)
fixed_wrong (Message MsgD h routing code tail) = false

-- 6: 64-bit form with upper half zero
unfoldable pub upper_zero : Packet → Bool
upper_zero (Memory k h e a) = eqb h.form 4 && ltb a (2 ^ 32)
upper_zero (Io k h e a) = false
upper_zero (Config k h e t) = false
upper_zero (Completion k h o) = false
upper_zero (Message k h routing code tail) = false

-- first enables 1111, 1110, 1100 or 1000
abbrev pub is_first : ℕ → Bool
is_first x = eqb x 15 || eqb x 14 || eqb x 12 || eqb x 8

-- last enables 1111, 0111, 0011 or 0001
abbrev pub is_last : ℕ → Bool
is_last x = eqb x 15 || eqb x 7 || eqb x 3 || eqb x 1

-- Length 1: last is 0000 and first is free. Length 2 from an 8-byte edge on: both nonzero, any pattern. Length 2 off that edge, and
-- Length 3 and up: by the patterns
abbrev pub enables_lawful : ℕ → ℕ → Enables → Bool
enables_lawful n a e =
    cond (eqb n 1) (eqb e.last 0)
    (cond (eqb n 2 && eqb (a % 8) 0) (not (eqb e.last 0) && not (eqb e.first 0)) (is_first e.first && is_last e.last))

-- 7: memory byte enables
unfoldable pub enables_wrong : Packet → Bool
enables_wrong (Memory k h e a) = not (enables_lawful h.length a e)
enables_wrong (Io k h e a) = false
enables_wrong (Config k h e t) = false
enables_wrong (Completion k h o) = false
enables_wrong (Message k h routing code tail) = false

-- 8: a memory request crossing a 4,096-byte boundary; whole dwords from the address
unfoldable pub crosses_page : Packet → Bool
crosses_page (Memory k h e a) = ltb 4096 (a % 4096 + 4 * h.length)
crosses_page (Io k h e a) = false
crosses_page (Config k h e t) = false
crosses_page (Completion k h o) = false
crosses_page (Message k h routing code tail) = false

-- status 000, 001, 010 or 100
abbrev pub is_status : ℕ → Bool
is_status x = eqb x 0 || eqb x 1 || eqb x 2 || eqb x 4

-- 9: a status that is none of these
unfoldable pub status_wrong : Packet → Bool
status_wrong (Memory k h e a) = false
status_wrong (Io k h e a) = false
status_wrong (Config k h e t) = false
status_wrong (Completion k h o) = not (is_status o.status)
status_wrong (Message k h routing code tail) = false

-- the number of the first rule broken, or 0
unfoldable pub from_rule9 : Packet → ℕ
from_rule9 p = cond (status_wrong p) 9 0

unfoldable pub from_rule8 : Packet → ℕ
from_rule8 p = cond (crosses_page p) 8 (from_rule9 p)

unfoldable pub from_rule7 : Packet → ℕ
from_rule7 p = cond (enables_wrong p) 7 (from_rule8 p)

unfoldable pub from_rule6 : Packet → ℕ
from_rule6 p = cond (upper_zero p) 6 (from_rule7 p)

unfoldable pub from_rule5 : Packet → ℕ
from_rule5 p = cond (fixed_wrong p) 5 (from_rule6 p)

unfoldable pub rule_number : Packet → ℕ
rule_number p = cond (reserved_set p) 4 (from_rule5 p)
