-- A packet as twenty numbers: kind, form, TC, Attr, TD, EP, AT, Length, requester, tag, last enables, first enables, address, target,
-- register, completer, status, BCM, byte count, lower address. A message has its routing, its code and its bytes 8 to 15 where a request
-- has its enables and its address. A field that the kind does not have is 0. Assumes nothing.
use Rattle.std.specs.Int.{from_bool}
use Rattle.std.specs.Prelude.{◌≡◌, refl, ℕ, Bool, true, false, List, [], ◌∷◌, ◌++◌}
use Rattle.pairs.specs.declared.Kind.TheVariants.{Memory as MemoryKind, Io as IoKind, Config as ConfigKind, Completion as CompletionKind}
use Rattle.pairs.specs.declared.MessageKind.{MessageKind}
use Rattle.pairs.specs.declared.MessageKind.TheVariants.{Msg, MsgD}
use Rattle.pairs.specs.declared.MessageRouting.{MessageRouting}
use Rattle.pairs.specs.Pairs.{routing_number, kind_number}
use Rattle.packet.specs.declared.Head.{Head}
use Rattle.packet.specs.declared.Enables.{Enables}
use Rattle.packet.specs.declared.Outcome.{Outcome}
use Rattle.packet.specs.declared.Packet.{Packet}
use Rattle.packet.specs.declared.Packet.TheVariants.{Memory, Io, Config, Completion, Message}
use Rattle.packet.specs.Fields.{head_of}

-- how many numbers a packet has
abbrev pub size : ℕ
size = 20

abbrev pub bit : Bool → ℕ
bit true = 1
bit false = 0

-- a flag as a number is its bit
pub flag_bit : (b : Bool) → from_bool b ≡ bit b
flag_bit true = refl
flag_bit false = refl

abbrev pub message_code : MessageKind → ℕ
message_code Msg = 13
message_code MsgD = 14

-- place 0: the kind's number in the table of pairs, and a message's whatever its routing
abbrev pub kind_code : Packet → ℕ
kind_code (Memory k h e a) = kind_number (MemoryKind k)
kind_code (Io k h e a) = kind_number (IoKind k)
kind_code (Config k h e t) = kind_number (ConfigKind k)
kind_code (Completion k h o) = kind_number (CompletionKind k)
kind_code (Message k h routing code tail) = message_code k

-- places 0 to 9
abbrev pub head_numbers : ℕ → Head → List ℕ
head_numbers kind h =
    kind ∷ h.form ∷ h.tc ∷ h.attr ∷ bit h.td
    ∷ bit h.ep ∷ h.at ∷ h.length ∷ h.requester ∷ h.tag
    ∷ []

-- places 10 to 14
abbrev pub request_numbers : Enables → ℕ → ℕ → ℕ → List ℕ
request_numbers e address target register = e.last ∷ e.first ∷ address ∷ target ∷ register ∷ []

-- the same places of a message
abbrev pub message_numbers : MessageRouting → ℕ → ℕ → List ℕ
message_numbers routing code tail = routing_number routing ∷ code ∷ tail ∷ 0 ∷ 0 ∷ []

-- places 15 to 19
abbrev pub outcome_numbers : Outcome → List ℕ
outcome_numbers o = o.completer ∷ o.status ∷ bit o.bcm ∷ o.count ∷ o.lower ∷ []

-- five fields that the kind does not have
abbrev pub absent : List ℕ
absent = 0 ∷ 0 ∷ 0 ∷ 0 ∷ 0 ∷ []

-- places 10 to 19
abbrev pub body_numbers : Packet → List ℕ
body_numbers (Memory k h e a) = request_numbers e a 0 0 ++ absent
body_numbers (Io k h e a) = request_numbers e a 0 0 ++ absent
body_numbers (Config k h e t) = request_numbers e 0 t.id t.register ++ absent
body_numbers (Completion k h o) = absent ++ outcome_numbers o
body_numbers (Message k h routing code tail) = message_numbers routing code tail ++ absent

unfoldable pub numbers_of : Packet → List ℕ
numbers_of p = head_numbers (kind_code p) (head_of p) ++ body_numbers p
