-- A packet's text: its kind, its form in dwords, and its fields by name, in the order of document 01's header layout: what every
-- packet has, then what its kind has. Assumes nothing.
use Rattle.std.specs.Prelude.{◌≡◌, refl, ℕ, Bool, true, false, cond, List, ◌++◌}
use Rattle.std.specs.Int.{from_bool}
use Prim.Native.String.{String}
use Rattle.text.specs.Text.{ascii, decimal, hexadecimal}
use Rattle.pairs.specs.declared.Kind.{Kind}
use Rattle.pairs.specs.declared.Kind.TheVariants.{Memory as MemoryKind, Io as IoKind, Config as ConfigKind, Completion as CompletionKind}
use Rattle.pairs.specs.declared.Kind.TheVariants.{Message as MessageKind, FetchAdd, Swap, Cas}
use Rattle.pairs.specs.declared.MemoryKind.TheVariants.{MRd, MRdLk, MWr}
use Rattle.pairs.specs.declared.IoKind.TheVariants.{IORd, IOWr}
use Rattle.pairs.specs.declared.ConfigKind.TheVariants.{CfgRd0, CfgWr0, CfgRd1, CfgWr1}
use Rattle.pairs.specs.declared.CompletionKind.TheVariants.{Cpl, CplD, CplLk, CplDLk}
use Rattle.pairs.specs.declared.MessageKind.TheVariants.{Msg, MsgD}
use Rattle.pairs.specs.declared.MessageRouting.{MessageRouting}
use Rattle.pairs.specs.Pairs.{routing_number}
use Rattle.packet.specs.declared.Head.{Head}
use Rattle.packet.specs.declared.Enables.{Enables}
use Rattle.packet.specs.declared.Target.{Target}
use Rattle.packet.specs.declared.Outcome.{Outcome}
use Rattle.packet.specs.declared.Packet.{Packet}
use Rattle.packet.specs.declared.Packet.TheVariants.{Memory, Io, Config, Completion, Message}
use Rattle.packet.specs.Fields.{kind_of, head_of}

-- a name, and a number in decimal
abbrev pub named : String → ℕ → List ℕ
named name n = ascii name ++ decimal n

-- a name, and the last `width` hexadecimal digits of a number
abbrev pub named_hexadecimal : String → ℕ → ℕ → List ℕ
named_hexadecimal name width n = ascii name ++ hexadecimal width n

abbrev pub bit_of : Bool → ℕ
bit_of b = cond b 1 0

-- a flag as a number is its bit
pub flag_bit : (b : Bool) → from_bool b ≡ bit_of b
flag_bit true = refl
flag_bit false = refl

-- ## Kinds

abbrev pub kind_text : Kind → List ℕ
kind_text (MemoryKind MRd) = ascii "MRd"
kind_text (MemoryKind MRdLk) = ascii "MRdLk"
kind_text (MemoryKind MWr) = ascii "MWr"
kind_text (IoKind IORd) = ascii "IORd"
kind_text (IoKind IOWr) = ascii "IOWr"
kind_text (ConfigKind CfgRd0) = ascii "CfgRd0"
kind_text (ConfigKind CfgWr0) = ascii "CfgWr0"
kind_text (ConfigKind CfgRd1) = ascii "CfgRd1"
kind_text (ConfigKind CfgWr1) = ascii "CfgWr1"
kind_text (CompletionKind Cpl) = ascii "Cpl"
kind_text (CompletionKind CplD) = ascii "CplD"
kind_text (CompletionKind CplLk) = ascii "CplLk"
kind_text (CompletionKind CplDLk) = ascii "CplDLk"
kind_text (MessageKind Msg routing) = ascii "Msg"
kind_text (MessageKind MsgD routing) = ascii "MsgD"
kind_text FetchAdd = ascii "FetchAdd"
kind_text Swap = ascii "Swap"
kind_text Cas = ascii "CAS"

-- ## Fields

unfoldable pub marks_text : Head → List ℕ
marks_text h = named " td " (bit_of h.td) ++ (named " ep " (bit_of h.ep) ++ named " at " h.at)

unfoldable pub transaction_text : Head → List ℕ
transaction_text h = named " length " h.length ++ (named_hexadecimal " requester " 4 h.requester ++ named_hexadecimal " tag " 3 h.tag)

unfoldable pub head_text : Head → List ℕ
head_text h = named " " h.form ++ (named "dw tc " h.tc ++ (named " attr " h.attr ++ (marks_text h ++ transaction_text h)))

unfoldable pub enables_text : Enables → List ℕ
enables_text e = named_hexadecimal " last " 1 e.last ++ named_hexadecimal " first " 1 e.first

unfoldable pub address_text : ℕ → List ℕ
address_text a = named_hexadecimal " address " 16 a

unfoldable pub target_text : Target → List ℕ
target_text t = named_hexadecimal " target " 4 t.id ++ named_hexadecimal " register " 3 t.register

unfoldable pub count_text : Outcome → List ℕ
count_text o = named " bcm " (bit_of o.bcm) ++ (named " count " o.count ++ named_hexadecimal " lower " 2 o.lower)

unfoldable pub outcome_text : Outcome → List ℕ
outcome_text o = named_hexadecimal " completer " 4 o.completer ++ (named " status " o.status ++ count_text o)

-- a message's routing, its code, and its bytes 8 to 15
unfoldable pub content_text : MessageRouting → ℕ → ℕ → List ℕ
content_text routing code tail =
    named " routing " (routing_number routing) ++ (named_hexadecimal " code " 2 code ++ named_hexadecimal " tail " 16 tail)

-- ## The packet

-- what its kind has
unfoldable pub body_text : Packet → List ℕ
body_text (Memory k h e a) = enables_text e ++ address_text a
body_text (Io k h e a) = enables_text e ++ address_text a
body_text (Config k h e t) = enables_text e ++ target_text t
body_text (Completion k h o) = outcome_text o
body_text (Message k h routing code tail) = content_text routing code tail

unfoldable pub packet_text : Packet → List ℕ
packet_text p = kind_text (kind_of p) ++ (head_text (head_of p) ++ body_text p)
