-- Document 01, "Header layout": the table of Fmt and Type pairs, and what it says of a byte 0 and of a kind and form.
-- Assumes nothing.
use Rattle.std.specs.Prelude.{List, [], ◌∷◌, Bool, true, false, cond, ◌&&◌, ℕ, ◌+◌, ◌*◌, ◌/◌, eqb, Option, Some, None}
use Rattle.pairs.specs.declared.Row.{Row}
use Rattle.pairs.specs.declared.Kind.{Kind}
use Rattle.pairs.specs.declared.Kind.TheVariants.{Memory, Io, Config, Completion, Message, FetchAdd, Swap, Cas}
use Rattle.pairs.specs.declared.MemoryKind.TheVariants.{MRd, MRdLk, MWr}
use Rattle.pairs.specs.declared.IoKind.TheVariants.{IORd, IOWr}
use Rattle.pairs.specs.declared.ConfigKind.TheVariants.{CfgRd0, CfgWr0, CfgRd1, CfgWr1}
use Rattle.pairs.specs.declared.CompletionKind.TheVariants.{Cpl, CplD, CplLk, CplDLk}
use Rattle.pairs.specs.declared.MessageKind.TheVariants.{Msg, MsgD}
use Rattle.pairs.specs.declared.MessageRouting.{MessageRouting}
use Rattle.pairs.specs.declared.MessageRouting.TheVariants.{ToRoot, ByAddress, ById, Broadcast, Local, Gathered}
use Rattle.pairs.specs.declared.Name.{Name}
use Rattle.pairs.specs.declared.Name.TheVariants as name
use Rattle.pairs.specs.declared.Pair.{Pair}
use Rattle.pairs.specs.declared.Pair.TheVariants.{Carried, NotCarried, Unknown}

-- a row of the table: Fmt, Type, the kind's name, and the header's length in dwords. Byte 0 has Fmt in bits 7:5 and Type in 4:0.
abbrev pub carries : ℕ → ℕ → Name → ℕ → Row
carries fmt typ name form = record { byte = fmt * 32 + typ; name = name; form = form; carried = true }

abbrev pub knows : ℕ → ℕ → Name → ℕ → Row
knows fmt typ name form = record { byte = fmt * 32 + typ; name = name; form = form; carried = false }

-- first the carried pairs, messages (Type 10rrr, rrr from 000 to 101) last, then the AtomicOps, which are known but not carried
unfoldable pub table : List Row
table =
    carries 0b000 0b00000 name.MRd 3
    ∷ carries 0b001 0b00000 name.MRd 4
    ∷ carries 0b000 0b00001 name.MRdLk 3
    ∷ carries 0b001 0b00001 name.MRdLk 4
    ∷ carries 0b010 0b00000 name.MWr 3
    ∷ carries 0b011 0b00000 name.MWr 4
    ∷ carries 0b000 0b00010 name.IORd 3
    ∷ carries 0b010 0b00010 name.IOWr 3
    ∷ carries 0b000 0b00100 name.CfgRd0 3
    ∷ carries 0b010 0b00100 name.CfgWr0 3
    ∷ carries 0b000 0b00101 name.CfgRd1 3
    ∷ carries 0b010 0b00101 name.CfgWr1 3
    ∷ carries 0b000 0b01010 name.Cpl 3
    ∷ carries 0b010 0b01010 name.CplD 3
    ∷ carries 0b000 0b01011 name.CplLk 3
    ∷ carries 0b010 0b01011 name.CplDLk 3
    ∷ carries 0b001 0b10000 name.MsgToRoot 4
    ∷ carries 0b001 0b10001 name.MsgByAddress 4
    ∷ carries 0b001 0b10010 name.MsgById 4
    ∷ carries 0b001 0b10011 name.MsgBroadcast 4
    ∷ carries 0b001 0b10100 name.MsgLocal 4
    ∷ carries 0b001 0b10101 name.MsgGathered 4
    ∷ carries 0b011 0b10000 name.MsgDToRoot 4
    ∷ carries 0b011 0b10001 name.MsgDByAddress 4
    ∷ carries 0b011 0b10010 name.MsgDById 4
    ∷ carries 0b011 0b10011 name.MsgDBroadcast 4
    ∷ carries 0b011 0b10100 name.MsgDLocal 4
    ∷ carries 0b011 0b10101 name.MsgDGathered 4
    ∷ knows 0b010 0b01100 name.FetchAdd 3
    ∷ knows 0b011 0b01100 name.FetchAdd 4
    ∷ knows 0b010 0b01101 name.Swap 3
    ∷ knows 0b011 0b01101 name.Swap 4
    ∷ knows 0b010 0b01110 name.Cas 3
    ∷ knows 0b011 0b01110 name.Cas 4
    ∷ []

-- what stands past the table's end
abbrev pub no_row : Row
no_row = knows 0 0 name.MRd 0

-- the kind that a name stands for
abbrev pub kind_named : Name → Kind
kind_named name.MRd = Memory MRd
kind_named name.MRdLk = Memory MRdLk
kind_named name.MWr = Memory MWr
kind_named name.IORd = Io IORd
kind_named name.IOWr = Io IOWr
kind_named name.CfgRd0 = Config CfgRd0
kind_named name.CfgWr0 = Config CfgWr0
kind_named name.CfgRd1 = Config CfgRd1
kind_named name.CfgWr1 = Config CfgWr1
kind_named name.Cpl = Completion Cpl
kind_named name.CplD = Completion CplD
kind_named name.CplLk = Completion CplLk
kind_named name.CplDLk = Completion CplDLk
kind_named name.MsgToRoot = Message Msg ToRoot
kind_named name.MsgByAddress = Message Msg ByAddress
kind_named name.MsgById = Message Msg ById
kind_named name.MsgBroadcast = Message Msg Broadcast
kind_named name.MsgLocal = Message Msg Local
kind_named name.MsgGathered = Message Msg Gathered
kind_named name.MsgDToRoot = Message MsgD ToRoot
kind_named name.MsgDByAddress = Message MsgD ByAddress
kind_named name.MsgDById = Message MsgD ById
kind_named name.MsgDBroadcast = Message MsgD Broadcast
kind_named name.MsgDLocal = Message MsgD Local
kind_named name.MsgDGathered = Message MsgD Gathered
kind_named name.FetchAdd = FetchAdd
kind_named name.Swap = Swap
kind_named name.Cas = Cas

-- rrr, the last three bits of a message's Type: 000 to the root complex, 001 by address, 010 by ID, 011 broadcast from the root complex,
-- 100 local, 101 gathered to the root complex
abbrev pub routing_number : MessageRouting → ℕ
routing_number ToRoot = 0
routing_number ByAddress = 1
routing_number ById = 2
routing_number Broadcast = 3
routing_number Local = 4
routing_number Gathered = 5

-- kinds are told apart by number
abbrev pub kind_number : Kind → ℕ
kind_number (Memory MRd) = 0
kind_number (Memory MRdLk) = 1
kind_number (Memory MWr) = 2
kind_number (Io IORd) = 3
kind_number (Io IOWr) = 4
kind_number (Config CfgRd0) = 5
kind_number (Config CfgWr0) = 6
kind_number (Config CfgRd1) = 7
kind_number (Config CfgWr1) = 8
kind_number (Completion Cpl) = 9
kind_number (Completion CplD) = 10
kind_number (Completion CplLk) = 11
kind_number (Completion CplDLk) = 12
kind_number (Message Msg routing) = 13 + routing_number routing
kind_number (Message MsgD routing) = 19 + routing_number routing
kind_number FetchAdd = 25
kind_number Swap = 26
kind_number Cas = 27

-- a kind's number and a form as one number
abbrev pub key_of : ℕ → ℕ → ℕ
key_of number form = 256 * form + number

abbrev pub is_pair : ℕ → Row → Bool
is_pair byte row = eqb row.byte byte

abbrev pub is_kind : Kind → ℕ → Row → Bool
is_kind kind form row = eqb (kind_number (kind_named row.name)) (kind_number kind) && eqb row.form form

-- the first row that passes a test
unfoldable pub first : (Row → Bool) → List Row → Option Row
first p [] = None
first p (row ∷ rows) = cond (p row) (Some row) (first p rows)

unfoldable pub find_pair : ℕ → Option Row
find_pair byte = first (is_pair byte) table

unfoldable pub find_kind : Kind → ℕ → Option Row
find_kind kind form = first (is_kind kind form) table

-- the same search as the code makes it, with one comparison for each row: `find_key_lem` of KindLaws says that it is the same
abbrev pub is_key : ℕ → Row → Bool
is_key wanted row = eqb (key_of (kind_number (kind_named row.name)) row.form) wanted

unfoldable pub find_key : ℕ → Option Row
find_key wanted = first (is_key wanted) table

abbrev pub answer_of : Option Row → Pair
answer_of (Some row) = cond row.carried (Carried row) NotCarried
answer_of None = Unknown

-- what byte 0 says. Fmt 100, a TLP prefix, is known but not carried whatever the Type.
unfoldable pub pair_of : ℕ → Pair
pair_of byte = cond (eqb (byte / 32) 0b100) NotCarried (answer_of (find_pair byte))

-- what a kind and form are written with
unfoldable pub row_of : Kind → ℕ → Pair
row_of kind form = answer_of (find_kind kind form)
