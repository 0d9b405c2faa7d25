-- Document 01, "The walk", of the packet alone: what it is looked for by, whether its configuration type is wrong (42), and how it arrives;
-- messages by document 02, E1. Assumes nothing.
use Rattle.std.specs.Prelude.{ℕ, ◌/◌, ◌^◌, Bool, false, not, eqb}
use Rattle.pairs.specs.declared.ConfigKind.{ConfigKind}
use Rattle.pairs.specs.declared.ConfigKind.TheVariants.{CfgRd0, CfgWr0, CfgRd1, CfgWr1}
use Rattle.pairs.specs.declared.MessageRouting.{MessageRouting}
use Rattle.pairs.specs.declared.MessageRouting.TheVariants.{ToRoot, ByAddress, ById, Broadcast, Local, Gathered}
use Rattle.packet.specs.declared.Packet.{Packet}
use Rattle.packet.specs.declared.Packet.TheVariants.{Memory, Io, Config, Completion, Message}
use Rattle.pools.specs.declared.Space.TheVariants.{Memory as InMemory, Io as InPorts}
use Rattle.claims.specs.declared.Aim.TheVariants.{Address, Id}
use Rattle.route_arrival.specs.declared.Heading.{Heading}
use Rattle.route_arrival.specs.declared.Heading.TheVariants.{Aimed, Up, Every, Port}

-- the ID in bytes 8-9, of bytes 8 to 15 as one number
abbrev pub id_in : ℕ → ℕ
id_in tail = tail / 2 ^ 48

-- Document 02, E1, by a message's routing, with its bytes 8 to 15: 001 goes by address as a memory request does, 010 by the ID in bytes
-- 8-9, 011 to every function; 100 ends at the port; 000 and 101 only travel up
abbrev pub message_heading : MessageRouting → ℕ → Heading
message_heading ToRoot tail = Up
message_heading ByAddress tail = Aimed (Address InMemory tail)
message_heading ById tail = Aimed (Id (id_in tail))
message_heading Broadcast tail = Every
message_heading Local tail = Port
message_heading Gathered tail = Up

-- memory and I/O go by their start address, configuration and completions by ID, a completion's being its requester
abbrev pub heading_of : Packet → Heading
heading_of (Memory k h e a) = Aimed (Address InMemory a)
heading_of (Io k h e a) = Aimed (Address InPorts a)
heading_of (Config k h e t) = Aimed (Id t.id)
heading_of (Completion k h o) = Aimed (Id h.requester)
heading_of (Message k h routing code tail) = message_heading routing tail

-- configuration type 0 for another bus than the root bus, or type 1 for the root bus
abbrev pub kind_wrong : ConfigKind → Bool → Bool
kind_wrong CfgRd0 on_root = not on_root
kind_wrong CfgWr0 on_root = not on_root
kind_wrong CfgRd1 on_root = on_root
kind_wrong CfgWr1 on_root = on_root

abbrev pub type_wrong : ℕ → Packet → Bool
type_wrong root (Memory k h e a) = false
type_wrong root (Io k h e a) = false
type_wrong root (Config k h e t) = kind_wrong k (eqb (t.id / 256) root)
type_wrong root (Completion k h o) = false
type_wrong root (Message k h routing code tail) = false

-- configuration type 1 becomes type 0 on the last bus
abbrev pub last_kind : ConfigKind → ConfigKind
last_kind CfgRd0 = CfgRd0
last_kind CfgWr0 = CfgWr0
last_kind CfgRd1 = CfgRd0
last_kind CfgWr1 = CfgWr0

-- as it arrives: nothing else changes
abbrev pub arrived : Packet → Packet
arrived (Memory k h e a) = Memory k h e a
arrived (Io k h e a) = Io k h e a
arrived (Config k h e t) = Config (last_kind k) h e t
arrived (Completion k h o) = Completion k h o
arrived (Message k h routing code tail) = Message k h routing code tail
