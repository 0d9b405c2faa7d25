-- A packet's kind and the fields that every packet has. Assumes nothing.
use Rattle.std.specs.Prelude.{Bool, true, false}
use Rattle.pairs.specs.declared.Kind.{Kind}
use Rattle.pairs.specs.declared.Kind.TheVariants.{Memory as MemoryKind, Io as IoKind, Config as ConfigKind, Completion as CompletionKind}
use Rattle.pairs.specs.declared.Kind.TheVariants.{Message as MessageKind, FetchAdd, Swap, Cas}
use Rattle.pairs.specs.declared.MemoryKind.TheVariants.{MRd, MRdLk, MWr}
use Rattle.packet.specs.declared.Head.{Head}
use Rattle.packet.specs.declared.Packet.{Packet}
use Rattle.packet.specs.declared.Packet.TheVariants.{Memory, Io, Config, Completion, Message}

abbrev pub kind_of : Packet → Kind
kind_of (Memory k h e a) = MemoryKind k
kind_of (Io k h e a) = IoKind k
kind_of (Config k h e t) = ConfigKind k
kind_of (Completion k h o) = CompletionKind k
kind_of (Message k h routing code tail) = MessageKind k routing

-- a request that no completion answers: a memory write or a message
abbrev pub is_posted : Kind → Bool
is_posted (MemoryKind MRd) = false
is_posted (MemoryKind MRdLk) = false
is_posted (MemoryKind MWr) = true
is_posted (IoKind k) = false
is_posted (ConfigKind k) = false
is_posted (CompletionKind k) = false
is_posted (MessageKind k routing) = true
is_posted FetchAdd = false
is_posted Swap = false
is_posted Cas = false

abbrev pub head_of : Packet → Head
head_of (Memory k h e a) = h
head_of (Io k h e a) = h
head_of (Config k h e t) = h
head_of (Completion k h o) = h
head_of (Message k h routing code tail) = h
