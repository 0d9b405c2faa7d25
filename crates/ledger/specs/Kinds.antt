-- What E12 calls a completion, a read, a configuration request and a locked one, by the kind of a header. A non-posted request that is no
-- read is a write. Assumes nothing.
use Rattle.std.specs.Prelude.{Bool, true, false}
use Rattle.pairs.specs.declared.Kind.{Kind}
use Rattle.pairs.specs.declared.Kind.TheVariants.{Memory, Io, Config, Completion, Message, FetchAdd, Swap, Cas}
use Rattle.pairs.specs.declared.MemoryKind.TheVariants.{MRd, MRdLk, MWr}
use Rattle.pairs.specs.declared.IoKind.TheVariants.{IORd, IOWr}
use Rattle.pairs.specs.declared.ConfigKind.TheVariants.{CfgRd0, CfgWr0, CfgRd1, CfgWr1}

abbrev pub kind_completes : Kind → Bool
kind_completes (Memory k) = false
kind_completes (Io k) = false
kind_completes (Config k) = false
kind_completes (Completion k) = true
kind_completes (Message k routing) = false
kind_completes FetchAdd = false
kind_completes Swap = false
kind_completes Cas = false

abbrev pub kind_reads : Kind → Bool
kind_reads (Memory MRd) = true
kind_reads (Memory MRdLk) = true
kind_reads (Memory MWr) = false
kind_reads (Io IORd) = true
kind_reads (Io IOWr) = false
kind_reads (Config CfgRd0) = true
kind_reads (Config CfgWr0) = false
kind_reads (Config CfgRd1) = true
kind_reads (Config CfgWr1) = false
kind_reads (Completion k) = false
kind_reads (Message k routing) = false
kind_reads FetchAdd = false
kind_reads Swap = false
kind_reads Cas = false

abbrev pub kind_configures : Kind → Bool
kind_configures (Memory k) = false
kind_configures (Io k) = false
kind_configures (Config k) = true
kind_configures (Completion k) = false
kind_configures (Message k routing) = false
kind_configures FetchAdd = false
kind_configures Swap = false
kind_configures Cas = false

abbrev pub kind_locks : Kind → Bool
kind_locks (Memory MRd) = false
kind_locks (Memory MRdLk) = true
kind_locks (Memory MWr) = false
kind_locks (Io k) = false
kind_locks (Config k) = false
kind_locks (Completion k) = false
kind_locks (Message k routing) = false
kind_locks FetchAdd = false
kind_locks Swap = false
kind_locks Cas = false
