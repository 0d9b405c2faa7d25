-- Byte 0 of memory, I/O and configuration requests and of completions, and the kind and form that the table of pairs has for each. Assumes
-- nothing.
use Rattle.std.specs.Prelude.{ℕ, ◌+◌, ◌/◌, ◌%◌, Bool, cond, ◌||◌, eqb}
use Rattle.pairs.specs.declared.MemoryKind.{MemoryKind}
use Rattle.pairs.specs.declared.MemoryKind.TheVariants.{MRd, MRdLk, MWr}
use Rattle.pairs.specs.declared.IoKind.{IoKind}
use Rattle.pairs.specs.declared.IoKind.TheVariants.{IORd, IOWr}
use Rattle.pairs.specs.declared.ConfigKind.{ConfigKind}
use Rattle.pairs.specs.declared.ConfigKind.TheVariants.{CfgRd0, CfgWr0, CfgRd1, CfgWr1}
use Rattle.pairs.specs.declared.CompletionKind.{CompletionKind}
use Rattle.pairs.specs.declared.CompletionKind.TheVariants.{Cpl, CplD, CplLk, CplDLk}

abbrev pub is_memory : ℕ → Bool
is_memory b = eqb b 0x00 || (eqb b 0x20 || (eqb b 0x01 || (eqb b 0x21 || (eqb b 0x40 || eqb b 0x60))))

abbrev pub memory_kind : ℕ → MemoryKind
memory_kind b = cond (eqb b 0x40 || eqb b 0x60) MWr (cond (eqb b 0x01 || eqb b 0x21) MRdLk MRd)

-- bit 5, without a branch: nothing foretells it
abbrev pub memory_form : ℕ → ℕ
memory_form b = 3 + b / 32 % 2

abbrev pub is_io : ℕ → Bool
is_io b = eqb b 0x02 || eqb b 0x42

abbrev pub io_kind : ℕ → IoKind
io_kind b = cond (eqb b 0x02) IORd IOWr

abbrev pub is_config : ℕ → Bool
is_config b = eqb b 0x04 || (eqb b 0x44 || (eqb b 0x05 || eqb b 0x45))

abbrev pub config_kind : ℕ → ConfigKind
config_kind b = cond (eqb b 0x04) CfgRd0 (cond (eqb b 0x44) CfgWr0 (cond (eqb b 0x05) CfgRd1 CfgWr1))

abbrev pub is_completion : ℕ → Bool
is_completion b = eqb b 0x0A || (eqb b 0x4A || (eqb b 0x0B || eqb b 0x4B))

abbrev pub completion_kind : ℕ → CompletionKind
completion_kind b = cond (eqb b 0x0A) Cpl (cond (eqb b 0x4A) CplD (cond (eqb b 0x0B) CplLk CplDLk))
