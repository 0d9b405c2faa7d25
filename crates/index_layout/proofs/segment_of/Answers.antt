-- `index_layout::segment_of` meets its contract. Assumes nothing.
use mathlib.Core.Path.{sym}
use Rattle.index_layout.specs.KeysLaws.{segment_low, segment_high, segment_io, segment_id}
use Rattle.index_layout.proofs.segment_of.Goals as goal

pub returns-then-key-lt-LOW_END : goal.returns-then-key-lt-LOW_END
returns-then-key-lt-LOW_END c = sym (segment_low _ c.if-key-lt-LOW_END.true)

pub returns-then-key-lt-MEMORY_END : goal.returns-then-key-lt-MEMORY_END
returns-then-key-lt-MEMORY_END c = sym (segment_high _ c.if-key-lt-LOW_END.false c.if-key-lt-MEMORY_END.true)

pub returns-then-key-lt-ID_BASE : goal.returns-then-key-lt-ID_BASE
returns-then-key-lt-ID_BASE c = sym (segment_io _ c.if-key-lt-MEMORY_END.false c.if-key-lt-ID_BASE.true)

pub returns : goal.returns
returns c = sym (segment_id _ c.if-key-lt-ID_BASE.false)
