-- `index_label::label_by_index` meets its contract: by the path of the kind that byte 0 says. Assumes nothing.
use native.Mathlib.Omega.{arith}
use mathlib.Core.Path.{sym, ◌∙◌}
use Rattle.index_label.proofs.label_by_index.Goals as goal

pub returns-then-header-lt12 : goal.returns-then-header-lt12
returns-then-header-lt12 c = λ told. absurd (told c.untold.ensures)

pub label_memory-requires : goal.label_memory-requires
label_memory-requires c = (omega (arith, c.if-header-lt12.false), sym c.is_memory.ensures ∙ c.if-is_memory.true)

pub label_io-requires : goal.label_io-requires
label_io-requires c = (omega (arith, c.if-header-lt12.false), sym c.is_io.ensures ∙ c.if-is_io.true)

pub label_config-requires : goal.label_config-requires
label_config-requires c = (omega (arith, c.if-header-lt12.false), sym c.is_config.ensures ∙ c.if-is_config.true)

pub label_completion-requires : goal.label_completion-requires
label_completion-requires c = (omega (arith, c.if-header-lt12.false), sym c.is_completion.ensures ∙ c.if-is_completion.true)

pub returns : goal.returns
returns c = λ told. absurd (told c.untold-2.ensures)
