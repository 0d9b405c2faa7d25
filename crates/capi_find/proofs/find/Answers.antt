-- `capi_find::find` meets its contract: by the path of the kind that byte 0 says. Assumes nothing.
use native.Mathlib.Omega.{arith}
use mathlib.Core.Path.{sym, ◌∙◌}
use Rattle.capi_find.proofs.find.Goals as goal

pub find_memory-requires : goal.find_memory-requires
find_memory-requires c = (omega (arith, c.if-header-lt12.false), sym c.is_memory.ensures ∙ c.if-is_memory.true)

pub find_io-requires : goal.find_io-requires
find_io-requires c = (omega (arith, c.if-header-lt12.false), sym c.is_io.ensures ∙ c.if-is_io.true)

pub find_config-requires : goal.find_config-requires
find_config-requires c = (omega (arith, c.if-header-lt12.false), sym c.is_config.ensures ∙ c.if-is_config.true)

pub find_completion-requires : goal.find_completion-requires
find_completion-requires c = (omega (arith, c.if-header-lt12.false), sym c.is_completion.ensures ∙ c.if-is_completion.true)
