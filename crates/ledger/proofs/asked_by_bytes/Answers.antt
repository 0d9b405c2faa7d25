-- `ledger::asked_by_bytes` meets its contract: by the fields of the kind that byte 0 says. Assumes nothing.
use mathlib.Core.Path.{sym, ◌∙◌}
use native.Mathlib.Omega.{arith}
use Rattle.ledger.proofs.asked_by_bytes.Goals as goal

pub returns-then-header-lt12 : goal.returns-then-header-lt12
returns-then-header-lt12 c = λ told. absurd (told c.untold.ensures)

pub asked_by_memory-requires : goal.asked_by_memory-requires
asked_by_memory-requires c = (omega (arith, c.if-header-lt12.false), sym c.is_memory.ensures ∙ c.if-is_memory.true)

pub asked_by_io-requires : goal.asked_by_io-requires
asked_by_io-requires c = (omega (arith, c.if-header-lt12.false), sym c.is_io.ensures ∙ c.if-is_io.true)

pub asked_by_config-requires : goal.asked_by_config-requires
asked_by_config-requires c = (omega (arith, c.if-header-lt12.false), sym c.is_config.ensures ∙ c.if-is_config.true)

pub returns : goal.returns
returns c = λ told. absurd (told c.untold-2.ensures)
