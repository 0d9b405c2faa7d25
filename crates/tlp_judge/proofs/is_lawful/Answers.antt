-- `tlp_judge::is_lawful` meets its contract: by the fields of the kind that byte 0 says. Assumes nothing.
use mathlib.Core.Path.{sym, ◌∙◌}
use native.Mathlib.Omega.{arith}
use Rattle.tlp_judge.specs.JudgeLaws.{not_passes}
use Rattle.tlp_judge.proofs.is_lawful.Goals as goal

pub returns-then-s-lt12 : goal.returns-then-s-lt12
returns-then-s-lt12 c = not_passes _

pub is_lawful_memory-requires : goal.is_lawful_memory-requires
is_lawful_memory-requires c = (omega (arith, c.if-s-lt12.false), sym c.is_memory.ensures ∙ c.if-is_memory.true)

pub is_lawful_completion-requires : goal.is_lawful_completion-requires
is_lawful_completion-requires c = (omega (arith, c.if-s-lt12.false), sym c.is_completion.ensures ∙ c.if-is_completion.true)

pub is_lawful_config-requires : goal.is_lawful_config-requires
is_lawful_config-requires c = (omega (arith, c.if-s-lt12.false), sym c.is_config.ensures ∙ c.if-is_config.true)

pub is_lawful_io-requires : goal.is_lawful_io-requires
is_lawful_io-requires c = (omega (arith, c.if-s-lt12.false), sym c.is_io.ensures ∙ c.if-is_io.true)

pub is_lawful_message-requires : goal.is_lawful_message-requires
is_lawful_message-requires c = (omega (arith, c.if-s-lt12.false), sym c.is_message.ensures ∙ c.if-is_message.true)

pub returns : goal.returns
returns c = not_passes _
