-- `tlp::write` meets its contract. Assumes nothing.
use Rattle.tlp.specs.WritingLaws.{outcome_unlawful}
use mathlib.Core.Path.{sym, ◌∙◌}
use Rattle.tlp.proofs.write.Goals as goal

pub write_lawful-requires : goal.write_lawful-requires
write_lawful-requires c = sym c.judge.ensures ∙ c.in-Lawful.is

pub returns-in-Refused : goal.returns-in-Refused
returns-in-Refused c = outcome_unlawful _ _ _ (sym c.judge.ensures ∙ c.in-Refused.is)
