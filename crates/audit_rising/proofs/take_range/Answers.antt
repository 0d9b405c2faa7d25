-- `audit_rising::take_range`: what is on its side is taken under its key. Assumes nothing.
use mathlib.Core.Path.{sym, ◌∙◌}
use Rattle.audit_rising.specs.Rising.{Rising}
use Rattle.audit_rising.specs.PassLaws.{takes_range}
use Rattle.audit_rising.proofs.take_range.Goals as goal

pub returns : goal.returns
returns c = let told = sym c.is_sided.ensures ∙ c.if-not-is_sided.false in
    λ e. takes_range Rising _ _ _ c.key_of.ensures.0 told _ _ (c.take.ensures e)
