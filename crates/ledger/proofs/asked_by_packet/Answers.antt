-- `ledger::asked_by_packet` meets its contract. By what was read. Assumes nothing.
use mathlib.Core.Path.{refl, sym, ◌∙◌}
use native.Mathlib.Omega.{arith}
use Rattle.ledger.proofs.AskedLaws.{asks_number, asks_word}
use Rattle.ledger.proofs.asked_by_packet.Goals as goal

pub returns-in-Accepted : goal.returns-in-Accepted
returns-in-Accepted c = asks_word _ _ (sym c.read.ensures ∙ c.in-Accepted.is) _ c.kind_of.ensures
    _ c.head_of-h.ensures _ c.asked_by_kind.ensures

pub returns-in-Refused : goal.returns-in-Refused
returns-in-Refused c = asks_number _ _ _ (sym c.read.ensures ∙ c.in-Refused.is) refl refl (omega arith)
