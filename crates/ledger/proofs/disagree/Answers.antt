-- `ledger::disagree` meets its contract. The bools of the definition, joined as there. Assumes nothing.
use Rattle.ledger.specs.Ledger.{disagrees}
use Rattle.ledger.proofs.LedgerLaws.{differ_not}
use Rattle.ledger.proofs.disagree.Goals as goal

pub returns : goal.returns
unfolding disagrees
returns c = rw (
  c.is_config.ensures,
  c.has_data.ensures,
  c.is_read.ensures,
  c.in_locked_form.ensures,
  c.is_locked.ensures,
  differ_not,
  differ_not,
)
