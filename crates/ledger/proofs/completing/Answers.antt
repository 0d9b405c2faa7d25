-- `ledger::completing` meets its contract. A header that was not accepted gives its number; what is left is its packet.
-- Assumes nothing.
use Rattle.ledger.proofs.LedgerLaws.{completing_unread, completing_accepted}
use Rattle.ledger.proofs.completing.Goals as goal

pub returns-in_default : goal.returns-in_default
returns-in_default c = completing_unread _ _ _ c.read-reading.ensures _ _ c.in_default.is c.number.ensures

pub returns-in-Memory : goal.returns-in-Memory
returns-in-Memory c = completing_accepted _ _ _ c.read-reading.ensures _ c.in-Accepted.is _ (rw c.in-Memory.is)

pub returns-in-Io : goal.returns-in-Io
returns-in-Io c = completing_accepted _ _ _ c.read-reading.ensures _ c.in-Accepted.is _ (rw c.in-Io.is)

pub returns-in-Config : goal.returns-in-Config
returns-in-Config c = completing_accepted _ _ _ c.read-reading.ensures _ c.in-Accepted.is _ (rw c.in-Config.is)

pub returns-in-Completion : goal.returns-in-Completion
returns-in-Completion c = completing_accepted _ _ _ c.read-reading.ensures _ c.in-Accepted.is _
    (rw (c.in-Completion.is, ← c.key_of.ensures) c.complete_word.ensures)

pub returns-in-Message : goal.returns-in-Message
returns-in-Message c = completing_accepted _ _ _ c.read-reading.ensures _ c.in-Accepted.is _ (rw c.in-Message.is)
