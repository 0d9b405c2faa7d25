-- `audit_feed::put_number` meets its contract: the word, or the refusal. Assumes nothing.
use borrow.Author.Tests.{eq-eqb, ne_eqb}
use Rattle.text.specs.Text.{ascii}
use Rattle.audit_feed.specs.Program.{number_text}
use Rattle.audit_feed.proofs.put_number.Goals as goal

pub returns-then-number-eq0 : goal.returns-then-number-eq0
unfolding ascii number_text
returns-then-number-eq0 c = rw (eq-eqb _ 0 c.if-number-eq0.true) c.put_text.ensures

pub returns : goal.returns
unfolding number_text
returns c = rw (ne_eqb _ 0 c.if-number-eq0.false) c.put_refusal.ensures
