-- `index_label::owned_by` meets its contract: a record, or nobody's. Assumes nothing.
use mathlib.Core.Path.{refl, sym, ◌∙◌}
use borrow.Author.Tests.{eq-eqb, ne_eqb}
use Rattle.index_layout.specs.Words.{record_in}
use Rattle.trace_label.specs.Word.{way_text}
use Rattle.index_label.proofs.owned_by.Goals as goal

pub returns-then-record-eq0 : goal.returns-then-record-eq0
unfolding way_text
returns-then-record-eq0 c = (refl, λ p. rw (eq-eqb (record_in c.args.word) 0 (sym c.record_in-record.ensures.0 ∙ c.if-record-eq0.true)))

pub returns : goal.returns
unfolding way_text
returns c = (refl, λ p. rw (c.record_in-record.ensures.0, ne_eqb (record_in c.args.word) 0 (λ z. c.if-record-eq0.false (c.record_in-record.ensures.0 ∙ z))))
