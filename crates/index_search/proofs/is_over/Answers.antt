-- `index_search::is_over`: a key before the start, or the two tests of the word. Assumes nothing.
use Rattle.index_search.specs.AnswerLaws.{over_before, over_from}
use Rattle.index_search.proofs.is_over.Goals as goal

pub returns-then-key-start : goal.returns-then-key-start
returns-then-key-start c = over_before c.args.start c.args.word c.args.key c.if-key-start.true

pub returns : goal.returns
returns c = rw c.record_in.ensures.0 (over_from c.args.start c.args.word c.args.key c.if-key-start.false)
