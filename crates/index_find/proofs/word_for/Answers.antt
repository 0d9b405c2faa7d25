-- `index_find::word_for` meets its contract: no functions, or the word that is found among theirs. Assumes nothing.
use Rattle.index_search.specs.AnswerLaws.{functions_fit}
use Rattle.index_find.specs.FoundLaws.{word_of_none, word_of_some}
use Rattle.index_find.proofs.word_for.Goals as goal

pub returns-then-n-eq0 : goal.returns-then-n-eq0
returns-then-n-eq0 c = word_of_none _ _ _ c.functions_in-n.ensures.0 c.if-n-eq0.true

pub word_over-requires : goal.word_over-requires
word_over-requires c = (functions_fit _ _ c.functions_in-n.ensures.0 c.if-n-eq0.false, c.requires.0, c.requires.1)

pub returns : goal.returns
returns c = word_of_some _ _ _ c.functions_in-n.ensures.0 c.if-n-eq0.false c.word_over.result c.word_over.ensures
