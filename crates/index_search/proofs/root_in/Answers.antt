-- `index_search::root_in`: too short for a root bus, or its byte. Assumes nothing.
use Rattle.index_search.specs.AnswerLaws.{root_of_short}
use Rattle.index_search.proofs.root_in.Goals as goal

pub returns-then-index-le-ROOT : goal.returns-then-index-le-ROOT
returns-then-index-le-ROOT c = root_of_short c.args.index.now c.if-index-le-ROOT.true
