-- `index_search::in_reach`: one return for each space, and for IDs. Assumes nothing.
use Rattle.index_search.specs.AnswerLaws.{key_of_memory, key_of_port, key_of_id}
use Rattle.index_search.proofs.in_reach.Goals as goal

pub returns-in-Memory : goal.returns-in-Memory
returns-in-Memory c = (key_of_memory _ _ _ c.in-Address.is c.in-Memory.is).0

pub returns-in-Io : goal.returns-in-Io
returns-in-Io c = (key_of_port _ _ _ c.in-Address.is c.in-Io.is).0

pub returns-in-Id : goal.returns-in-Id
returns-in-Id c = (key_of_id _ _ c.in-Id.is).0
