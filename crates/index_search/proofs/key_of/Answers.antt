-- `index_search::key_of`: one return for each space, and for IDs. Assumes nothing.
use native.Mathlib.Omega.{arith}
use Rattle.index_search.specs.AnswerLaws.{key_of_memory, key_of_port, key_of_id}
use Rattle.index_search.proofs.key_of.Goals as goal

pub overflow_add-result : goal.overflow_add-result
overflow_add-result c = let near = (key_of_port _ _ _ c.in-Address.is c.in-Io.is).1 c.requires in
    omega (arith, near.1)

pub returns-in-Memory : goal.returns-in-Memory
returns-in-Memory c = (key_of_memory _ _ _ c.in-Address.is c.in-Memory.is).1 c.requires

pub returns-in-Io : goal.returns-in-Io
returns-in-Io c = (key_of_port _ _ _ c.in-Address.is c.in-Io.is).1 c.requires

pub returns-in-Id : goal.returns-in-Id
returns-in-Id c = (key_of_id _ _ c.in-Id.is).1 c.requires
