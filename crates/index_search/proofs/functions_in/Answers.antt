-- `index_search::functions_in`: too short for the first bytes, for what they say, or as long. Assumes nothing.
use native.Mathlib.Omega.{arith}
use Rattle.index_search.specs.AnswerLaws.{functions_of_few, functions_of_short, functions_of_enough}
use Rattle.index_search.proofs.functions_in.Goals as goal

pub returns-then-index-lt-LEAST : goal.returns-then-index-lt-LEAST
returns-then-index-lt-LEAST c = (functions_of_few _ c.if-index-lt-LEAST.true, omega arith)

pub returns-then-index-n : goal.returns-then-index-n
returns-then-index-n c = (functions_of_short _ _ c.read_le16-n.ensures.0 c.if-index-n.true, omega arith)

pub returns : goal.returns
returns c = (functions_of_enough _ _ c.read_le16-n.ensures.0 c.if-index-n.false, c.read_le16-n.ensures.1)
