-- `index_pass::put_pass`: the loop over the records. Invariant: inserting what the records from k on own gives what inserting all gives.
-- Assumes nothing.
use Rattle.index_pass.specs.Pass.{pass_slots}
use Rattle.index_pass.specs.PlacingLaws.{Placing}
use Rattle.index_pass.specs.PassLaws.{slots_after}
use Rattle.index_pass.proofs.put_pass.Given as goal

abbrev pub invariant-loop-k : goal.invariant-loop-k
invariant-loop-k l =
    Placing l.n (pass_slots l.pass l.root l.sheet) l.count l.initial.index (slots_after l.pass l.root l.sheet l.k) l.at l.index
