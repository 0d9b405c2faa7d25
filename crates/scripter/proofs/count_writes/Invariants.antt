-- `scripter::count_writes` meets its contract: those counted and those left are all. Assumes nothing.
use Rattle.records.specs.Iterating.{parts_left}
use Rattle.scripter.specs.CountingLaws.{CountedParts}
use Rattle.scripter.proofs.count_writes.Given as goal

abbrev pub invariant-loop-part : goal.invariant-loop-part
invariant-loop-part l = CountedParts l.board (parts_left l.part-iterator) l.count
