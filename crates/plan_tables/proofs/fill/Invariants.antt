-- `plan_tables::fill` meets its contract. The loop's invariant: storing the functions that are left fills the arrays. Assumes nothing.
use Rattle.records.specs.Iterating.{parts_left}
use Rattle.plan_tables.specs.Tables.{FillingParts}
use Rattle.plan_tables.proofs.fill.Given as goal

abbrev pub invariant-loop-part : goal.invariant-loop-part
invariant-loop-part l =
    FillingParts l.board l.initial.parents l.initial.heads l.initial.readbacks (parts_left l.part-iterator) l.count l.parents l.heads l.readbacks
