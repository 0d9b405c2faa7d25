-- `audit_nested::group`: the pool's number, or its space's. Assumes nothing.
use mathlib.Core.Path.{sym}
use Rattle.sheet_ranges.specs.ItemsLaws.{number_of_pool, space_of_item}
use Rattle.audit_nested.proofs.group.Goals as goal

pub returns-in-OfKind : goal.returns-in-OfKind
returns-in-OfKind c = rw c.in-OfKind.is (sym (number_of_pool _))

pub returns-in-OfSpace : goal.returns-in-OfSpace
returns-in-OfSpace c = rw c.in-OfSpace.is (space_of_item _)
