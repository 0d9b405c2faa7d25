-- `ledger::perform` meets its contract. A verdict's place is inside, and its word is put there. Assumes nothing.
use native.Mathlib.Omega.{arith}
use mathlib.Core.Path.{refl}
use Rattle.ledger.proofs.perform.Goals as goal

pub offset_bounds-words-place : goal.offset_bounds-words-place
offset_bounds-words-place c = let h = rw c.in-Opened.is at c.requires in omega arith

pub bounds-words-place : goal.bounds-words-place
bounds-words-place c = rw c.in-Opened.is at c.requires

pub offset_bounds-words-place-in-Kept : goal.offset_bounds-words-place-in-Kept
offset_bounds-words-place-in-Kept c = let h = rw c.in-Kept.is at c.requires in omega arith

pub bounds-words-place-in-Kept : goal.bounds-words-place-in-Kept
bounds-words-place-in-Kept c = rw c.in-Kept.is at c.requires

pub offset_bounds-words-place-in-Closed : goal.offset_bounds-words-place-in-Closed
offset_bounds-words-place-in-Closed c = let h = rw c.in-Closed.is at c.requires in omega arith

pub bounds-words-place-in-Closed : goal.bounds-words-place-in-Closed
bounds-words-place-in-Closed c = rw c.in-Closed.is at c.requires

pub returns-in-Opened : goal.returns-in-Opened
returns-in-Opened c = rw c.in-Opened.is (refl, refl)

pub returns-in-Kept : goal.returns-in-Kept
returns-in-Kept c = rw c.in-Kept.is (refl, refl)

pub returns-in-Closed : goal.returns-in-Closed
returns-in-Closed c = rw c.in-Closed.is (refl, refl)
