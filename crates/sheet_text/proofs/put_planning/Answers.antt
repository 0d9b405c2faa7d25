-- `sheet_text::put_planning` meets its contract: one callee for each answer. Assumes nothing.
use native.Mathlib.Omega.{arith}
use Rattle.sheet_text.proofs.LengthLaws.{sheet_le, refusal_le}
use Rattle.sheet_text.proofs.put_planning.Goals as goal

pub returns-in-Planned : goal.returns-in-Planned
returns-in-Planned c = record { put = rw (c.in-Planned.is, ← c.front.ensures) c.put_sheet.ensures; fits = rw (c.in-Planned.is, ← c.front.ensures) (sheet_le _) }

pub returns-in-Refused : goal.returns-in-Refused
returns-in-Refused c = record { put = rw c.in-Refused.is c.put_refusal.ensures; fits = rw c.in-Refused.is (refusal_le _ (omega arith)) }
