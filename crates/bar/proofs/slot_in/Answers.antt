-- `bar::slot_in`: past the read-backs there is no slot, else one of the entry and the next. Assumes nothing.
use mathlib.Core.Path.{sym, ◌∙◌}
use native.Mathlib.Omega.{arith}
use lib.ListN.{take}
use Rattle.bar.specs.BarLaws.{length_first, slot_at_none, slot_here_at}
use Rattle.bar.proofs.slot_in.Goals as goal

pub returns-then-m-i : goal.returns-then-m-i
returns-then-m-i c = sym (slot_at_none c.args.set.now c.args.n c.args.i c.requires (omega arith))

pub returns : goal.returns
returns c = let m = c.min-m.ensures ∙ sym (length_first c.args.set.now c.args.n c.requires) in
    c.slot_of.ensures ∙ sym
    (slot_here_at (take c.args.n c.args.set.now) c.args.i _ _ _ m (omega arith) c.entry.ensures
    c.entry-2.ensures)
