-- `trace::finish` meets its contract, for each way in which bytes end. Assumes nothing.
use Rattle.std.proofs.Common.{length, sym, refl, ◌∙◌, arith, le-leb}
use Rattle.trace.specs.Feed.{ended_of, text_put}
use Rattle.text.specs.Text.{ascii}
use Rattle.trace.proofs.finish.Goals as goal

pub returns-in-Empty : goal.returns-in-Empty
unfolding ascii
returns-in-Empty c = rw (sym c.ending_of.ensures ∙ c.in-Empty.is) c.put_last.ensures

pub returns-in-Unread : goal.returns-in-Unread
unfolding ended_of text_put
returns-in-Unread c = let none = le-leb 0 (length c.args.out.now) (omega arith) in
    rw (sym c.ending_of.ensures ∙ c.in-Unread.is, none) (refl, refl)

pub returns-in-Whole : goal.returns-in-Whole
unfolding ended_of text_put
returns-in-Whole c = let none = le-leb 0 (length c.args.out.now) (omega arith) in
    rw (sym c.ending_of.ensures ∙ c.in-Whole.is, none) (refl, refl)

pub returns-in-Cut : goal.returns-in-Cut
unfolding ascii
returns-in-Cut c = rw (sym c.ending_of.ensures ∙ c.in-Cut.is) c.put_last-in-Cut.ensures
