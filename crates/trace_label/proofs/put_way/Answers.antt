-- `trace_label::put_way` meets its contract, for each way. Assumes nothing.
use borrow.Author.Tests.{eq-eqb, ne_eqb}
use Rattle.text.specs.Text.{ascii}
use Rattle.trace_label.specs.Word.{way_text}
use Rattle.trace_label.proofs.put_way.Goals as goal

pub returns-then-way-eq-OWNER : goal.returns-then-way-eq-OWNER
unfolding way_text ascii
returns-then-way-eq-OWNER c = rw (eq-eqb c.args.way 0 c.if-way-eq-OWNER.true) c.put_named.ensures

pub returns-then-way-eq-REFUSED : goal.returns-then-way-eq-REFUSED
unfolding way_text ascii
returns-then-way-eq-REFUSED c = rw (ne_eqb c.args.way 0 c.if-way-eq-OWNER.false, eq-eqb c.args.way 1 c.if-way-eq-REFUSED.true) c.put_named-then-way-eq-REFUSED.ensures

pub returns-then-way-eq-ALL : goal.returns-then-way-eq-ALL
unfolding way_text ascii
returns-then-way-eq-ALL c = rw (ne_eqb c.args.way 0 c.if-way-eq-OWNER.false, ne_eqb c.args.way 1 c.if-way-eq-REFUSED.false, eq-eqb c.args.way 2 c.if-way-eq-ALL.true) c.put_text.ensures

pub returns : goal.returns
unfolding way_text ascii
returns c = rw (ne_eqb c.args.way 0 c.if-way-eq-OWNER.false, ne_eqb c.args.way 1 c.if-way-eq-REFUSED.false, ne_eqb c.args.way 2 c.if-way-eq-ALL.false) c.put_text-2.ensures
