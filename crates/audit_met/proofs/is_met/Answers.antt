-- `audit_met::is_met` meets its contract: not the record itself. Assumes nothing.
use mathlib.Core.Path.{sym, ap, ◌∙◌}
use lib.ListN.{length}
use borrow.Author.Tests.{eq-eqb}
use Rattle.sheet.proofs.IndexLaws.{record_fits, length_part}
use Rattle.audit_met.specs.MetLaws.{met_self, met_other}
use Rattle.audit_met.proofs.is_met.Goals as goal

pub returns-else-j-k : goal.returns-else-j-k
returns-else-j-k c = rw (eq-eqb c.args.j c.args.k c.if-j-k.false) (sym
    (met_self c.args.relation c.args.sheet.now c.args.k c.args.j c.if-j-k.false))

pub part-requires : goal.part-requires
part-requires c = record_fits _ c.requires.0 _ c.requires.1

pub part-requires-then-j-k : goal.part-requires-then-j-k
part-requires-then-j-k c = record_fits _ c.requires.0 _ c.requires.2

pub is_related-requires : goal.is_related-requires
is_related-requires c = (
  ap length c.part.ensures ∙ length_part _ _ (record_fits _ c.requires.0 _ c.requires.1),
  ap length c.part-then-j-k.ensures ∙ length_part _ _ (record_fits _ c.requires.0 _ c.requires.2),
)

pub returns-then-j-k : goal.returns-then-j-k
returns-then-j-k c = met_other c.args.relation c.args.sheet.now c.args.k c.args.j c.if-j-k.true _ _ c.part.ensures c.part-then-j-k.ensures _
    c.is_related.ensures
