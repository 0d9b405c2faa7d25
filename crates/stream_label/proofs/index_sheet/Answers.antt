-- `stream_label::index_sheet` meets its contract. Assumes nothing.
use Rattle.std.proofs.Common.{arith}
use Rattle.stream_label.specs.Indexed.{indexed}
use Rattle.stream_label.proofs.index_sheet.Goals as goal

pub returns : goal.returns
returns c =
    indexed c.args.host.now c.args.sheet.now c.args.index.now (λ i. (c.type_inv.host i).fits) (λ i. (c.type_inv.sheet i).fits)
    (omega arith) _ _ c.build.ensures.number c.build.ensures.content
