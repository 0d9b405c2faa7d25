-- `board_record::breaks` meets its contract: each rule is one test. Assumes nothing.
use mathlib.Core.Path.{sym, ap, ◌∙◌}
use Rattle.board_record.specs.declared.Rule.{Rule}
use Rattle.board_record.specs.Rules.{too_early}
use Rattle.board_record.proofs.breaks.Goals as goal

pub bad_readbacks-requires : goal.bad_readbacks-requires
bad_readbacks-requires c = ap (λ (r : Rule). too_early r c.args.part.now) (sym c.in-ReadBacks.is) ∙ c.requires

pub returns-in-Length : goal.returns-in-Length
returns-in-Length c = rw c.in-Length.is

pub returns-in-Header : goal.returns-in-Header
returns-in-Header c = rw c.in-Header.is c.header_wrong.ensures

pub returns-in-ReadBacks : goal.returns-in-ReadBacks
returns-in-ReadBacks c = rw c.in-ReadBacks.is c.bad_readbacks.ensures
