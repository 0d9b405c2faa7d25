-- `board_where::place_in` meets its contract, rule by rule. Assumes nothing.
use mathlib.Core.Path.{sym, ap, ◌∙◌}
use Rattle.board_record.specs.declared.Rule.{Rule}
use Rattle.board_record.specs.Rules.{too_early}
use Rattle.board_where.specs.Where.{place_in}
use Rattle.board_where.proofs.place_in.Goals as goal

pub bad_slot-requires : goal.bad_slot-requires
bad_slot-requires c = ap (λ (r : Rule). too_early r c.args.part.now) (sym c.in-ReadBacks.is) ∙ c.requires

pub returns-in-ReadBacks : goal.returns-in-ReadBacks
returns-in-ReadBacks c = c.bad_slot.ensures ∙ ap (λ (r : Rule). place_in r c.args.part.now) (sym c.in-ReadBacks.is)
