-- `planner::plan_lawful` meets its contract. Assumes nothing.
use Rattle.board_record.specs.Host.{host_length, host_at}
use native.Mathlib.Omega.{arith}
use mathlib.Core.Path.{refl, ap, ◌∙◌}
use lib.ListN.{length}
use Rattle.records.specs.RecordsLaws.{fits_at, length_part}
use Rattle.board.proofs.BoardLaws.{accepted_of_zero}
use Rattle.planner.specs.PlanLaws.{host_read_is, lawful_refused, lawful_short, lawful_placing, lawful_planned}
use Rattle.planner.specs.PlanLaws.{lawful_sheet}
use Rattle.planner.proofs.plan_lawful.Goals as goal

pub part_at-requires : goal.part_at-requires
part_at-requires c = fits_at c.args.board.now host_at host_length (accepted_of_zero c.args.board.now c.requires).host_record_lem

pub host_of-host-requires : goal.host_of-host-requires
host_of-host-requires c = ap length c.part_at.ensures ∙ length_part c.args.board.now host_at host_length
    (accepted_of_zero c.args.board.now c.requires).host_record_lem

pub measure-m-requires : goal.measure-m-requires
measure-m-requires c = record { board_value = c.requires; most_functions_in_bounds = (omega arith, omega arith) }

pub refusal-n-requires : goal.refusal-n-requires
refusal-n-requires c = c.measure-m.ensures.few_buses

pub returns-then-n-ne0 : goal.returns-then-n-ne0
returns-then-n-ne0 c = (
  lawful_refused _ (λ i. (c.type_inv.board i).fits) c.requires
      (host_read_is c.args.board.now c.requires c.part_at.ensures c.host_of-host.ensures) c.measure-m.ensures c.refusal-n.ensures _
      c.if-n-ne0.true,
  refl,
)

pub returns-then-sheet-size : goal.returns-then-sheet-size
returns-then-sheet-size c = (
  lawful_short _ (λ i. (c.type_inv.board i).fits) c.requires
      (host_read_is c.args.board.now c.requires c.part_at.ensures c.host_of-host.ensures) c.measure-m.ensures
      c.refusal-n.ensures c.if-n-ne0.false _ refl _ c.if-sheet-size.true,
  refl,
)

pub place_all-requires : goal.place_all-requires
place_all-requires c = lawful_placing _ (λ i. (c.type_inv.board i).fits) c.requires
    (host_read_is c.args.board.now c.requires c.part_at.ensures c.host_of-host.ensures) c.measure-m.ensures c.refusal-n.ensures
    c.if-n-ne0.false _ refl _
    c.if-sheet-size.false

pub returns : goal.returns
returns c = (
  lawful_planned _ (λ i. (c.type_inv.board i).fits) c.requires
      (host_read_is c.args.board.now c.requires c.part_at.ensures c.host_of-host.ensures) c.measure-m.ensures c.refusal-n.ensures
      c.if-n-ne0.false _ refl _
      c.if-sheet-size.false,
  lawful_sheet _ (λ i. (c.type_inv.board i).fits) c.requires
      (host_read_is c.args.board.now c.requires c.part_at.ensures c.host_of-host.ensures) c.measure-m.ensures c.refusal-n.ensures
      c.if-n-ne0.false _ refl _
      c.if-sheet-size.false c.place_all.ensures,
)
