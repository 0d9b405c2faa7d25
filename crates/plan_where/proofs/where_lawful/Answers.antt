-- `plan_where::where_lawful` meets its contract: the board measured with each closed pool at 0 tells number, parties and needs. Assumes
-- nothing.
use mathlib.Core.Path.{ap, ◌∙◌}
use native.Mathlib.Omega.{arith}
use lib.ListN.{length}
use Rattle.board_record.specs.Host.{host_length, host_at}
use Rattle.records.specs.RecordsLaws.{fits_at, length_part}
use Rattle.board.proofs.BoardLaws.{accepted_of_zero}
use Rattle.planner.specs.PlanLaws.{host_read_is}
use Rattle.plan_where.specs.MeasuredLaws.{call_walkable, call_past_bases, call_found}
use Rattle.plan_where.proofs.where_lawful.Goals as goal

pub part_at-requires : goal.part_at-requires
part_at-requires c = fits_at c.args.board.now host_at host_length (accepted_of_zero c.args.board.now c.requires).host_record_lem

pub host_of-host-requires : goal.host_of-host-requires
host_of-host-requires c = ap length c.part_at.ensures
    ∙ length_part c.args.board.now host_at host_length (accepted_of_zero c.args.board.now c.requires).host_record_lem

pub parties_under-parties-requires : goal.parties_under-parties-requires
parties_under-parties-requires c = call_walkable c.args.board.now (λ i. (c.type_inv.board i).fits) c.requires (host_read_is c.args.board.now c.requires c.part_at.ensures c.host_of-host.ensures)
    c.laid_host-laid.ensures c.measure-m.ensures c.refusal-number.ensures

pub needs_of-requires : goal.needs_of-requires
needs_of-requires c = (
  omega (arith, c.measure-m.ensures.few_buses),
  call_past_bases c.args.board.now (λ i. (c.type_inv.board i).fits) c.requires
      (host_read_is c.args.board.now c.requires c.part_at.ensures c.host_of-host.ensures) c.laid_host-laid.ensures c.measure-m.ensures,
)

pub returns : goal.returns
returns c = call_found c.args.board.now (λ i. (c.type_inv.board i).fits) c.requires (host_read_is c.args.board.now c.requires c.part_at.ensures c.host_of-host.ensures)
    c.laid_host-laid.ensures c.measure-m.ensures c.refusal-number.ensures c.parties_under-parties.ensures c.needs_of.ensures
