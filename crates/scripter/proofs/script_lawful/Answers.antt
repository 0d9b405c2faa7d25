-- `scripter::script_lawful` meets its contract. Assumes nothing.
use mathlib.Core.Path.{refl, ap, ◌∙◌}
use native.Mathlib.Omega.{arith}
use lib.ListN.{length}
use Rattle.board_record.specs.Host.{host_length, host_at}
use Rattle.scripter.specs.CallLaws.{script_refused, script_short, script_written, script_fits, script_placing, script_stored}
use Rattle.planner.specs.PlanLaws.{host_read_is}
use Rattle.board.proofs.BoardLaws.{accepted_of_zero}
use Rattle.records.specs.RecordsLaws.{fits_at, length_part}
use Rattle.scripter.proofs.script_lawful.Goals as goal

pub part_at-requires : goal.part_at-requires
part_at-requires c = fits_at c.args.board.now host_at host_length (accepted_of_zero c.args.board.now c.requires).host_record_lem

pub host_of-host-requires : goal.host_of-host-requires
host_of-host-requires c = ap length c.part_at.ensures
    ∙ length_part c.args.board.now host_at host_length (accepted_of_zero c.args.board.now c.requires).host_record_lem

pub measure-m-requires : goal.measure-m-requires
measure-m-requires c = record { board_value = c.requires; most_functions_in_bounds = (omega arith, omega arith) }

pub refusal-n-requires : goal.refusal-n-requires
refusal-n-requires c = c.measure-m.ensures.few_buses

pub returns-then-n-ne0 : goal.returns-then-n-ne0
returns-then-n-ne0 c = (
  script_refused c.args.board.now (λ i. (c.type_inv.board i).fits) c.requires (host_read_is c.args.board.now c.requires c.part_at.ensures c.host_of-host.ensures) c.measure-m.ensures c.refusal-n.ensures _ _ c.if-n-ne0.true,
  refl,
)

pub count_writes-size-requires : goal.count_writes-size-requires
count_writes-size-requires c = c.requires

pub overflow_mul-size : goal.overflow_mul-size
overflow_mul-size c = omega (arith, c.count_writes-size.ensures.1)

pub returns-then-room-size : goal.returns-then-room-size
returns-then-room-size c = (
  script_short c.args.board.now (λ i. (c.type_inv.board i).fits) c.requires (host_read_is c.args.board.now c.requires c.part_at.ensures c.host_of-host.ensures) c.measure-m.ensures c.refusal-n.ensures c.if-n-ne0.false c.count_writes-size.result
      c.count_writes-size.ensures.0 _
      c.if-room-size.true,
  refl,
)

pub write_passes-requires : goal.write_passes-requires
write_passes-requires c = (
  script_placing c.args.board.now (λ i. (c.type_inv.board i).fits) c.requires (host_read_is c.args.board.now c.requires c.part_at.ensures c.host_of-host.ensures) c.measure-m.ensures c.refusal-n.ensures c.if-n-ne0.false c.count_writes-size.result c.count_writes-size.ensures.0,
  script_fits c.args.board.now (λ i. (c.type_inv.board i).fits) c.requires (host_read_is c.args.board.now c.requires c.part_at.ensures c.host_of-host.ensures) c.measure-m.ensures c.refusal-n.ensures c.if-n-ne0.false c.count_writes-size.result
      c.count_writes-size.ensures.0 _
      c.if-room-size.false,
)

pub returns : goal.returns
returns c = (
  script_written c.args.board.now (λ i. (c.type_inv.board i).fits) c.requires (host_read_is c.args.board.now c.requires c.part_at.ensures c.host_of-host.ensures) c.measure-m.ensures c.refusal-n.ensures c.if-n-ne0.false c.count_writes-size.result
      c.count_writes-size.ensures.0 _
      c.if-room-size.false,
  script_stored c.args.board.now (λ i. (c.type_inv.board i).fits) c.requires (host_read_is c.args.board.now c.requires
      c.part_at.ensures c.host_of-host.ensures) c.measure-m.ensures c.refusal-n.ensures c.if-n-ne0.false c.count_writes-size.result c.count_writes-size.ensures.0 c.args.requester c.args.tag c.args.room.now c.if-room-size.false c.write_passes.ensures,
)
