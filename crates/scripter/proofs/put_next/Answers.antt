-- `scripter::put_next` meets its contract: a part is by the pass. Assumes nothing.
use mathlib.Core.Path.{ap, ◌∙◌}
use native.Mathlib.Omega.{arith}
use lib.ListN.{length}
use Rattle.records.specs.RecordsLaws.{fits_at}
use Rattle.board_record.specs.Function.{header_wrong}
use Rattle.plan_pass.specs.Step.{function_at}
use Rattle.scripter.specs.UnplacedLaws.{command_placed, buses_placed}
use Rattle.scripter.proofs.put_next.Goals as goal

pub part_at-part-requires : goal.part_at-part-requires
part_at-part-requires c = fits_at c.args.board.now c.args.at c.args.n c.requires.board_value.0

pub put_buses-requires : goal.put_buses-requires
put_buses-requires c = let room = rw c.in-Buses.is at c.requires.n_in_bounds in
    let ws = ap length (buses_placed 0 c.args.boot c.args.counts.now (function_at c.args.board.now c.args.at c.args.n) c.args.memo.now c.args.i
    c.args.cursors.now) in
    record {
      part_value = (
        ap header_wrong c.part_at-part.ensures ∙ c.requires.board_value.1,
        rw c.part_at-part.ensures (record {
          own = c.requires.placeable.0.numbered;
          below = λ b. (c.requires.placeable.1 b).numbered;
          stored = λ b. (c.requires.placeable.1 b).stored;
          last = λ b. (c.requires.placeable.1 b).last_numbered;
        }),
      );
      part_in_bounds = rw c.part_at-part.ensures (omega (arith, room, ws));
    }

pub put_placed-requires : goal.put_placed-requires
put_placed-requires c = record { board_value = c.requires.board_value; placeable = c.requires.placeable; n_in_bounds = rw c.in-Registers.is at c.requires.n_in_bounds }

pub part_at-part-requires-in-Commands : goal.part_at-part-requires-in-Commands
part_at-part-requires-in-Commands c = fits_at c.args.board.now c.args.at c.args.n c.requires.board_value.0

pub put_command-requires : goal.put_command-requires
put_command-requires c = let room = rw c.in-Commands.is at c.requires.n_in_bounds in
    record { part_value = (ap header_wrong c.part_at-part-in-Commands.ensures ∙ c.requires.board_value.1, rw c.part_at-part-in-Commands.ensures c.requires.placeable.0.numbered); write_stride_in_bounds = omega (arith, room) }

pub returns-in-Buses : goal.returns-in-Buses
returns-in-Buses c = record {
  cursors = rw c.in-Buses.is;
  room = (λ k.
      rw (
        c.in-Buses.is,
        buses_placed k c.args.boot c.args.counts.now (function_at c.args.board.now c.args.at c.args.n) c.args.memo.now c.args.i c.args.cursors.now,
      ) (rw c.part_at-part.ensures at (c.put_buses.ensures k)));
}

pub returns-in-Registers : goal.returns-in-Registers
returns-in-Registers c = record { cursors = rw c.in-Registers.is c.put_placed.ensures.cursors; room = (λ k. rw c.in-Registers.is (c.put_placed.ensures.room k)) }

pub returns-in-Commands : goal.returns-in-Commands
returns-in-Commands c = record {
  cursors = rw c.in-Commands.is;
  room = (λ k.
      rw (
        c.in-Commands.is,
        command_placed k c.args.boot c.args.counts.now (function_at c.args.board.now c.args.at c.args.n) c.args.memo.now c.args.i c.args.cursors.now,
      ) (rw c.part_at-part-in-Commands.ensures at (c.put_command.ensures k)));
}
