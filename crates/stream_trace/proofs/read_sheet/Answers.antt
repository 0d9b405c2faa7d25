-- `stream_trace::read_sheet` is safe: a sheet that is opened fits the room for it. Assumes nothing.
use Rattle.std.proofs.Common.{arith, refl}
use Rattle.stream_trace.specs.ProgramLaws.{opened_le}
use Rattle.stream_trace.proofs.read_sheet.Goals as goal

pub slice_bounds-fill-end-2 : goal.slice_bounds-fill-end-2
slice_bounds-fill-end-2 c = omega (arith, opened_le _ _ _ c.in-Some.ensures refl)
