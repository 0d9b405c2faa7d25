-- `trace_numbers::put_state` meets its contract: six stores are `sets` of the six numbers, by computation. Assumes nothing.
use lib.ListN.{length-set}
use mathlib.Core.Path.{◌≡◌, sym, ap}
use native.Mathlib.Omega.{arith}
use Rattle.trace.specs.declared.Trace.{Trace}
use Rattle.trace_numbers.specs.Numbers.{numbers_of}
use Rattle.trace_numbers.proofs.put_state.Goals as goal

pub bounds-out-1 : goal.bounds-out-1
bounds-out-1 c = simp length-set (omega arith)

pub bounds-out-2 : goal.bounds-out-2
bounds-out-2 c = simp length-set (omega arith)

pub bounds-out-3 : goal.bounds-out-3
bounds-out-3 c = simp length-set (omega arith)

pub bounds-out-4 : goal.bounds-out-4
bounds-out-4 c = simp length-set (omega arith)

pub returns : goal.returns
unfolding numbers_of
returns c = let kept : c.args.t.head ≡ c.head_of-head.result = ap (λ (x : Trace). x.head) (sym c.head_of-head.ensures.0) in
    rw (c.stage_number.ensures, c.stage_value.ensures, c.read_be64.ensures.0, c.read_be64-2.ensures.0, kept)
