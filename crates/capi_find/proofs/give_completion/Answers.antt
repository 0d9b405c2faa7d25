-- `capi_find::give_completion` meets its contract: 22 numbers where the slice has room for them, and nothing else. Assumes nothing.
use native.Mathlib.Omega.{arith}
use Prim.Native.Nat.{ℕ}
use mathlib.Core.List.{List, ◌∷◌, ◌++◌}
use lib.ListN.{set, length-set}
use Rattle.packet.specs.declared.Head.{Head}
use Rattle.packet.specs.declared.Outcome.{Outcome}
use Rattle.packet_numbers.specs.Numbers.{head_numbers, outcome_numbers, absent}
use Rattle.index_layout.specs.Words.{record_in, bridges_in}
use Rattle.capi_answers.proofs.AnswersLaws.{answered_short, answered_filled}
use Rattle.capi_find.proofs.give_completion.Goals as goal

abbrev numbers : ℕ → ℕ → Head → Outcome → List ℕ
numbers word kind h o = record_in word ∷ bridges_in word ∷ (head_numbers kind h ++ (absent ++ outcome_numbers o))

pub returns-then-out : goal.returns-then-out
returns-then-out c = let both = answered_short (numbers c.args.word c.args.kind c.args.h c.args.o) c.args.out.now (omega arith) in
    record { value = both.0; out_after = both.1 }

pub bounds-out-1 : goal.bounds-out-1
bounds-out-1 c = simp length-set (omega arith)

pub shape_of-out : goal.shape_of-out
shape_of-out c = omega (
  arith,
  c.put_completion.auto.out,
  length-set (set c.args.out.now 0 c.record_in.result) 1 c.bridges_in.result,
  length-set c.args.out.now 0 c.record_in.result,
)

pub returns : goal.returns
returns c = let both = answered_filled (numbers c.args.word c.args.kind c.args.h c.args.o) c.args.out.now (omega arith)
    (rw (c.record_in.ensures.0, c.bridges_in.ensures.0) at c.put_completion.ensures) in
    record { value = both.0; out_after = both.1 }
