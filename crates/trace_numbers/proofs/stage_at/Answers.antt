-- `trace_numbers::stage_at` meets its contract: by the number, and past 3 it is 4. Assumes nothing.
use borrow.Author.Rules.{rules}
use native.Mathlib.Omega.{arith}
use Rattle.trace_numbers.specs.NumbersLaws.{byte_of_length, inner_of_stage}
use Rattle.trace_numbers.specs.Parsing.{stages, stage_at}
use Rattle.trace_numbers.proofs.stage_at.Goals as goal

pub overflow_cast-result : goal.overflow_cast-result
overflow_cast-result c = let h = byte_of_length c.args.number c.args.value c.requires c.in-3.is in
    omega arith

pub overflow_cast-result-in_default : goal.overflow_cast-result-in_default
overflow_cast-result-in_default c = let inner = inner_of_stage c.args.number c.args.value c.requires (omega (arith, c.in_default.in_default-own.rest)) in
    omega (arith, inner.word)

pub returns-in-0 : goal.returns-in-0
unfolding stage_at stages
returns-in-0 c = search rules

pub returns-in-1 : goal.returns-in-1
unfolding stage_at stages
returns-in-1 c = search rules

pub returns-in-2 : goal.returns-in-2
unfolding stage_at stages
returns-in-2 c = search rules

pub returns-in-3 : goal.returns-in-3
unfolding stage_at stages
returns-in-3 c = rw c.in-3.is

pub returns-in_default : goal.returns-in_default
unfolding stage_at stages
returns-in_default c = rw (inner_of_stage c.args.number c.args.value c.requires (omega (arith, c.in_default.in_default-own.rest))).last
