-- `capi_answers::give_one` meets its contract: one number where the slice has room for it, and nothing else. Assumes nothing.
use mathlib.Core.List.{[], ◌∷◌}
use mathlib.Core.Path.{refl}
use Rattle.capi_answers.proofs.AnswersLaws.{answered_short, answered_filled}
use Rattle.capi_answers.proofs.give_one.Goals as goal

pub returns-then-out-lt1 : goal.returns-then-out-lt1
returns-then-out-lt1 c = let both = answered_short (c.args.n ∷ []) c.args.out.now c.if-out-lt1.true in
    record { value = both.0; out_after = both.1 }

pub returns : goal.returns
returns c = let both = answered_filled (c.args.n ∷ []) c.args.out.now c.if-out-lt1.false refl in
    record { value = both.0; out_after = both.1 }
