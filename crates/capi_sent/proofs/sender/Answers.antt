-- `capi_sent::sender` meets its contract: 10 first, then who sends. Assumes nothing.
use mathlib.Core.Path.{refl, sym, ◌∙◌}
use Rattle.route_sender.specs.declared.SentBy.TheVariants.{Told, Refused}
use Rattle.capi_sent.specs.CallsLaws.{id_wide, sender_answered, sender_given}
use Rattle.capi_sent.proofs.sender.Goals as goal

pub returns-then-host_id-gt-LAST_ID : goal.returns-then-host_id-gt-LAST_ID
returns-then-host_id-gt-LAST_ID c = let both = id_wide c.args.host_id _ _ c.if-host_id-gt-LAST_ID.true in
    record { value = both.0; answer_after = both.1 }

pub returns-in-Told : goal.returns-in-Told
returns-in-Told c = let both = sender_answered c.args.host_id _ _ _ c.if-host_id-gt-LAST_ID.false (Told c.in-Told.s) (sym c.in-Told.is ∙ c.sent_by.ensures) _ _ (sender_given c.in-Told.s _ c.args.answer.now c.number_of.ensures _ _ (c.give_one.ensures.value, c.give_one.ensures.out_after)) in
    record { value = both.0; answer_after = both.1 }

pub returns-in-Refused : goal.returns-in-Refused
returns-in-Refused c = let both = sender_answered c.args.host_id _ _ _ c.if-host_id-gt-LAST_ID.false (Refused c.in-Refused.n) (sym c.in-Refused.is ∙ c.sent_by.ensures) _ _ (refl, refl) in
    record { value = both.0; answer_after = both.1 }
