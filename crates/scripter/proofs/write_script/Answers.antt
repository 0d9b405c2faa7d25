-- `scripter::write_script` meets its contract. Assumes nothing.
use mathlib.Core.Path.{refl, sym, ap, ◌∙◌}
use Rattle.scripter.specs.CallLaws.{scripting_unlawful, scripting_lawful, room_after_is}
use Rattle.scripter.specs.declared.Scripting.TheVariants.{Refused}
use Rattle.scripter.proofs.write_script.Goals as goal

pub returns-then-n-ne0 : goal.returns-then-n-ne0
returns-then-n-ne0 c = let e = ap Refused c.check-n.ensures ∙ sym (scripting_unlawful c.args.board.now _ (λ z. c.if-n-ne0.true (c.check-n.ensures ∙ z))) in
    (e, room_after_is _ _ _ _ e refl)

pub returns : goal.returns
returns c = let e = c.script_lawful.ensures.0 ∙ sym (scripting_lawful c.args.board.now _ (sym c.check-n.ensures ∙ c.if-n-ne0.false)) in
    (e, room_after_is _ _ _ _ e c.script_lawful.ensures.1)
