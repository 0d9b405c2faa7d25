-- `packet::message_rules` meets its contract: rules 4 and 5 in their order. Assumes nothing.
use borrow.Author.Rules.{rules}
use Rattle.packet.specs.declared.Head.{Head}
use Prim.Native.Nat.{ℕ, ◌%◌}
use mathlib.Core.Path.{◌≡◌, sym, ap, ◌∙◌}
use mathlib.Core.Bool.{Bool, not, ◌&&◌, ◌||◌}
use lib.Dec.{eqb}
use Rattle.packet.proofs.RulesLaws.{passed, stopped, rule_number_message}
use Rattle.packet.proofs.message_rules.Goals as goal

-- the tests of rules 4 and 5, with the definitions in place of the calls' answers
four : {a b : Bool} (h : Head) (tail : ℕ) → a ≡ b
    → not (eqb h.at 0) || a && not (eqb (tail % 4) 0) ≡ not (eqb h.at 0) || b && not (eqb (tail % 4) 0)
four h tail e = ap (λ (a : Bool). not (eqb h.at 0) || a && not (eqb (tail % 4) 0)) e

five : {a b : Bool} (h : Head) → a ≡ b → a && not (eqb h.length 0) ≡ b && not (eqb h.length 0)
five h e = ap (λ (a : Bool). a && not (eqb h.length 0)) e

pub returns-then-h-is_by_address : goal.returns-then-h-is_by_address
returns-then-h-is_by_address c = λ code.
    sym (rule_number_message _ _ _ code _ ∙ stopped _ (four c.args.h c.args.tail c.is_by_address.ensures) c.if-h-is_by_address.true)

pub returns-then-is_without_data-h : goal.returns-then-is_without_data-h
returns-then-is_without_data-h c = λ code.
    sym (rule_number_message _ _ _ code _
    ∙ passed 4 (four c.args.h c.args.tail c.is_by_address.ensures) c.if-h-is_by_address.false
    ∙ stopped _ (five c.args.h c.is_without_data.ensures) c.if-is_without_data-h.true)

pub returns : goal.returns
returns c = λ code.
    sym (rule_number_message _ _ _ code _
    ∙ passed 4 (four c.args.h c.args.tail c.is_by_address.ensures) c.if-h-is_by_address.false
    ∙ passed 5 (five c.args.h c.is_without_data.ensures) c.if-is_without_data-h.false)
