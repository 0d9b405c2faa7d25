-- `audit_where::first_outside`: the loop over the ranges. Invariant: the first from index i on that lies in none above is the first of all.
-- Assumes nothing.
use mathlib.Core.Bool.{not}
use mathlib.Core.Path.{refl, sym, ap, ◌∙◌}
use Rattle.std.proofs.Common.{Some}
use Prim.Native.Nat.{ℕ}
use Rattle.sheet_record.specs.Entry.{entry_of}
use Rattle.audit_rule.specs.declared.Nesting.TheVariants.{OfKind}
use Rattle.audit_rule.specs.Audit.{outside_all}
use Rattle.sheet_ranges.specs.Items.{ranges_in}
use Rattle.finding.specs.Places.{right, wrong_at, nobody}
use Rattle.range_place.specs.TurnsLaws.{turn_start, turn_past, turn_hit, turn_miss}
use Rattle.audit_where.proofs.first_outside.Goals as goal

pub loop-i-init : goal.loop-i-init
loop-i-init c = λ number. turn_start (record { number = number; entry = entry_of c.args.part.now }) _ _ c.requires.4
    (λ q. outside_all OfKind (ranges_in c.args.m c.args.above.now) q.range) (λ q. wrong_at q.place nobody) right

pub returns-then-not-is_inside_any : goal.returns-then-not-is_inside_any
returns-then-not-is_inside_any c = λ number.
    ap Some c.at.ensures ∙ ap (λ (p : ℕ). wrong_at p nobody) c.place_of.ensures
    ∙ sym (turn_hit (record { number = number; entry = entry_of c.args.part.now }) _ _ c.requires.4
    (λ q. outside_all OfKind (ranges_in c.args.m c.args.above.now) q.range) (λ q. wrong_at q.place nobody) right _ c.loop-i-test.true _
    c.item_at.ensures _ refl (ap not (sym c.is_inside_any.ensures) ∙ (ap not c.if-not-is_inside_any.true)))
    ∙ c.loop-i.invariant number

pub loop-i-preserved : goal.loop-i-preserved
loop-i-preserved c = λ number.
    sym (turn_miss (record { number = number; entry = entry_of c.args.part.now }) _ _ c.requires.4
    (λ q. outside_all OfKind (ranges_in c.args.m c.args.above.now) q.range) (λ q. wrong_at q.place nobody) right _ c.loop-i-test.true _
    c.item_at.ensures _ refl (ap not (sym c.is_inside_any.ensures) ∙ (ap not c.if-not-is_inside_any.false)))
    ∙ c.loop-i.invariant number

pub returns : goal.returns
returns c = λ number.
    sym (turn_past (record { number = number; entry = entry_of c.args.part.now }) _ _ c.requires.4
    (λ q. outside_all OfKind (ranges_in c.args.m c.args.above.now) q.range) (λ q. wrong_at q.place nobody) right _ c.loop-i-test.false)
    ∙ c.loop-i.invariant number
