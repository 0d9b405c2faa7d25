-- `overlap_where::first_met`: the loop over the ranges. Invariant: the first from index i on that is met is the first of all. Assumes
-- nothing.
use mathlib.Core.Path.{refl, sym, ap, ◌∙◌}
use Rattle.std.proofs.Common.{Some}
use Prim.Native.Nat.{ℕ}
use Rattle.sheet_record.specs.Entry.{entry_of}
use Rattle.sheet_ranges.specs.Items.{range_of}
use Rattle.finding.specs.Places.{right, wrong_at, nobody}
use Rattle.range_place.specs.TurnsLaws.{turn_start, turn_past, turn_hit, turn_miss}
use Rattle.overlap_where.specs.Meeting.{meets_here}
use Rattle.overlap_where.proofs.first_met.Goals as goal

pub loop-i-init : goal.loop-i-init
loop-i-init c = λ number. turn_start (record { number = number; entry = entry_of c.args.part.now }) _ _ c.requires.3 (λ q. meets_here (range_of c.args.x)
    c.args.same c.args.place q.place q.range) (λ q. wrong_at q.place nobody) right

pub returns-then-meets_here : goal.returns-then-meets_here
returns-then-meets_here c = λ number.
    ap Some c.at.ensures ∙ ap (λ (p : ℕ). wrong_at p nobody) c.place_of.ensures
    ∙ sym (turn_hit (record { number = number; entry = entry_of c.args.part.now }) _ _ c.requires.3 (λ q. meets_here (range_of c.args.x)
    c.args.same c.args.place q.place q.range) (λ q. wrong_at q.place nobody) right _ c.loop-i-test.true _
    c.item_at.ensures _ refl (sym c.meets_here.ensures ∙ c.if-meets_here.true))
    ∙ c.loop-i.invariant number

pub loop-i-preserved : goal.loop-i-preserved
loop-i-preserved c = λ number.
    sym (turn_miss (record { number = number; entry = entry_of c.args.part.now }) _ _ c.requires.3 (λ q. meets_here (range_of c.args.x)
    c.args.same c.args.place q.place q.range) (λ q. wrong_at q.place nobody) right _ c.loop-i-test.true _
    c.item_at.ensures _ refl (sym c.meets_here.ensures ∙ c.if-meets_here.false))
    ∙ c.loop-i.invariant number

pub returns : goal.returns
returns c = λ number.
    sym (turn_past (record { number = number; entry = entry_of c.args.part.now }) _ _ c.requires.3 (λ q. meets_here (range_of c.args.x)
    c.args.same c.args.place q.place q.range) (λ q. wrong_at q.place nobody) right _ c.loop-i-test.false)
    ∙ c.loop-i.invariant number
