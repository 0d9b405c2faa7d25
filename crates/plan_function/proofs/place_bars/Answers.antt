-- `place_bars` meets its contract. The loop's invariant is `Placing`: what is stored, with what the slots from i on come to from the
-- cursors at i, is the answer. The measure is what is left of the first n read-backs. Assumes nothing.
use borrow.Author.Rules.{rules}
use mathlib.Core.Path.{◌≡◌, refl, sym, subst, ◌∙◌}
use native.Mathlib.Omega.{arith}
use lib.ListN.{length}
use Rattle.bar.specs.Bar.{SizedSlot}
use Rattle.bar.specs.BarLaws.{sized_wide, sized_narrow, sized_here, slot_of_pair, slot_of_single, pair_span, single_span, here_span}
use Rattle.plan_function.specs.Kept.{ends_of}
use Rattle.plan_function.proofs.KeptLaws.{placing_start, placing_step, placing_skip, placing_end, not_bad, span_le}
use Rattle.plan_function.proofs.KeptLaws.{kept_kept, bars_placed_kept}
use Rattle.plan_function.proofs.place_bars.Goals as goal

-- src/lib.rt:65:5
pub loop-i-init : goal.loop-i-init
loop-i-init c = placing_start _ _ _ _ c.requires.1 (kept_kept _ (ends_of c.args.c) c.kept-at.ensures)

-- src/lib.rt:65:5
pub loop-i-preserved-then-r-eq0 : goal.loop-i-preserved-then-r-eq0
loop-i-preserved-then-r-eq0 c = let six : length c.args.set ≡ 6 = search rules in
    placing_skip c.args.set c.args.n (ends_of c.kept-at.result) c.loop-i.values c.loop-i.at c.loop-i.i c.loop-i.invariant c.loop-i-test.true c.requires.0 six
    c.if-r-eq0.true

-- src/lib.rt:73:41
pub bar_start-requires : goal.bar_start-requires
bar_start-requires c = subst SizedSlot (sym c.wide_slot-x.ensures) (sized_wide _ _)

-- src/lib.rt:75:13
pub after_bar-at-requires : goal.after_bar-at-requires
after_bar-at-requires c = (subst SizedSlot (sym c.wide_slot-x.ensures) (sized_wide _ _), c.loop-i.invariant.kept)

-- src/lib.rt:65:5
pub loop-i-preserved-then-is_paired : goal.loop-i-preserved-then-is_paired
loop-i-preserved-then-is_paired c = let six : length c.args.set ≡ 6 = search rules in
    let e = slot_of_pair c.args.set c.args.n c.args.n c.loop-i.i _ _ _ _ six (omega (arith, c.requires.0)) c.loop-i-test.true refl refl c.is_paired.ensures.0
    (c.is_paired.ensures.1 c.if-is_paired.true) c.if-is_paired.true c.wide_slot-x.ensures in
    let good = not_bad c.args.set c.args.n (ends_of c.kept-at.result) c.loop-i.values c.loop-i.at c.loop-i.i c.loop-i.invariant c.loop-i-test.true c.requires.0 six c.wide_slot-x.result e in
    rw (sym (pair_span _ _ _ c.wide_slot-x.ensures good))
    (placing_step c.args.set c.args.n (ends_of c.kept-at.result) c.loop-i.values c.loop-i.at c.loop-i.i c.loop-i.invariant c.loop-i-test.true c.requires.0 six
    c.wide_slot-x.result e c.bar_start.result c.value_of-v.result c.put_registers.new.values
    c.after_bar-at.result
    c.bar_start.ensures.0 c.value_of-v.ensures c.put_registers.ensures c.after_bar-at.ensures)

-- src/lib.rt:81:41
pub bar_start-requires-then-is_memory : goal.bar_start-requires-then-is_memory
bar_start-requires-then-is_memory c = subst SizedSlot (sym c.narrow_slot-x.ensures) (sized_narrow _)

-- src/lib.rt:82:13
pub put_registers-requires-then-is_memory : goal.put_registers-requires-then-is_memory
put_registers-requires-then-is_memory c = let six : length c.args.set ≡ 6 = search rules in
    let e = slot_of_single c.args.set c.args.n c.args.n c.loop-i.i _ _ _ six (omega (arith, c.requires.0)) c.loop-i-test.true refl
    c.is_paired.ensures.0 c.if-is_paired.false c.narrow_slot-x.ensures in
    let below = span_le c.args.set c.args.n (ends_of c.kept-at.result) c.loop-i.values c.loop-i.at c.loop-i.i c.loop-i.invariant c.loop-i-test.true c.requires.0
    six c.narrow_slot-x.result e in
    omega (arith, c.loop-i.invariant.six, c.requires.0, below)

-- src/lib.rt:83:13
pub after_bar-at-requires-then-is_memory : goal.after_bar-at-requires-then-is_memory
after_bar-at-requires-then-is_memory c = (subst SizedSlot (sym c.narrow_slot-x.ensures) (sized_narrow _), c.loop-i.invariant.kept)

-- src/lib.rt:65:5
pub loop-i-preserved-then-is_memory : goal.loop-i-preserved-then-is_memory
loop-i-preserved-then-is_memory c = let six : length c.args.set ≡ 6 = search rules in
    let e = slot_of_single c.args.set c.args.n c.args.n c.loop-i.i _ _ _ six (omega (arith, c.requires.0)) c.loop-i-test.true refl
    c.is_paired.ensures.0 c.if-is_paired.false c.narrow_slot-x.ensures in
    rw (sym (single_span _ _ c.narrow_slot-x.ensures))
    (placing_step c.args.set c.args.n (ends_of c.kept-at.result) c.loop-i.values c.loop-i.at c.loop-i.i c.loop-i.invariant c.loop-i-test.true c.requires.0 six
    c.narrow_slot-x.result e c.bar_start-then-is_memory.result c.value_of-v-then-is_memory.result c.put_registers-then-is_memory.new.values
    c.after_bar-at-then-is_memory.result
    c.bar_start-then-is_memory.ensures.0 c.value_of-v-then-is_memory.ensures c.put_registers-then-is_memory.ensures c.after_bar-at-then-is_memory.ensures)

-- src/lib.rt:88:37
pub bar_start-requires-in-loop-i : goal.bar_start-requires-in-loop-i
bar_start-requires-in-loop-i c = subst SizedSlot (sym c.slot_at-x.ensures) (sized_here _)

-- src/lib.rt:89:9
pub put_registers-requires-in-loop-i : goal.put_registers-requires-in-loop-i
put_registers-requires-in-loop-i c = let six : length c.args.set ≡ 6 = search rules in
    let below = span_le c.args.set c.args.n (ends_of c.kept-at.result) c.loop-i.values c.loop-i.at c.loop-i.i c.loop-i.invariant c.loop-i-test.true c.requires.0
    six c.slot_at-x.result c.slot_at-x.ensures in
    omega (arith, c.loop-i.invariant.six, c.requires.0, below)

-- src/lib.rt:90:9
pub after_bar-at-requires-in-loop-i : goal.after_bar-at-requires-in-loop-i
after_bar-at-requires-in-loop-i c = (subst SizedSlot (sym c.slot_at-x.ensures) (sized_here _), c.loop-i.invariant.kept)

-- src/lib.rt:65:5
pub loop-i-preserved : goal.loop-i-preserved
loop-i-preserved c = let six : length c.args.set ≡ 6 = search rules in
    let one = here_span c.args.set c.args.n c.args.n c.loop-i.i _ _ _ six (omega (arith, c.requires.0)) c.loop-i-test.true refl c.is_paired.ensures.0
    c.if-is_paired.false c.slot_at-x.ensures in
    rw (sym one)
    (placing_step c.args.set c.args.n (ends_of c.kept-at.result) c.loop-i.values c.loop-i.at c.loop-i.i c.loop-i.invariant c.loop-i-test.true c.requires.0 six
    c.slot_at-x.result c.slot_at-x.ensures c.bar_start-in-loop-i.result c.value_of-v-in-loop-i.result c.put_registers-in-loop-i.new.values
    c.after_bar-at-in-loop-i.result
    c.bar_start-in-loop-i.ensures.0 c.value_of-v-in-loop-i.ensures c.put_registers-in-loop-i.ensures c.after_bar-at-in-loop-i.ensures)

-- src/lib.rt:58:1
pub returns : goal.returns
returns c = placing_end _ _ _ _ _ _ c.loop-i.invariant c.loop-i-test.false ∙ bars_placed_kept _ _ _ _ c.kept-at.ensures
