-- `bar::is_lawful`: the loop. Invariant: what is left from i on is unlawful just where the whole set is.
-- Measure: the places left of six. Assumes nothing.
use mathlib.Core.Path.{◌≡◌, refl, sym, ap, ◌∙◌}
use mathlib.Core.Bool.{not}
use Prim.Native.Nat.{ℕ, ◌+◌}
use native.Mathlib.Omega.{arith}
use borrow.Author.Rules.{rules}
use lib.ListN.{length, take, drop}
use Rattle.bar.specs.declared.Slot.TheVariants.{Unused}
use Rattle.bar.specs.Bar.{any_bad, slots}
use Rattle.bar.specs.BarLaws.{length_first, any_bad_of_bad, any_bad_step, any_bad_end}
use Rattle.bar.specs.BarLaws.{slot_of_pair, slot_of_single, slot_of_none, pair_span, single_span, here_span}
use Rattle.bar.proofs.is_lawful.Goals as goal

-- src/lib.rt:236:5
pub loop-i-preserved-then-r-eq0 : goal.loop-i-preserved-then-r-eq0
loop-i-preserved-then-r-eq0 c = let six : length c.args.set ≡ 6 = search rules in
    let m = length_first c.args.set c.args.n six in
    any_bad_step (take c.args.n c.args.set) c.loop-i.i Unused (omega arith)
    (slot_of_none c.args.set c.args.n _ c.loop-i.i six c.min-m.ensures c.loop-i-test.true c.if-r-eq0.true) refl ∙ c.loop-i.invariant

-- src/lib.rt:244:17
pub returns-then-is_bad : goal.returns-then-is_bad
returns-then-is_bad c = let six : length c.args.set ≡ 6 = search rules in
    let m = length_first c.args.set c.args.n six in
    let e = slot_of_pair c.args.set c.args.n _ c.loop-i.i _ _ _ _ six c.min-m.ensures c.loop-i-test.true refl refl c.is_paired.ensures.0 (c.is_paired.ensures.1 c.if-is_paired.true) c.if-is_paired.true
    c.wide_slot.ensures in
    ap not (sym (any_bad_of_bad (take c.args.n c.args.set) c.loop-i.i _ (omega arith) e (sym c.is_bad.ensures ∙ c.if-is_bad.true)) ∙ c.loop-i.invariant)

-- src/lib.rt:236:5
pub loop-i-preserved-then-is_paired : goal.loop-i-preserved-then-is_paired
loop-i-preserved-then-is_paired c = let six : length c.args.set ≡ 6 = search rules in
    let m = length_first c.args.set c.args.n six in
    let e = slot_of_pair c.args.set c.args.n _ c.loop-i.i _ _ _ _ six c.min-m.ensures c.loop-i-test.true refl refl c.is_paired.ensures.0 (c.is_paired.ensures.1 c.if-is_paired.true) c.if-is_paired.true c.wide_slot.ensures in
    let good = sym c.is_bad.ensures ∙ c.if-is_bad.false in
    ap (λ (k : ℕ). any_bad (slots (drop (c.loop-i.i + k) (take c.args.n c.args.set)))) (sym (pair_span _ _ _ c.wide_slot.ensures good))
    ∙ any_bad_step (take c.args.n c.args.set) c.loop-i.i _ (omega arith) e good ∙ c.loop-i.invariant

-- src/lib.rt:251:17
pub returns-then-is_bad-2 : goal.returns-then-is_bad-2
returns-then-is_bad-2 c = let six : length c.args.set ≡ 6 = search rules in
    let m = length_first c.args.set c.args.n six in
    let e = slot_of_single c.args.set c.args.n _ c.loop-i.i _ _ _ six c.min-m.ensures c.loop-i-test.true refl c.is_paired.ensures.0
    c.if-is_paired.false c.narrow_slot.ensures in
    ap not (sym (any_bad_of_bad (take c.args.n c.args.set) c.loop-i.i _ (omega arith) e (sym c.is_bad-then-is_memory.ensures ∙ c.if-is_bad-2.true)) ∙ c.loop-i.invariant)

-- src/lib.rt:236:5
pub loop-i-preserved-then-is_memory : goal.loop-i-preserved-then-is_memory
loop-i-preserved-then-is_memory c = let six : length c.args.set ≡ 6 = search rules in
    let m = length_first c.args.set c.args.n six in
    let e = slot_of_single c.args.set c.args.n _ c.loop-i.i _ _ _ six c.min-m.ensures c.loop-i-test.true refl c.is_paired.ensures.0
    c.if-is_paired.false c.narrow_slot.ensures in
    ap (λ (k : ℕ). any_bad (slots (drop (c.loop-i.i + k) (take c.args.n c.args.set)))) (sym (single_span _ _ c.narrow_slot.ensures))
    ∙ any_bad_step (take c.args.n c.args.set) c.loop-i.i _ (omega arith) e (sym c.is_bad-then-is_memory.ensures ∙ c.if-is_bad-2.false) ∙ c.loop-i.invariant

-- src/lib.rt:257:13
pub returns-then-is_bad-3 : goal.returns-then-is_bad-3
returns-then-is_bad-3 c = let six : length c.args.set ≡ 6 = search rules in
    let m = length_first c.args.set c.args.n six in
    ap not
    (sym (any_bad_of_bad (take c.args.n c.args.set) c.loop-i.i _ (omega arith) c.slot_in.ensures (sym c.is_bad-in-loop-i.ensures ∙ c.if-is_bad-3.true))
    ∙ c.loop-i.invariant)

-- src/lib.rt:236:5
pub loop-i-preserved : goal.loop-i-preserved
loop-i-preserved c = let six : length c.args.set ≡ 6 = search rules in
    let m = length_first c.args.set c.args.n six in
    let one = here_span c.args.set c.args.n _ c.loop-i.i _ _ _ six c.min-m.ensures c.loop-i-test.true refl c.is_paired.ensures.0
    c.if-is_paired.false c.slot_in.ensures in
    ap (λ (k : ℕ). any_bad (slots (drop (c.loop-i.i + k) (take c.args.n c.args.set)))) (sym one)
    ∙ any_bad_step (take c.args.n c.args.set) c.loop-i.i _ (omega arith) c.slot_in.ensures (sym c.is_bad-in-loop-i.ensures ∙ c.if-is_bad-3.false) ∙ c.loop-i.invariant

-- src/lib.rt:231:1
pub returns : goal.returns
returns c = let six : length c.args.set ≡ 6 = search rules in
    let l = length_first c.args.set c.args.n six in
    ap not (sym (any_bad_end (take c.args.n c.args.set) c.loop-i.i (omega arith)) ∙ c.loop-i.invariant)
