-- `bar::values_lawful`: the loop. Invariant: the values are lawful from i on just where they all are.
-- Measure: the places left of six. Assumes nothing.
use mathlib.Core.Path.{◌≡◌, refl, sym, ap, ◌∙◌, subst}
use Prim.Native.Nat.{ℕ, ◌+◌}
use native.Mathlib.Omega.{arith}
use borrow.Author.Rules.{rules}
use lib.ListN.{length, take}
use Rattle.bar.specs.Bar.{SizedSlot}
use Rattle.bar.specs.BarLaws.{sized_here, length_first}
use Rattle.bar.specs.ValuesLaws.{values_from, values_off, values_on, values_from_end}
use Rattle.bar.proofs.values_lawful.Goals as goal

pub loop-i-init : goal.loop-i-init
loop-i-init c = refl

pub value_in-v-requires : goal.value_in-v-requires
value_in-v-requires c = omega arith

pub bounds-set-i : goal.bounds-set-i
bounds-set-i c = omega arith

pub is_value-requires : goal.is_value-requires
is_value-requires c = subst SizedSlot (sym c.slot_in-x.ensures) (sized_here _)

pub overflow_add-i : goal.overflow_add-i
overflow_add-i c = omega arith

pub loop-i-smaller : goal.loop-i-smaller
loop-i-smaller c = omega arith

pub loop-i-preserved : goal.loop-i-preserved
loop-i-preserved c = let six : length c.args.set ≡ 6 = search rules in
    ap (λ (k : ℕ). values_from (take c.args.n c.args.set) (take c.args.n c.args.values) (c.loop-i.i + k)) c.span-i.ensures.0
    ∙ values_on c.args.set c.args.values c.args.n c.loop-i.i _ _ _ six (omega arith) c.slot_in-x.ensures c.value_in-v.ensures
    c.is_value.ensures c.if-is_value.true ∙ c.loop-i.invariant

pub returns-else-is_value : goal.returns-else-is_value
returns-else-is_value c = let six : length c.args.set ≡ 6 = search rules in
    sym (values_off c.args.set c.args.values c.args.n c.loop-i.i _ _ _ six (omega arith) c.slot_in-x.ensures c.value_in-v.ensures
    c.is_value.ensures c.if-is_value.false) ∙ c.loop-i.invariant

pub returns : goal.returns
returns c = let six : length c.args.set ≡ 6 = search rules in
    let l = length_first c.args.set c.args.n six in
    sym (values_from_end (take c.args.n c.args.set) (take c.args.n c.args.values) c.loop-i.i (omega arith)) ∙ c.loop-i.invariant
