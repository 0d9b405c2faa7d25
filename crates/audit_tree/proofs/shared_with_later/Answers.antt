-- `audit_tree::shared_with_later` meets its contract. Invariant: whether one of the records that are left shares a bus with this one is
-- whether one of all after it does. Assumes nothing.
use mathlib.Core.Path.{◌≡◌, sym, ap, ◌∙◌}
use mathlib.Core.List.{List}
use Prim.Native.Nat.{ℕ, ◌<◌}
use native.Mathlib.Omega.{arith}
use lib.ListN.{length}
use Rattle.lists.specs.Lists.{any}
use Rattle.sheet_record.specs.Places.{record_size}
use Rattle.sheet_record.specs.Entry.{Entry, entry_of}
use Rattle.sheet.specs.Sheet.{entries_of, part_at}
use Rattle.sheet.proofs.IndexLaws.{record_fits, length_part}
use Rattle.audit_rule.specs.Audit.{buses_shared}
use Rattle.audit_rule.proofs.PassLaws.{any_past, any_hit, any_miss}
use Rattle.audit_tree.specs.TreeLaws.{shared_none}
use Rattle.audit_tree.proofs.shared_with_later.Goals as goal
use Rattle.audit_tree.proofs.shared_with_later.Goals.{After-part-part, In-loop-j}

-- the part that was taken is the record's
same : (c : After-part-part) (es : List Entry)
    → any (buses_shared (entry_of c.part-part.result.now)) es
    ≡ any (buses_shared (entry_of (part_at c.args.sheet.now c.args.k))) es
same c es = ap (λ (p : List ℕ). any (buses_shared (entry_of p)) es) c.part-part.ensures

sized : (c : After-part-part) → length c.part-part.result.now ≡ record_size
sized c = ap length c.part-part.ensures ∙ length_part _ _ (record_fits _ c.requires.0 _ c.requires.1)

-- the record of this turn
here : (c : In-loop-j)
    → c.loop-j.j < length (entries_of c.args.sheet.now)
here c = omega (arith, c.loop-j-test.true, c.count-j-end.ensures)

pub part-part-requires : goal.part-part-requires
part-part-requires c = record_fits _ c.requires.0 _ c.requires.1

pub is_bridge-requires : goal.is_bridge-requires
is_bridge-requires c = sized (goal.at.is_bridge-requires c).After-part-part

pub returns-then-not-is_bridge : goal.returns-then-not-is_bridge
returns-then-not-is_bridge c = sym (shared_none _ (sym c.is_bridge.ensures ∙ c.if-not-is_bridge.true) _) ∙ same (goal.at.returns-then-not-is_bridge c).After-part-part _

pub loop-j-init : goal.loop-j-init
loop-j-init c = same (goal.at.loop-j-init c).After-part-part _

pub part-requires : goal.part-requires
part-requires c = record_fits _ c.requires.0 _ (here (goal.at.part-requires c).In-loop-j)

pub buses_shared-requires : goal.buses_shared-requires
buses_shared-requires c = let fits = record_fits _ c.requires.0 _ (here (goal.at.buses_shared-requires c).In-loop-j) in
    (sized (goal.at.buses_shared-requires c).After-part-part, ap length c.part.ensures ∙ length_part _ _ fits)

pub returns-then-buses_shared : goal.returns-then-buses_shared
returns-then-buses_shared c = sym (any_hit _ c.requires.0 _ _ c.count-j-end.ensures c.loop-j-test.true _ _ c.part.ensures
    (sym c.buses_shared.ensures ∙ c.if-buses_shared.true))
    ∙ c.loop-j.invariant

pub loop-j-preserved : goal.loop-j-preserved
loop-j-preserved c = sym (any_miss _ c.requires.0 _ _ c.count-j-end.ensures c.loop-j-test.true _ _ c.part.ensures
    (sym c.buses_shared.ensures ∙ c.if-buses_shared.false))
    ∙ c.loop-j.invariant

pub returns : goal.returns
returns c = sym (any_past _ c.requires.0 _ _ c.count-j-end.ensures c.loop-j-test.false _) ∙ c.loop-j.invariant
