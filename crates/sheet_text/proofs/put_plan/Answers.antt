-- `sheet_text::put_plan` meets its contract. Invariant: after the count, the lines of the records that were passed are put. Assumes
-- nothing.
use Prim.Native.Nat.{ℕ, ◌<◌}
use native.Mathlib.Omega.{arith}
use mathlib.Core.Path.{◌≡◌, ap, subst, ◌∙◌}
use mathlib.Core.List.{flat_map}
use lib.ListN.{length, take}
use lib.Seq.{take_all}
use Rattle.text.specs.TextLaws.{put_append}
use Rattle.sheet.specs.Sheet.{entries_of}
use Rattle.sheet.proofs.IndexLaws.{record_fits, length_part}
use Rattle.sheet_text.specs.Listing.{plan_text}
use Rattle.sheet_text.proofs.ListingLaws.{lines_index, put_nothing}
use Rattle.sheet_text.proofs.put_plan.Goals as goal
use Rattle.sheet_text.proofs.put_plan.Goals.{In-loop-k}

-- the record at the cursor
here : (c : In-loop-k) → c.loop-k.k < length
    (entries_of c.args.sheet.now)
here c =
    subst (λ (n : ℕ). c.loop-k.k < n) c.count-count.ensures c.loop-k-test.true

pub loop-k-init : goal.loop-k-init
unfolding flat_map
loop-k-init c = put_nothing c.put_count-next.ensures

pub part-requires : goal.part-requires
part-requires c = record_fits _ c.requires _ (here (goal.at.part-requires c).In-loop-k)

pub put_record-next-requires : goal.put_record-next-requires
put_record-next-requires c = ap length c.part.ensures ∙ length_part _ _ (record_fits _ c.requires _ (here (goal.at.put_record-next-requires c).In-loop-k))

pub loop-k-preserved : goal.loop-k-preserved
loop-k-preserved c = rw (lines_index _ _ c.requires (here (goal.at.loop-k-preserved c).In-loop-k), ← c.part.ensures)
    (put_append c.loop-k.invariant c.put_record-next.ensures)

pub returns : goal.returns
unfolding plan_text
returns c = let es = entries_of c.args.sheet.now in
    let all : take c.loop-k.k es ≡ es = take_all c.loop-k.k es (omega (arith, c.count-count.ensures, c.loop-k-test.false)) in
    rw (← c.count-count.ensures) (put_append c.put_count-next.ensures (rw all at c.loop-k.invariant))
