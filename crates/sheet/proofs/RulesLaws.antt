-- What the checks of a record by itself say of each record of a sheet. Assumes nothing.
use Rattle.std.specs.Prelude.{◌≡◌, false, List, ℕ, zero, suc, ◌+◌, ◌≤◌, ◌<◌, length, take, drop}
use Rattle.std.proofs.Common.{sym, ap, ◌∙◌, arith}
use Rattle.std.proofs.Math.Bool.{and-eq-true_iff}
use Rattle.std.proofs.lemmas.Bool.{not-false}
use Rattle.arith.specs.BoolLaws.{false_of_or}
use Rattle.bar.specs.Bar.{slots, any_bad}
use Rattle.bar.specs.Values.{values_lawful}
use Rattle.bar.specs.ValuesLaws.{lawful_of_values}
use Rattle.sheet.specs.declared.Rule.{Rule}
use Rattle.sheet.specs.declared.Rule.TheVariants.{ReadBacks}
use Rattle.sheet_record.specs.Entry.{slot_count, Entry, entry_of}
use Rattle.sheet.specs.Sheet.{Framed, part_at, entries_from, entries_of, all_zero, read_backs_wrong, breaks, any_breaks, record_at}
use Rattle.sheet_record.specs.Spaces.{slots_of}
use Rattle.sheet.proofs.IndexLaws.{entries_index}

breaks_from : (rule : Rule) (s : List ℕ) (f : Framed 1 s) (k : ℕ) → k < length (entries_of s)
    → any_breaks rule (entries_from s (record_at k)) ≡ false
    → (breaks rule (entry_of (part_at s k)) ≡ false) × (any_breaks rule (entries_from s (record_at (k + 1))) ≡ false)
unfolding any_breaks
breaks_from rule s f k h e = false_of_or _ _ (sym (ap (any_breaks rule) (entries_index s f k h)) ∙ e)

pub breaks_index : (rule : Rule) (s : List ℕ) (f : Framed 1 s) → any_breaks rule (entries_of s) ≡ false → (k : ℕ) → k < length (entries_of s)
    → breaks rule (entry_of (part_at s k)) ≡ false
breaks_index rule s f e k h = (breaks_from rule s f k h (left k (omega arith))).0
  where
    left : (j : ℕ) → j ≤ k → any_breaks rule (entries_from s (record_at j)) ≡ false
    left zero l = e
    left (suc j) l = let i : suc j ≡ j + 1 = omega arith in rw i (breaks_from rule s f j (omega arith) (left j (omega arith))).1

-- the slots of a lawful record are lawful
pub lawful_entry : (e : Entry) → breaks ReadBacks e ≡ false → any_bad (slots_of e) ≡ false
unfolding breaks read_backs_wrong
lawful_entry e w =
    let first = take (slot_count e.header) e.readbacks in
    let rest = drop (slot_count e.header) e.readbacks in
    let both = (and-eq-true_iff (values_lawful first e.values) (all_zero rest)).0 (not-false _ w) in
    lawful_of_values (slots first) first e.values both.0
