-- A pass over a framed sheet's records, by their index from 0, in the words of the code: whether some record passes a test, or some two do.
-- Assumes nothing.
use Rattle.std.specs.Prelude.{◌≡◌, Bool, true, false, List, [], ◌∷◌, ℕ, ◌+◌, ◌≤◌, ◌<◌, length}
use Rattle.std.proofs.Math.Path.{ap}
use Rattle.std.proofs.Common.{◌∙◌, arith}
use Rattle.lists.specs.Lists.{any}
use Rattle.sheet_record.specs.Entry.{Entry, entry_of}
use Rattle.sheet.specs.Sheet.{Framed, entries_from, entries_of, part_at, record_at}
use Rattle.sheet.proofs.CheckLaws.{count_entries, entries_past}
use Rattle.sheet.proofs.IndexLaws.{entries_index}
use Rattle.audit_rule.specs.Audit.{any_pair}

-- n records in all, and those from k on are left
module _ (s : List ℕ) (f : Framed 1 s) (n k : ℕ) (count : n ≡ length (entries_of s)) where
  module _ (h : n ≤ k) where
    past : entries_from s (record_at k) ≡ []
    past = entries_past s (record_at k) (omega (arith, count_entries s f))

    pub any_past : (t : Entry → Bool) → any t (entries_from s (record_at k)) ≡ false
    unfolding any
    any_past t = ap (any t) past

    pub pair_past : (t : Entry → Entry → Bool) → any_pair t (entries_from s (record_at k)) ≡ false
    unfolding any_pair
    pair_past t = ap (any_pair t) past

  module _ (h : k < n) where
    left : entries_from s (record_at k) ≡ entry_of (part_at s k) ∷ entries_from s (record_at (k + 1))
    left = entries_index s f k (omega (arith, count))

    module _ (t : Entry → Bool) (p : List ℕ) (is : p ≡ part_at s k) where
      pub any_hit : t (entry_of p) ≡ true → any t (entries_from s (record_at k)) ≡ true
      unfolding any
      any_hit e = ap (any t) left ∙ rw (← is, e)

      pub any_miss : t (entry_of p) ≡ false → any t (entries_from s (record_at k)) ≡ any t (entries_from s (record_at (k + 1)))
      unfolding any
      any_miss e = ap (any t) left ∙ rw (← is, e)

    module _ (t : Entry → Entry → Bool) where
      -- the record, and a later one
      pub pair_hit : any (t (entry_of (part_at s k))) (entries_from s (record_at (k + 1))) ≡ true
          → any_pair t (entries_from s (record_at k)) ≡ true
      unfolding any_pair
      pair_hit e = ap (any_pair t) left ∙ rw e

      pub pair_miss : any (t (entry_of (part_at s k))) (entries_from s (record_at (k + 1))) ≡ false
          → any_pair t (entries_from s (record_at k)) ≡ any_pair t (entries_from s (record_at (k + 1)))
      unfolding any_pair
      pair_miss e = ap (any_pair t) left ∙ rw e
