-- The passes over a board's records by the place of the cursor, one law for each thing that can stand there. Assumes nothing.
use Rattle.std.specs.Prelude.{◌≡◌, true, false, not, List, [], ℕ, suc, ◌+◌, length, take, drop}
use Rattle.std.proofs.Common.{sym, ◌∙◌, ne_eqb}
use Rattle.std.proofs.Math.Path.{ap}
use Rattle.std.proofs.Math.Bool.{or-true}
use Rattle.records.specs.declared.Next.TheVariants.{End, Record, Broken}
use Rattle.records.specs.Records.{next_of, Parts, parts_of, parts_from, any_part}
use Rattle.records.specs.RecordsLaws.{parts_record, parts_end, parts_broken, pass_record}
use Rattle.board_record.specs.declared.Function.{Function}
use Rattle.board_record.specs.declared.Rule.{Rule}
use Rattle.board_record.specs.Rules.{breaks}
use Rattle.board_order.specs.Order.{any_misplaced, first_misplaced}
use Rattle.board_order.specs.OrderLaws.{any_misplaced_agree}
use Rattle.board.specs.Pass.{any_breaks}

-- ---- a pass that asks one rule of each function

module _ (rule : Rule) (s : List ℕ) (at : ℕ) where
  pub breaks_end : next_of (drop at s) ≡ End → any_breaks rule (parts_of (drop at s)) ≡ false
  unfolding any_part
  breaks_end e = ap (any_breaks rule) (parts_end s at e)

  pub breaks_broken : next_of (drop at s) ≡ Broken → any_breaks rule (parts_of (drop at s)) ≡ true
  breaks_broken e = ap (any_breaks rule) (parts_broken s at e)

  pub breaks_hit : (n : ℕ) → next_of (drop at s) ≡ Record n → breaks rule (take n (drop (at + 2) s)) ≡ true
      → any_breaks rule (parts_of (drop at s)) ≡ true
  unfolding any_part
  breaks_hit n e h = ap (any_breaks rule) (parts_record s at n e) ∙ rw h (or-true (not (parts_of (drop (at + 2 + n) s)).whole))

  pub breaks_miss : (n : ℕ) → next_of (drop at s) ≡ Record n → breaks rule (take n (drop (at + 2) s)) ≡ false
      → any_breaks rule (parts_of (drop at s)) ≡ any_breaks rule (parts_of (drop (at + 2 + n) s))
  unfolding any_part
  breaks_miss n e h = ap (any_breaks rule) (parts_record s at n e) ∙ rw h

-- ---- 22

module _ (s : List ℕ) (at : ℕ) where
  pub length_record : (n : ℕ) → next_of (drop at s) ≡ Record n → length (parts_from s at) ≡ suc (length (parts_from s (at + 2 + n)))
  length_record n e = pass_record length s at n e

  pub length_end : next_of (drop at s) ≡ End → length (parts_from s at) ≡ 0
  length_end e = ap (λ (r : Parts). length r.parts) (parts_end s at e)

  pub length_broken : next_of (drop at s) ≡ Broken → length (parts_from s at) ≡ 0
  length_broken e = ap (λ (r : Parts). length r.parts) (parts_broken s at e)

-- ---- 23 by the first that is misplaced: k is its number, 0 where none is

module _ (fs : List Function) (k : ℕ) (first : k ≡ first_misplaced 0 [] fs) where
  pub none_misplaced : k ≡ 0 → any_misplaced 0 [] fs ≡ false
  none_misplaced z = any_misplaced_agree 0 [] fs ∙ rw (sym first ∙ z)

  pub some_misplaced : (k ≡ 0 → ⊥) → any_misplaced 0 [] fs ≡ true
  some_misplaced d = any_misplaced_agree 0 [] fs ∙ rw (← first, ne_eqb k 0 d)
