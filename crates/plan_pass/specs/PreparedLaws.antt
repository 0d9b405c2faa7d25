-- What an accepted board gives of what the placing pass asks. Assumes nothing.
use Rattle.std.specs.Prelude.{◌≡◌, true, false, ℕ, zero, suc, ◌+◌, ◌*◌, ◌%◌, ◌≤◌, ◌<◌, length, get_or, take}
use Rattle.std.proofs.Common.{sym, ap, ◌∙◌, arith}
use mathlib.Core.List.{List, [], ◌∷◌, map, cons≢nil, head-eq_of_cons-eq}
use Rattle.std.proofs.lemmas.List.{length-map}
use Rattle.arith.specs.BoolLaws.{false_of_or}
use Rattle.records.specs.Records.{parts_from}
use Rattle.bar.specs.Bar.{any_bad}
use Rattle.lists.specs.Lists.{any}
use Rattle.plan_rule.specs.Numbering.{bridges, over}
use Rattle.plan_rule.proofs.NumberingLaws.{bridges_split}
use Rattle.plan_rule.proofs.Numbered.{over_le}
use Rattle.board_record.specs.declared.Function.{Function}
use Rattle.board_record.specs.Function.{is_bridge, function_of_part, spare_low, readbacks_wrong}
use Rattle.board_record.specs.FunctionLaws.{length_readbacks}
use Rattle.board_record.specs.Host.{functions_at}
use Rattle.board.specs.Board.{board_number, functions_of}
use Rattle.board.proofs.BoardLaws.{accepted_of_zero}
use Rattle.board.specs.ToPlacing.{to_function, to_placing}
use Rattle.board.proofs.ToPlacingLaws.{lawful_of_accepted}
use Rattle.plan_sizing.specs.Memo.{laid_at, below}
use Rattle.plan_answer.specs.Plan.{slots_of}
use Rattle.plan_pass.specs.StepLaws.{RecordAt, Prepared}

right_at : (fs : List Function) (i : ℕ) (f : Function) → RecordAt fs i f → any readbacks_wrong fs ≡ false → readbacks_wrong f ≡ false
unfolding any
right_at [] zero f e h = absurd (cons≢nil (sym e))
right_at [] (suc i) f e h = absurd (cons≢nil (sym e))
right_at (g ∷ fs) zero f e h = ap readbacks_wrong (sym (head-eq_of_cons-eq e)) ∙ (false_of_or (readbacks_wrong g) (any readbacks_wrong fs) h).0
right_at (g ∷ fs) (suc i) f e h = right_at fs i f e (false_of_or (readbacks_wrong g) (any readbacks_wrong fs) h).1

readable_of_right : (f : Function) → readbacks_wrong f ≡ false → any_bad (slots_of f) ≡ false
unfolding readbacks_wrong
readable_of_right f e = e

six_at : (ls : List (List ℕ)) (i : ℕ) (f : Function) → RecordAt (map function_of_part ls) i f → length f.readbacks ≡ 6
six_at [] zero f e = absurd (cons≢nil (sym e))
six_at [] (suc i) f e = absurd (cons≢nil (sym e))
six_at (p ∷ ls) zero f e = ap (λ (x : Function). length x.readbacks) (sym (head-eq_of_cons-eq e)) ∙ length_readbacks p
six_at (p ∷ ls) (suc i) f e = six_at ls i f e

byte_kept : (n : ℕ) → n < 256 → n % 256 ≡ n
byte_kept n h = omega arith

-- what is left is the arrays' own: the bridges counted, what lies below each bridge, and bus numbers that fit
pub prepared_of_accepted : (b : List ℕ) (first : ℕ) (counts memo : List ℕ) → board_number b ≡ 0
    → first + bridges (to_placing (functions_of b)) < 256
    → 2 * length (functions_of b) + 2 ≤ length counts
    → ((k : ℕ) → k ≤ length (functions_of b) → get_or counts (2 * k) 0 ≡ bridges (take k (to_placing (functions_of b))) % 256)
    → ((k : ℕ) → k ≤ length (functions_of b) → get_or counts (2 * k + 1) 0 ≡ over (to_placing (functions_of b)) k % 256)
    → 7 * length (functions_of b) ≤ length memo
    → ((i : ℕ) (f : Function) → RecordAt (functions_of b) i f → is_bridge f ≡ true → laid_at memo i
    ≡ below (to_placing (functions_of b)) i (spare_low f))
    → Prepared first (functions_of b) counts memo
prepared_of_accepted b first counts memo e numbers counts_room counted spared memo_room stored =
    let a = accepted_of_zero b e in
    let ps = to_placing (functions_of b) in
    let many : length ps ≡ length (functions_of b) = length-map (functions_of b) to_function in
    record {
      lawful = lawful_of_accepted b e;
      readable = λ i f at. readable_of_right f (right_at (functions_of b) i f at a.readbacks);
      six = λ i f at. six_at (parts_from b functions_at) i f (rw (← a.functions_read) at);
      numbers = numbers;
      counts_room = counts_room;
      counted = λ k l. counted k l ∙ byte_kept (bridges (take k ps)) (omega (arith, numbers, bridges_split k ps));
      spared = λ k l.
          spared k l
          ∙ byte_kept (over ps k)
          (omega (arith, numbers, bridges_split k ps, over_le first ps (lawful_of_accepted b e) k (omega (arith, many))));
      memo_room = memo_room;
      stored = stored;
    }
