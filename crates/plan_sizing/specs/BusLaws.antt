-- The loop over the functions of a bus: it starts, a child is one turn, and where no child comes next the bus is done. Assumes nothing.
use Rattle.std.specs.Prelude.{◌≡◌, refl, ◌⊎◌, true, false, List, ℕ, ◌*◌, ◌≤◌, ◌<◌, eqb, ltb, length, get_or}
use Rattle.std.proofs.Common.{sym, ap, ◌∙◌, inl, inr, ⊎_elim, arith, drop_of_length-le, ltb-true, lt-ltb, eqb-true}
use Rattle.std.proofs.lemmas.List.Edits.{sets}
use Rattle.std.proofs.Math.Seq.{length-sets}
use Rattle.std.proofs.lemmas.Bool.{eqb-false}
use Rattle.arith.specs.Order.{le_or_lt}
use Rattle.arith.specs.BoolLaws.{both_of_and}
use Rattle.plan_rule.specs.Records.{Function, Lawful}
use Rattle.plan_rule.proofs.RecordLaws.{IsAt}
use Rattle.plan_rule.specs.Sizing.{bus_laid, function_laid}
use Rattle.plan_rule.proofs.SizingLaws.{bus_laid_end, bus_laid_stop, ready_next, next_lt, function_next_le}
use Rattle.plan_rule.proofs.CapLaws.{bus_laid_turn}
use Rattle.plan_sizing.specs.declared.Laid.{Laid}
use Rattle.plan_sizing.specs.Functions.{functions_in, function_at}
use Rattle.plan_sizing.specs.FunctionsLaws.{functions_sized, length_functions, functions_at_lem}
use Rattle.plan_sizing.specs.Cut.{says, cut}
use Rattle.plan_sizing.specs.CutLaws.{says_of_cut, cut_of_capped, whole_of_cut}
use Rattle.plan_sizing.specs.Memo.{memo_between}
use Rattle.plan_sizing.specs.MemoLaws.{memo_between_none, memo_walked}
use Rattle.plan_sizing.specs.Board.{Board, is_child, Standing, BusSized, FunctionSized, OnBus}

child_of : (ps : List ℕ) (i b : ℕ) → is_child ps i b ≡ true → (i < length ps) × (get_or ps i 0 ≡ b)
child_of ps i b e =
    let h = both_of_and (ltb i (length ps)) (eqb (get_or ps i 0) b) e in (ltb-true i (length ps) h.0, eqb-true (get_or ps i 0) b h.1)

not_child : (ps : List ℕ) (i b : ℕ) → is_child ps i b ≡ false → (length ps ≤ i) ⊎ ((i < length ps) × (get_or ps i 0 ≡ b → ⊥))
not_child ps i b e =
    ⊎_elim (λ (h : length ps ≤ i). inl h) (λ (h : i < length ps). inr (h, eqb-false (get_or ps i 0) b (rw (lt-ltb i (length ps) h) at e)))
    (le_or_lt (length ps) i)

pub lawful_of_board : {ps hs ss : List ℕ} → Board ps hs ss → Lawful (functions_in ps hs ss)
lawful_of_board {ps} {hs} {ss} b = record { ordered = b.ordered; sized = functions_sized ps hs ss }

pub on_bus_start : {ps hs ss memo : List ℕ} {b d : ℕ} {l : Laid} → Standing ps hs ss memo b d l → OnBus ps hs ss memo memo b d l l
on_bus_start {ps} {hs} {ss} {memo} {b} {d} {l} s =
    record {
      standing = s;
      from = omega arith;
      same = refl;
      stored = ap (sets memo (7 * l.next)) (sym (memo_between_none (functions_in ps hs ss) l.next));
    }

module _ {ps hs ss memo memo' : List ℕ} {b d : ℕ} {start l : Laid} (on : OnBus ps hs ss memo memo' b d start l) where
  abbrev fs : List Function
  fs = functions_in ps hs ss

  abbrev f : Function
  f = function_at ps hs ss l.next

  lawful : Lawful fs
  lawful = lawful_of_board on.standing.board

  count : length fs ≡ length ps
  count = length_functions ps hs ss

  pub on_bus_length : length memo' ≡ length memo
  on_bus_length = ap length on.stored ∙ length-sets memo (7 * start.next) (memo_between fs start.next l.next)

  -- where no child comes next, the bus is done
  pub on_bus_end : is_child ps l.next b ≡ false → BusSized ps hs ss memo memo' b start l
  on_bus_end e = record { laid = sym on.standing.whole ∙ ap cut (sym stops) ∙ on.same; stored = on.stored }
    where
      stops : bus_laid fs b (says l) ≡ says l
      stops =
          ⊎_elim
          (λ h. bus_laid_end fs lawful b (says l) (drop_of_length-le fs {i = l.next} (omega (arith, count))))
          (λ h. bus_laid_stop fs lawful b (says l) f on.standing.ready (functions_at_lem ps hs ss l.next h.0) h.1)
          (not_child ps l.next b e)

  module _ (e : is_child ps l.next b ≡ true) where
    pub child_within : l.next < length ps
    child_within = (child_of ps l.next b e).0

    parent : f.parent ≡ b
    parent = (child_of ps l.next b e).1

    at : IsAt fs l.next f
    at = functions_at_lem ps hs ss l.next child_within

    -- a child's own walk stands where the bus's does
    pub child_standing : Standing ps hs ss memo' (get_or ps l.next 0) d l
    child_standing = rw parent on.standing

    module _ {memo'' : List ℕ} {r : Laid} (w : FunctionSized ps hs ss memo' memo'' l r) where
      next : r.next ≡ (function_laid fs f (says l)).next
      next = ap (λ (x : Laid). x.next) w.laid

      -- it goes on by a record at least
      pub lt_next_of_turn : l.next < r.next
      lt_next_of_turn = omega (arith, next, next_lt fs lawful (says l) f)

      pub on_bus_turn : OnBus ps hs ss memo memo'' b d start r
      on_bus_turn =
          record {
            standing =
                record {
                  board = on.standing.board;
                  room = omega (
                    arith,
                    on.standing.room,
                    ap length w.stored
                        ∙ length-sets memo' (7 * l.next) (memo_between fs l.next r.next),
                  );
                  whole = whole_of_cut r (function_laid fs f (says l)) w.laid;
                  within = omega (arith, next, function_next_le fs lawful (says l) f (omega (arith, child_within, count)), count);
                  deep = on.standing.deep;
                  ready = rw next (ready_next fs lawful b (says l) f on.standing.ready at parent);
                };
            from = omega (arith, on.from, lt_next_of_turn);
            same =
                cut_of_capped (bus_laid fs b (says r)) (bus_laid fs b (says l))
                (bus_laid_turn fs lawful b (says l) (says r) f on.standing.ready at parent
                (says_of_cut r (function_laid fs f (says l)) w.laid))
                ∙ on.same;
            stored =
                memo_walked fs memo start.next l.next r.next on.from (omega (arith, lt_next_of_turn))
                (omega (arith, child_within, count))
                on.stored
                w.stored;
          }
