-- What `failing_of` names: for 24, 23 and 25 a function that fails that check, before which none does, and for 25 its first bad slot; for
-- every other number nobody. Assumes nothing.
use Rattle.std.specs.Prelude.{◌≡◌, Bool, true, false, cond, ◌||◌, ℕ, suc, ◌+◌, ◌≤◌, ◌<◌, min, length, get_or, take}
use Rattle.std.proofs.Math.Path.{refl, ap}
use Rattle.std.proofs.Common.{sym, ap₂, ◌∙◌, arith, length-take, length-append}
use Rattle.std.proofs.lemmas.Bool.{false≢true}
use mathlib.Core.List.{List, [], ◌∷◌, ◌++◌, map, reverse, reverse_aux}
use Rattle.lists.specs.Lists.{All, any}
use Rattle.records.specs.Records.{any_part}
use Rattle.bar.specs.declared.Slot.{Slot}
use Rattle.bar.specs.Bar.{is_bad, any_bad}
use Rattle.bar.specs.BarLaws.{length_slots}
use Rattle.board_record.specs.declared.Function.{Function}
use Rattle.board_record.specs.Function.{function_of_part, is_bridge, slot_count, wrong_in, readbacks_wrong}
use Rattle.board_order.specs.Order.{misplaced, any_misplaced, first_misplaced}
use Rattle.board.specs.Board.{board_number, host_of, functions_of}
use Rattle.finding.specs.Places.{function_id, nobody}
use Rattle.finding.specs.FirstLaws.{FirstOf, first_of_any}
use Rattle.board_where.specs.Where.{first_from, party_of, slots_of, bad_slot, function_parts, failing_of}
use Rattle.board_where.specs.NumberLaws.{framed_of_number, header_of_24, order_of_number, misplaced_of_23, readbacks_of_25}
use Rattle.board_where.specs.NumberLaws.{failing_24, failing_23, failing_25, failing_other}

-- ## The first of a list, by its number

module _ {A B : Type 0} (t : A → Bool) (say : ℕ → A → B) (e : B) where
  past : (k : ℕ) (before : List A) (x : A) (after : List A) → All (λ y. t y ≡ false) before → t x ≡ true
      → first_from t say e k (before ++ x ∷ after) ≡ say (k + length before) x
  unfolding first_from
  past k [] x after none passes = rw passes (ap (λ (j : ℕ). say j x) (omega arith))
  past k (y ∷ before) x after none passes =
      rw none.0 (past (suc k) before x after none.1 passes ∙ ap (λ (j : ℕ). say j x) (omega arith))

  first_from_is : (k : ℕ) (xs : List A) (f : FirstOf t xs) → first_from t say e k xs ≡ say (k + length f.before) f.one
  first_from_is k xs f = ap (first_from t say e k) f.splits ∙ past k f.before f.one f.after f.none_before f.passes

  first_from_map : {C : Type 0} (g : C → A) (k : ℕ) (xs : List C)
      → first_from t say e k (map g xs) ≡ first_from (λ x. t (g x)) (λ j x. say j (g x)) e k xs
  unfolding first_from
  first_from_map g k [] = refl
  first_from_map g k (x ∷ xs) = ap (cond (t (g x)) (say k (g x))) (first_from_map g (suc k) xs)

any_part_agree : (t : List ℕ → Bool) (ps : List (List ℕ)) → any t ps ≡ any_part t ps
unfolding any any_part
any_part_agree t [] = refl
any_part_agree t (p ∷ ps) = ap (t p ||◌) (any_part_agree t ps)

any_bad_agree : (xs : List Slot) → any is_bad xs ≡ any_bad xs
unfolding any any_bad
any_bad_agree [] = refl
any_bad_agree (x ∷ xs) = ap (is_bad x ||◌) (any_bad_agree xs)

-- ## 24: the first whose header type, or length for it, is wrong on a board of this version

pub record HeaderNamed (b : List ℕ) : Type 0 where
  pub first : FirstOf (wrong_in (get_or b 0 0)) (function_parts b)
  pub named : failing_of b ≡ party_of (suc (length first.before)) function_id

pub header_named : (b : List ℕ) → board_number b ≡ 24 → HeaderNamed b
header_named b e =
    let v = get_or b 0 0 in
    let ps = function_parts b in
    let wrong = header_of_24 v (host_of b) ps (framed_of_number b 24 e (omega arith)).number in
    let f = first_of_any (wrong_in v) ps (any_part_agree (wrong_in v) ps ∙ wrong) in
    let number : 1 + length f.before ≡ suc (length f.before) = omega arith in
    record {
      first = f;
      named =
          failing_24 b e
          ∙ first_from_is (wrong_in v) (λ k p. party_of k function_id) nobody 1 ps f
          ∙ ap (λ (k : ℕ). party_of k function_id) number;
    }

-- ## 23: the first that is misplaced among those before it, which stand nearest first

pub record FirstMisplaced (fs : List Function) : Type 0 where
  pub one : Function
  pub before : List Function
  pub after : List Function
  pub splits : fs ≡ before ++ one ∷ after
  pub fails : misplaced (length before) (reverse before) one ≡ true
  pub none_before : any_misplaced 0 [] before ≡ false

pub record MisplacedNamed (b : List ℕ) : Type 0 where
  pub first : FirstMisplaced (functions_of b)
  pub named : failing_of b ≡ party_of (suc (length first.before)) function_id

-- the same of functions behind n others
record Behind (n : ℕ) (earlier fs : List Function) : Type 0 where
  one : Function
  before : List Function
  after : List Function
  splits : fs ≡ before ++ one ∷ after
  fails : misplaced (n + length before) (reverse_aux before earlier) one ≡ true
  none_before : any_misplaced n earlier before ≡ false
  number : first_misplaced n earlier fs ≡ suc (n + length before)

behind : (n : ℕ) (earlier fs : List Function) → any_misplaced n earlier fs ≡ true → Behind n earlier fs
unfolding any_misplaced first_misplaced
behind n earlier [] e = absurd (false≢true e)
behind n earlier (f ∷ fs) e = go (misplaced n earlier f) refl e (λ h. behind (suc n) (f ∷ earlier) fs h)
  where
    go : (t : Bool) → misplaced n earlier f ≡ t → (t || any_misplaced (suc n) (f ∷ earlier) fs) ≡ true
        → (any_misplaced (suc n) (f ∷ earlier) fs ≡ true → Behind (suc n) (f ∷ earlier) fs) → Behind n earlier (f ∷ fs)
    go true h e on =
        let none : n + 0 ≡ n = omega arith in
        record {
          one = f;
          before = [];
          after = fs;
          splits = refl;
          fails = ap (λ (k : ℕ). misplaced k earlier f) none ∙ h;
          none_before = refl;
          number = rw (h, none);
        }
    go false h e on =
        let r = on e in
        let more : n + suc (length r.before) ≡ suc n + length r.before = omega arith in
        record {
          one = r.one;
          before = f ∷ r.before;
          after = r.after;
          splits = ap (f ∷◌) r.splits;
          fails = ap (λ (k : ℕ). misplaced k (reverse_aux r.before (f ∷ earlier)) r.one) more ∙ r.fails;
          none_before = rw h r.none_before;
          number = rw (h, more) r.number;
        }

pub misplaced_named : (b : List ℕ) → board_number b ≡ 23 → MisplacedNamed b
unfolding functions_of
misplaced_named b e =
    let framed = framed_of_number b 23 e (omega arith) in
    let order = order_of_number (get_or b 0 0) (host_of b) (function_parts b) 23 framed.number (λ x. omega arith) (λ x. omega arith) in
    let r = behind 0 [] (functions_of b) (misplaced_of_23 (functions_of b) order.1) in
    let number : 0 + length r.before ≡ length r.before = omega arith in
    record {
      first =
          record {
            one = r.one;
            before = r.before;
            after = r.after;
            splits = r.splits;
            fails = ap (λ (k : ℕ). misplaced k (reverse r.before) r.one) (sym number) ∙ r.fails;
            none_before = r.none_before;
          };
      named = failing_23 b e ∙ ap (λ (k : ℕ). party_of k function_id) (r.number ∙ ap suc number);
    }

-- ## 25: the first with a read-back that is wrong, at its first bad slot

pub record ReadBackNamed (b : List ℕ) : Type 0 where
  pub first : FirstOf readbacks_wrong (functions_of b)
  pub slot : FirstOf is_bad (slots_of first.one)
  pub in_six : length slot.before < 6
  pub named : failing_of b ≡ party_of (suc (length first.before)) (length slot.before)

bad_slot_first : (f : Function) → readbacks_wrong f ≡ true → FirstOf is_bad (slots_of f)
unfolding readbacks_wrong
bad_slot_first f e = first_of_any is_bad (slots_of f) (any_bad_agree (slots_of f) ∙ e)

six_slots : (f : Function) → length (slots_of f) ≤ 6
six_slots f =
    let n = slot_count f in
    omega (arith, length_slots (take n f.readbacks), length-take n f.readbacks, least n (length f.readbacks), go (is_bridge f))
  where
    go : (b : Bool) → cond b 2 6 ≤ 6
    go true = omega arith
    go false = omega arith

    least : (a b : ℕ) → min a b ≤ a
    least a b = omega arith

slot_in_six : (f : Function) (s : FirstOf is_bad (slots_of f)) → length s.before < 6
slot_in_six f s = omega (arith, six_slots f, ap length s.splits, length-append s.before (s.one ∷ s.after))

pub read_back_named : (b : List ℕ) → board_number b ≡ 25 → ReadBackNamed b
unfolding functions_of
read_back_named b e =
    let fs = functions_of b in
    let framed = framed_of_number b 25 e (omega arith) in
    let order = order_of_number (get_or b 0 0) (host_of b) (function_parts b) 25 framed.number (λ x. omega arith) (λ x. omega arith) in
    let f = first_of_any readbacks_wrong fs (readbacks_of_25 fs order.1) in
    let s = bad_slot_first f.one f.passes in
    let number : 1 + length f.before ≡ suc (length f.before) = omega arith in
    let place : bad_slot f.one ≡ length s.before = first_from_is is_bad (λ i x. i) 0 0 (slots_of f.one) s ∙ omega arith in
    record {
      first = f;
      slot = s;
      in_six = slot_in_six f.one s;
      named =
          failing_25 b e
          ∙ sym (first_from_map readbacks_wrong (λ k g. party_of k (bad_slot g)) nobody function_of_part 1 (function_parts b))
          ∙ first_from_is readbacks_wrong (λ k g. party_of k (bad_slot g)) nobody 1 fs f
          ∙ ap₂ party_of number place;
    }

-- ## Every other number

pub nobody_otherwise : (b : List ℕ) → (board_number b ≡ 24 → ⊥) → (board_number b ≡ 23 → ⊥) → (board_number b ≡ 25 → ⊥)
    → failing_of b ≡ nobody
nobody_otherwise = failing_other
