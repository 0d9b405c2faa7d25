-- The pass over a board's functions and the one over a function's slots, in the words of the code: one law for each
-- step. Assumes nothing.
use Rattle.std.specs.Prelude.{◌≡◌, Bool, true, false, cond, List, ◌∷◌, take, drop}
use Rattle.std.proofs.Math.Path.{sym, ap}
use Rattle.std.proofs.Common.{ap₂, ◌∙◌, add-one, drop_of_length-le}
use Prim.Native.Nat.{ℕ, suc, ◌+◌, ◌≤◌, ◌<◌}
use native.Mathlib.Omega.{arith}
use Rattle.std.proofs.Math.ListN.{length, length-drop}
use Rattle.records.specs.declared.Next.TheVariants.{End, Record, Broken}
use Rattle.records.specs.Records.{next_of, parts_from}
use Rattle.records.specs.RecordsLaws.{pass_record, pass_end, pass_broken}
use Rattle.bar.specs.declared.Slot.{Slot}
use Rattle.bar.specs.declared.Slot.TheVariants.{Upper}
use Rattle.bar.specs.Bar.{slot_here, slots, is_bad, takes_next, span}
use Rattle.bar.specs.BarLaws.{length_first, slots_head, slots_at_step}
use Rattle.board_record.specs.declared.Function.{Function}
use Rattle.board_record.specs.declared.Rule.{Rule}
use Rattle.board_record.specs.Function.{function_of_part, slot_count}
use Rattle.board_record.specs.FunctionLaws.{length_readbacks}
use Rattle.board_record.specs.Rules.{breaks}
use Rattle.finding.specs.declared.Party.{Party}
use Rattle.finding.specs.Places.{nobody}
use Rattle.board_where.specs.Where.{first_from, party_of, place_in, bad_slot}

-- ## The functions: k of them are passed

abbrev pub breaking_after : Rule → ℕ → List (List ℕ) → Party
breaking_after rule k ps = first_from (breaks rule) (λ j p. party_of j (place_in rule p)) nobody (suc k) ps

-- the first of the parts that are left
module _ (rule : Rule) (k : ℕ) (p : List ℕ) (ps : List (List ℕ)) where
  pub breaking_first : breaks rule p ≡ true → (place : ℕ) → place ≡ place_in rule p → breaking_after rule k (p ∷ ps) ≡ party_of (k + 1) place
  unfolding first_from
  breaking_first h place f = rw h (ap₂ party_of (sym (add-one k)) (sym f))

  pub breaking_past_first : breaks rule p ≡ false → breaking_after rule (k + 1) ps ≡ breaking_after rule k (p ∷ ps)
  unfolding first_from
  breaking_past_first h = ap (λ (j : ℕ). breaking_after rule j ps) (add-one k) ∙ sym (rw h)

-- what stands at the cursor
module _ (rule : Rule) (s : List ℕ) (at k : ℕ) where
  pub breaking_end : next_of (drop at s) ≡ End → breaking_after rule k (parts_from s at) ≡ nobody
  unfolding first_from
  breaking_end e = pass_end (breaking_after rule k) s at e

  pub breaking_broken : next_of (drop at s) ≡ Broken → breaking_after rule k (parts_from s at) ≡ nobody
  unfolding first_from
  breaking_broken e = pass_broken (breaking_after rule k) s at e

  -- p is the part at the cursor
  module _ (n : ℕ) (e : next_of (drop at s) ≡ Record n) (p : List ℕ) (is : p ≡ take n (drop (at + 2) s)) where
    at_record : breaking_after rule k (parts_from s at) ≡ breaking_after rule k (p ∷ parts_from s (at + 2 + n))
    at_record =
        pass_record (breaking_after rule k) s at n e
        ∙ ap (λ (q : List ℕ). breaking_after rule k (q ∷ parts_from s (at + 2 + n))) (sym is)

    pub breaking_hit : breaks rule p ≡ true → (place : ℕ) → place ≡ place_in rule p → breaking_after rule k (parts_from s at)
        ≡ party_of (k + 1) place
    unfolding first_from
    breaking_hit h place f = at_record ∙ rw h (ap₂ party_of (sym (add-one k)) (sym f))

    pub breaking_miss : breaks rule p ≡ false → breaking_after rule (k + 1) (parts_from s (at + 2 + n))
        ≡ breaking_after rule k (parts_from s at)
    unfolding first_from
    breaking_miss h =
        ap (λ (j : ℕ). breaking_after rule j (parts_from s (at + 2 + n))) (add-one k) ∙ sym (at_record ∙ rw h)

-- ## The slots of a set, from slot i on

abbrev pub bad_from : ℕ → List Slot → ℕ
bad_from i xs = first_from is_bad (λ j x. j) 0 i xs

abbrev pub bad_left : List ℕ → ℕ → ℕ
bad_left rs i = bad_from i (slots (drop i rs))

left_end : (rs : List ℕ) (i : ℕ) → length rs ≤ i → bad_left rs i ≡ 0
unfolding first_from slots
left_end rs i h = rw (drop_of_length-le rs h)

module _ (rs : List ℕ) (i : ℕ) (x : Slot) (h : i < length rs) (e : x ≡ slot_here (drop i rs)) where
  left_bad : is_bad x ≡ true → bad_left rs i ≡ i
  unfolding first_from
  left_bad b =
      let p : 0 < length (drop i rs) = simp length-drop (omega arith) in
      ap (bad_from i) (slots_head (drop i rs) p) ∙ rw (ap is_bad (sym e) ∙ b)

  left_step : is_bad x ≡ false → bad_left rs (i + span x) ≡ bad_left rs i
  unfolding first_from
  left_step b = go (takes_next x) ∙ sym (ap (bad_from i) (slots_at_step rs i x h e b) ∙ rw b)
    where
      two : i + 2 ≡ suc (suc i)
      two = omega arith

      go : (t : Bool) → bad_left rs (i + cond t 2 1) ≡ bad_from (suc i) (cond t (Upper ∷ slots (drop (i + 2) rs)) (slots (drop (i + 1) rs)))
      go true = ap (λ (j : ℕ). bad_from j (slots (drop (i + 2) rs))) two
      go false = ap (λ (j : ℕ). bad_from j (slots (drop (i + 1) rs))) (add-one i)

-- of the function f that was read from a part; n are its slots, x the one at i
module _ (p : List ℕ) (f : Function) (n i : ℕ) (is : f ≡ function_of_part p) (c : n ≡ slot_count f) (few : n ≤ 6) where
  counted : length (take n f.readbacks) ≡ n
  counted =
      let six : length f.readbacks ≡ 6 = ap (λ (g : Function). length g.readbacks) is ∙ length_readbacks p in
      omega (arith, length_first f.readbacks n six)

  pub slots_start : bad_left (take n f.readbacks) 0 ≡ bad_slot (function_of_part p)
  slots_start = ap (λ (m : ℕ). bad_from 0 (slots (take m f.readbacks))) c ∙ ap bad_slot is

  pub slots_end : n ≤ i → bad_left (take n f.readbacks) i ≡ 0
  slots_end h = left_end (take n f.readbacks) i (omega (arith, counted))

  module _ (x : Slot) (h : i < n) (e : x ≡ slot_here (drop i (take n f.readbacks))) (b : Bool) (t : b ≡ is_bad x) where
    pub slot_bad : b ≡ true → bad_left (take n f.readbacks) i ≡ i
    slot_bad o = left_bad (take n f.readbacks) i x (omega (arith, counted)) e (sym t ∙ o)

    pub slot_step : b ≡ false → (w : ℕ) → w ≡ span x → bad_left (take n f.readbacks) (i + w) ≡ bad_left (take n f.readbacks) i
    slot_step o w is_span = rw is_span (left_step (take n f.readbacks) i x (omega (arith, counted)) e (sym t ∙ o))
