-- The calls that tell who, in the words of their code. Assumes nothing.
use Rattle.std.specs.Prelude.{◌≡◌, refl, cond, List, ◌++◌, ℕ, ◌+◌, ◌≤◌, ◌<◌, eqb, length, drop}
use Rattle.std.proofs.Common.{ap, ◌∙◌, zero-add, arith, lt-ltb, le-ltb}
use Rattle.std.proofs.lemmas.List.Edits.{sets, sets-eq}
use Rattle.finding.specs.declared.Finding.{Finding}
use Rattle.plan_where.specs.declared.PlanFinding.{PlanFinding}
use Rattle.capi_where.specs.Calls.{told_number, told_filled, party_numbers, who_numbers, who_number, who_filled}
use Rattle.capi_where.specs.Calls.{need_numbers, align_numbers, plan_numbers, all_numbers, plan_number, plan_filled}

-- ## A number, and numbers in the slice

module _ (numbers slice : List ℕ) (number : ℕ) where
  abbrev Told : ℕ → List ℕ → Type 0
  Told r after = (r ≡ told_number (length numbers) number slice) × (after ≡ told_filled numbers slice)

  short : length slice < length numbers → (r : ℕ) → r ≡ cond (eqb number 0) 11 number → Told r slice
  short h r e = rw (lt-ltb (length slice) (length numbers) h) (e, refl)

  stored : length numbers ≤ length slice → (after : List ℕ) → after ≡ sets slice 0 numbers
      → after ≡ numbers ++ drop (length numbers) slice
  stored h after e =
      e ∙ sets-eq numbers slice 0 (omega (arith, h)) ∙ ap (λ (n : ℕ). numbers ++ drop n slice) (zero-add (length numbers))

  whole : length numbers ≤ length slice → (after : List ℕ) → after ≡ sets slice 0 numbers → Told number after
  whole h after e = rw (le-ltb (length slice) (length numbers) h) (refl, stored h after e)

-- ## Who fails an audit

abbrev pub Answered : Finding → List ℕ → ℕ → List ℕ → Type 0
Answered f slice r after = (r ≡ who_number f slice) × (after ≡ who_filled f slice)

module _ (f g : Finding) (is : f ≡ g) (slice : List ℕ) where
  pub told_short : length slice < 4 → (r : ℕ) → r ≡ cond (eqb f.number 0) 11 f.number → Answered g slice r slice
  told_short h r e = rw (← is) (short (who_numbers f) slice f.number h r e)

  pub told_whole : 4 ≤ length slice → (one two : List ℕ) → one ≡ sets slice 0 (party_numbers f.party)
      → two ≡ sets one 2 (party_numbers f.other) → Answered g slice f.number two
  told_whole h one two d e =
      rw (← is)
      (whole (who_numbers f) slice f.number h two (e ∙ ap (λ (s : List ℕ). sets s 2 (party_numbers f.other)) d))

-- ## What does not fit of a board

abbrev pub PlanAnswered : PlanFinding → List ℕ → ℕ → List ℕ → Type 0
PlanAnswered f slice r after = (r ≡ plan_number f slice) × (after ≡ plan_filled f slice)

module _ (f g : PlanFinding) (is : f ≡ g) (slice : List ℕ) where
  pub plan_short : length slice < 8 → (r : ℕ) → r ≡ cond (eqb f.number 0) 11 f.number → PlanAnswered g slice r slice
  plan_short h r e =
      let less : length slice < 11 = omega (arith, h) in
      rw (← is) (rw (lt-ltb (length slice) 11 less) (short (plan_numbers f) slice f.number h r e))

  -- room for what is needed only
  pub plan_eight : 8 ≤ length slice → length slice < 11 → (eight : List ℕ) → eight ≡ sets slice 0 (plan_numbers f)
      → PlanAnswered g slice f.number eight
  plan_eight h l eight e = rw (← is) (rw (lt-ltb (length slice) 11 l) (whole (plan_numbers f) slice f.number h eight e))

  -- and for the alignments
  pub plan_whole : 11 ≤ length slice → (eight eleven : List ℕ) → eight ≡ sets slice 0 (plan_numbers f)
      → eleven ≡ sets eight 8 (align_numbers f.needs) → PlanAnswered g slice f.number eleven
  plan_whole h eight eleven d e =
      let eights : 8 ≤ length slice = omega (arith, h) in
      let fills = stored (all_numbers f) slice f.number h eleven (e ∙ ap (λ (s : List ℕ). sets s 8 (align_numbers f.needs)) d) in
      rw (← is) (rw (le-ltb (length slice) 11 h, le-ltb (length slice) 8 eights) (refl, fills))

-- the eight, by three stores
pub plan_put : (f : PlanFinding) (slice one two three : List ℕ) → one ≡ sets slice 0 (party_numbers f.party)
    → two ≡ sets one 2 (party_numbers f.other) → three ≡ sets two 4 (need_numbers f.needs) → three ≡ sets slice 0 (plan_numbers f)
plan_put f slice one two three d e k =
    k
    ∙ ap (λ (s : List ℕ). sets s 4 (need_numbers f.needs)) e
    ∙ ap (λ (s : List ℕ). sets (sets s 2 (party_numbers f.other)) 4 (need_numbers f.needs)) d
