-- The search for the bridges that lead to one bus, in the words of the code: a record that does not is passed over, and what the records
-- left say of the bus stays. Assumes nothing.
use Rattle.std.specs.Prelude.{◌≡◌, refl, Bool, true, false, cond, ◌&&◌, Option, Some, None, List, ℕ, ◌+◌, ◌≤◌, ◌<◌, eqb, length}
use Rattle.std.proofs.Common.{sym, ap, ◌∙◌, arith, ne_eqb}
use Rattle.sheet_record.specs.Entry.{entry_of, header_of, is_bridge, secondary_of}
use Rattle.sheet.specs.Sheet.{Framed, entries_from, entries_of, part_at, record_at}
use Rattle.sheet_above.specs.Parents.{leads_to, several, joined, leader_from, leader_of}
use Rattle.sheet_above.specs.ParentsLaws.{joined_none, leader_left_lem, leader_past}

-- both tests of a record
pub leads_part : (p : List ℕ) (bus : ℕ) → (is_bridge (header_of p) && eqb (secondary_of p) bus) ≡ leads_to bus (entry_of p)
unfolding entry_of
leads_part p bus = go (is_bridge (header_of p))
  where
    go : (x : Bool) → (x && eqb (secondary_of p) bus) ≡ (x && eqb (cond x (secondary_of p) 0) bus)
    go true = refl
    go false = refl

-- what record k, from 0, and those after it say of a bus
abbrev pub leader_left : List ℕ → ℕ → ℕ → ℕ
leader_left s bus k = leader_from (k + 1) (entries_from s (record_at k)) bus

-- the next record from `from` on that leads to the bus is r, or there is none and r is their count
pub record NextLeader (s : List ℕ) (bus from r : ℕ) : Type 0 where
  pub within : r ≤ length (entries_of s)
  pub leads : r < length (entries_of s) → leads_to bus (entry_of (part_at s r)) ≡ true
  pub same : leader_left s bus r ≡ leader_left s bus from

-- the same of an answer
abbrev pub NextTold : List ℕ → ℕ → ℕ → Option ℕ → Type 0
NextTold s bus from (Some k) = (k < length (entries_of s)) × NextLeader s bus from k
NextTold s bus from None = NextLeader s bus from (length (entries_of s))

-- two numbers of records are several
joined_two : (n m k : ℕ) → joined (n + 1) (joined (m + 1) k) ≡ several
joined_two n m k =
    rw (ne_eqb (n + 1) 0 (λ z. omega (arith, z)), ne_eqb (m + 1) 0 (λ z. omega (arith, z))) (go (eqb k 0))
  where
    go : (t : Bool) → cond (eqb (cond t (m + 1) several) 0) (n + 1) several ≡ several
    go true = rw (ne_eqb (m + 1) 0 (λ z. omega (arith, z)))
    go false = refl

-- n records in all
module _ (s : List ℕ) (f : Framed 1 s) (n : ℕ) (count : n ≡ length (entries_of s)) (bus : ℕ) where
  -- record k, of which p is the part and b the test
  module _ (k : ℕ) (h : k < n) (p : List ℕ) (is : p ≡ part_at s k) (b : Bool) (test : b ≡ leads_to bus (entry_of p)) where
    test_is : leads_to bus (entry_of (part_at s k)) ≡ b
    test_is = ap (λ (q : List ℕ). leads_to bus (entry_of q)) (sym is) ∙ sym test

    pub leader_miss : b ≡ false → leader_left s bus (k + 1) ≡ leader_left s bus k
    leader_miss y =
        sym (leader_left_lem s f n k count h bus
        ∙ ap (λ (t : Bool). joined (cond t (k + 1) 0) (leader_left s bus (k + 1))) (test_is ∙ y))

    pub leader_hit : (from : ℕ) → b ≡ true → leader_left s bus k ≡ leader_left s bus from → NextLeader s bus from k
    leader_hit from y e = record { within = omega (arith, count, h); leads = λ l. test_is ∙ y; same = e }

  pub leader_none : (from k : ℕ) → n ≤ k → k ≤ n → leader_left s bus k ≡ leader_left s bus from → NextLeader s bus from n
  leader_none from k h g e =
      let i : k ≡ n = omega (arith, h, g) in
      record { within = omega (arith, count); leads = λ l. absurd (omega (arith, count, l)); same = ap (leader_left s bus) (sym i) ∙ e }

  -- ## None, one or several, by the first and the second that are found

  module _ (first : ℕ) (found : NextLeader s bus 0 first) where
    pub leads_none : n ≤ first → 0 ≡ leader_of (entries_of s) bus
    leads_none h = sym (leader_past s f n first count h bus) ∙ found.same

    module _ (h : first < n) (second : ℕ) (after : NextLeader s bus (first + 1) second) where
      here : leader_left s bus first ≡ joined (first + 1) (leader_left s bus second)
      here =
          leader_left_lem s f n first count h bus
          ∙ ap (λ (t : Bool). joined (cond t (first + 1) 0) (leader_left s bus (first + 1))) (found.leads (omega (arith, count, h)))
          ∙ ap (joined (first + 1)) (sym after.same)

      pub leads_one : n ≤ second → first + 1 ≡ leader_of (entries_of s) bus
      leads_one g =
          sym (joined_none (first + 1)) ∙ ap (joined (first + 1)) (sym (leader_past s f n second count g bus)) ∙ sym here ∙ found.same

      pub leads_several : second < n → several ≡ leader_of (entries_of s) bus
      leads_several g =
          sym (joined_two first second (leader_left s bus (second + 1)))
          ∙ ap (joined (first + 1))
          (sym (leader_left_lem s f n second count g bus
          ∙ ap (λ (t : Bool). joined (cond t (second + 1) 0) (leader_left s bus (second + 1))) (after.leads (omega (arith, count, g)))))
          ∙ sym here ∙ found.same
