-- The last position whose key is not above a key decides its outcome, among owners that answer for it, sorted by start. Assumes nothing.
use Rattle.std.specs.Prelude.{◌≡◌, ◌⊎◌, Bool, cond, List, [], ◌∷◌, length, get_or}
use Rattle.std.proofs.Math.Path.{refl}
use Rattle.std.proofs.Common.{sym, ap, ◌∙◌, inl, inr, arith}
use Rattle.std.proofs.Math.Bool.{true, false}
use mathlib.Core.List.Memᴰ
use Prim.Native.Nat.{ℕ, zero, suc, ◌≤◌, ◌<◌}
use Rattle.std.proofs.Math.Dec.{ltb}
use borrow.Author.Tests.{ltb-true, ltb-false, lt-ltb, le-ltb}
use Rattle.lists.specs.Lists.{◌∈◌}
use Rattle.lists.specs.ListLaws.{all_elim}
use Rattle.walk.specs.Walk.{Outcome, delivered, refused, no_owner}
use Rattle.index_layout.specs.Keys.{no_key}
use Rattle.index_rule.specs.Owners.{Owner, Over, word_of}
use Rattle.index_rule.specs.Insert.{inserted}
use Rattle.index_rule.proofs.InsertLaws.{Ordered, inserted_elim, inserted_new, inserted_ordered, length_inserted}
use Rattle.index_rule.specs.Search.{nobody, key_at, word_at, Rises, Last, answer_at}
use Rattle.index_rule.proofs.Answered.{Answered}
use Rattle.index_rule.proofs.BarsLaws.{filled}
use Rattle.index_rule.proofs.WordLaws.{Fits, answer_is}

-- ## A list by position

module _ {A : Type 0} (d : A) where
  at_member : (xs : List A) (i : ℕ) → i < length xs → get_or xs i d ∈ xs
  at_member [] i h = absurd (omega arith)
  at_member (x ∷ xs) zero h = Memᴰ.head refl
  at_member (x ∷ xs) (suc i) h = Memᴰ.tail (at_member xs i (omega arith))

  member_at : {x : A} (xs : List A) → x ∈ xs → (i : ℕ) × (i < length xs) × (get_or xs i d ≡ x)
  member_at [] m = absurd (Memᴰ.not-nil m)
  member_at {x} (y ∷ ys) m = go (Memᴰ.cases_cons m) (λ n. member_at ys n)
    where
      go : (x ≡ y) ⊎ (x ∈ ys) → (x ∈ ys → (i : ℕ) × (i < length ys) × (get_or ys i d ≡ x))
          → (i : ℕ) × (i < length (y ∷ ys)) × (get_or (y ∷ ys) i d ≡ x)
      go (inl e) rest = (0, omega arith, sym e)
      go (inr n) rest = let (i, h, e) = rest n in (suc i, omega arith, e)

abbrev start_at : List Owner → ℕ → ℕ
start_at xs i = (get_or xs i nobody).start

rises_of_ordered : (xs : List Owner) → Ordered (λ (x : Owner). x.start) xs → Rises (start_at xs) (length xs)
rises_of_ordered [] h i j le l = absurd (omega arith)
rises_of_ordered (x ∷ xs) h zero zero le l = omega arith
rises_of_ordered (x ∷ xs) h zero (suc j) le l = all_elim _ xs h.0 (at_member nobody xs j (omega arith))
rises_of_ordered (x ∷ xs) h (suc i) zero le l = absurd (omega arith)
rises_of_ordered (x ∷ xs) h (suc i) (suc j) le l = rises_of_ordered xs h.1 i j (omega arith) (omega arith)

-- ## The owners as they were inserted

module _ {outcome : ℕ → Outcome} (ys : List Owner) (answered : Answered ys outcome) (fits : (x : Owner) → x ∈ ys → Fits x) where
  abbrev sorted : List Owner
  sorted = inserted (λ (x : Owner). x.start) [] ys

  of_sorted : (x : Owner) → x ∈ sorted → x ∈ ys
  of_sorted x m = was (inserted_elim (λ (z : Owner). z.start) [] ys m)
    where
      was : (x ∈ []) ⊎ (x ∈ ys) → x ∈ ys
      was (inl n) = absurd (Memᴰ.not-nil n)
      was (inr n) = n

  rising : Rises (start_at sorted) (length sorted)
  rising = rises_of_ordered sorted (inserted_ordered (λ (z : Owner). z.start) [] ys tt)

  as_many : length sorted ≡ length ys
  as_many = omega (arith, length_inserted (λ (z : Owner). z.start) [] ys)

  key_of_start : (i : ℕ) → i < length sorted → key_at sorted (suc i) ≡ start_at sorted i
  unfolding key_at
  key_of_start i h = let e : ltb i (length sorted) ≡ true = lt-ltb i (length sorted) h in rw e refl

  word_of_owner : (i : ℕ) → i < length sorted → word_at sorted (suc i) ≡ word_of (get_or sorted i nobody)
  unfolding word_at
  word_of_owner i h = let e : ltb i (length sorted) ≡ true = lt-ltb i (length sorted) h in rw e refl

  key_past : (i : ℕ) → length sorted ≤ i → key_at sorted (suc i) ≡ no_key
  unfolding key_at
  key_past i h = let e : ltb i (length sorted) ≡ false = le-ltb i (length sorted) h in rw e refl

  -- ## By the position

  module _ (m a : ℕ) (room : length ys < m) where
    before_first : Last (key_at sorted) m a 0 → (x : Owner) → x ∈ ys → Over x a → ⊥
    before_first last x n o =
        let (q, inside, is_x) = member_at nobody sorted (inserted_new (λ (z : Owner). z.start) [] ys n) in
        let above = last.then_above (suc q) (omega arith) (omega (arith, inside, as_many, room)) in
        omega (arith, above, key_of_start q inside, ap (λ (z : Owner). z.start) is_x, o.from_start)

    module _ (i : ℕ) (here : i < length sorted) (last : Last (key_at sorted) m a (suc i)) where
      abbrev found : Owner
      found = get_or sorted i nobody

      in_owners : found ∈ ys
      in_owners = of_sorted found (at_member nobody sorted i here)

      from_start : found.start ≤ a
      from_start = omega (arith, last.not_above, key_of_start i here)

      -- past its end there is no other: one that starts no later is over its start too
      none_past : found.stop ≤ a → (x : Owner) → x ∈ ys → Over x a → ⊥
      none_past past x n o = place (member_at nobody sorted (inserted_new (λ (z : Owner). z.start) [] ys n))
        where
          place : (q : ℕ) × (q < length sorted) × (get_or sorted q nobody ≡ x) → ⊥
          place (q, inside, is_x) = side (ltb i q) refl
            where
              start_is : start_at sorted q ≡ x.start
              start_is = ap (λ (z : Owner). z.start) is_x

              side : (t : Bool) → ltb i q ≡ t → ⊥
              side true e =
                  let above = last.then_above (suc q) (omega (arith, ltb-true i q e)) (omega (arith, inside, as_many, room)) in
                  omega (arith, above, key_of_start q inside, start_is, o.from_start)
              side false e =
                  let earlier = rising q i (ltb-false i q e) here in
                  let over_found : Over found found.start =
                  record { from_start = omega arith; before_stop = filled found.start found.stop (fits found in_owners).powered } in
                  let over_x : Over x found.start =
                  record { from_start = omega (arith, earlier, start_is); before_stop = omega (arith, o.before_stop, from_start) } in
                  let same = answered.unique found.start x found n in_owners over_x over_found in
                  omega (arith, past, o.before_stop, ap (λ (z : Owner). z.stop) same)

      judged : (t : Bool) → ltb a found.stop ≡ t
          → outcome a ≡ cond t (delivered found.number found.bridges) (refused no_owner)
      judged true e =
          answered.of_owner a found in_owners (record { from_start = from_start; before_stop = ltb-true a found.stop e })
      judged false e = answered.of_none a (none_past (ltb-false a found.stop e))

      at_owner : outcome a ≡ answer_at (key_at sorted (suc i)) (word_at sorted (suc i)) a
      at_owner =
          judged (ltb a found.stop) refl
          ∙ sym (answer_is found (fits found in_owners) a from_start)
          ∙ ap (λ (k : ℕ). answer_at k (word_of found) a) (sym (key_of_start i here))
          ∙ ap (λ (w : ℕ). answer_at (key_at sorted (suc i)) w a) (sym (word_of_owner i here))

    pub outcome_of_last : a < no_key → (p : ℕ) → Last (key_at sorted) m a p
        → outcome a ≡ answer_at (key_at sorted p) (word_at sorted p) a
    unfolding key_at word_at
    outcome_of_last near zero last = answered.of_none a (before_first last)
    outcome_of_last near (suc i) last = go (ltb i (length sorted)) refl
      where
        go : (t : Bool) → ltb i (length sorted) ≡ t → outcome a ≡ answer_at (key_at sorted (suc i)) (word_at sorted (suc i)) a
        go true e = at_owner i (ltb-true i (length sorted) e) last
        go false e = absurd (omega (arith, near, last.not_above, key_past i (ltb-false i (length sorted) e)))
