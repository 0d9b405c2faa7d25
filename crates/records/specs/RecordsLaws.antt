-- The laws of length-first records: a record found fits, the bound on their number does not matter, what holds record by record, and what a
-- loop with a cursor `at` has left, `parts_of (drop at s)`, by what stands at the cursor. Assumes nothing.
use Rattle.std.proofs.Math.Path.{◌≡◌, refl, subst}
use Rattle.std.proofs.Common.{sym, ap, ◌∙◌, add-one, true≢false, drop-cons, drop-drop, length-take-le}
use Prim.Native.Nat.{ℕ, zero, suc, ◌+◌, ◌-◌, ◌*◌, ◌≤◌, ◌<◌}
use native.Mathlib.Omega.{arith}
use Rattle.std.specs.Prelude.{Bool, take, drop}
use Rattle.std.proofs.Math.Bool.{true, false, cond}
use mathlib.Core.List.{List, [], ◌∷◌}
use Rattle.std.proofs.Math.ListN.{length, get_or, length-drop, drop_of_length-le}
use Rattle.std.proofs.Math.Dec.{ltb}
use borrow.Author.Tests.{ltb-true, ltb-false, lt-ltb, le-ltb}
use Rattle.arith.specs.BoolLaws.{false_of_or}
use Rattle.endian.specs.Endian.{be}
use Rattle.records.specs.declared.Next.{Next}
use Rattle.records.specs.declared.Next.TheVariants.{End, Record, Broken}
use Rattle.records.specs.Records.{next_of, Parts, after, step, parts_over, parts_of, parts_from, any_part, total}

-- ---- what bytes start with, taken apart

-- a record that is found
module _ (P : List ℕ → ℕ → Type 0) (here : (a b : ℕ) (s : List ℕ) → a * 256 + b ≤ length s → P (a ∷ b ∷ s) (a * 256 + b)) where
  pub record_elim : (s : List ℕ) (n : ℕ) → next_of s ≡ Record n → P s n
  unfolding next_of
  record_elim [] n e = let z : ◌≡◌ {A = ℕ} 0 1 = cc in absurd (omega arith)
  record_elim (a ∷ []) n e = let z : ◌≡◌ {A = ℕ} 0 1 = cc in absurd (omega arith)
  record_elim (a ∷ b ∷ s) n e = go (ltb (length s) (a * 256 + b)) refl e
    where
      go : (t : Bool) → ltb (length s) (a * 256 + b) ≡ t → cond t Broken (Record (a * 256 + b)) ≡ Record n → P (a ∷ b ∷ s) n
      go true h e = let z : ◌≡◌ {A = ℕ} 0 1 = cc in absurd (omega arith)
      go false h e = let q : a * 256 + b ≡ n = cc in subst (P (a ∷ b ∷ s)) q (here a b s (ltb-false (length s) (a * 256 + b) h))

-- and bytes that break off
module _ (P : List ℕ → Type 0) (stray : (a : ℕ) → P (a ∷ []))
    (short : (a b : ℕ) (s : List ℕ) → length s < a * 256 + b → P (a ∷ b ∷ s)) where
  pub broken_elim : (s : List ℕ) → next_of s ≡ Broken → P s
  unfolding next_of
  broken_elim [] e = let z : ◌≡◌ {A = ℕ} 0 1 = cc in absurd (omega arith)
  broken_elim (a ∷ []) e = stray a
  broken_elim (a ∷ b ∷ s) e = go (ltb (length s) (a * 256 + b)) refl e
    where
      go : (t : Bool) → ltb (length s) (a * 256 + b) ≡ t → cond t Broken (Record (a * 256 + b)) ≡ Broken → P (a ∷ b ∷ s)
      go true h e = short a b s (ltb-true (length s) (a * 256 + b) h)
      go false h e = let z : ◌≡◌ {A = ℕ} 0 1 = cc in absurd (omega arith)

nil_of_end : (s : List ℕ) → next_of s ≡ End → s ≡ []
unfolding next_of
nil_of_end [] e = refl
nil_of_end (a ∷ []) e = let z : ◌≡◌ {A = ℕ} 0 1 = cc in absurd (omega arith)
nil_of_end (a ∷ b ∷ s) e = go (ltb (length s) (a * 256 + b)) e
  where
    go : (t : Bool) → cond t Broken (Record (a * 256 + b)) ≡ End → a ∷ b ∷ s ≡ []
    go true e = let z : ◌≡◌ {A = ℕ} 0 1 = cc in absurd (omega arith)
    go false e = let z : ◌≡◌ {A = ℕ} 0 1 = cc in absurd (omega arith)

pub empty_of_end : (s : List ℕ) → next_of s ≡ End → length s ≡ 0
empty_of_end s e = ap length (nil_of_end s e)

-- a record that is found lies inside
fits_of_record : (s : List ℕ) (n : ℕ) → next_of s ≡ Record n → 2 + n ≤ length s
fits_of_record = record_elim (λ (s : List ℕ) (n : ℕ). 2 + n ≤ length s) (λ a b s h. omega arith)

-- ---- the bound does not matter

parts_over_agree : (m n : ℕ) (s : List ℕ) → length s < m → length s < n → parts_over m s ≡ parts_over n s
unfolding parts_over
parts_over_agree zero n s g h = absurd (omega arith)
parts_over_agree (suc m) zero s g h = absurd (omega arith)
parts_over_agree (suc m) (suc n) s g h = go (next_of s) refl (λ t l. parts_over_agree m n t (omega arith) (omega arith))
  where
    go : (q : Next) → next_of s ≡ q → ((t : List ℕ) → length t < length s → parts_over m t ≡ parts_over n t)
        → step q s (parts_over m) ≡ step q s (parts_over n)
    go End e on = refl
    go Broken e on = refl
    go (Record k) e on = ap (after (take k (drop 2 s))) (on (drop (2 + k) s) (omega (arith, fits_of_record s k e, length-drop (2 + k) s)))

-- what bytes start with decides their parts
pub parts_of_step : (s : List ℕ) (q : Next) → next_of s ≡ q → parts_of s ≡ step q s parts_of
unfolding parts_of parts_over
parts_of_step s End e = rw e
parts_of_step s Broken e = rw e
parts_of_step s (Record n) e =
    rw e
    (ap (after (take n (drop 2 s)))
    (parts_over_agree (length s) (suc (length (drop (2 + n) s))) (drop (2 + n) s)
    (omega (arith, fits_of_record s n e, length-drop (2 + n) s)) (omega arith)))

-- what holds of bytes and their parts, record by record
module _ (P : List ℕ → Parts → Type 0) (ends : P [] (record { parts = []; whole = true }))
    (breaks : (s : List ℕ) → next_of s ≡ Broken → P s (record { parts = []; whole = false }))
    (more : (s : List ℕ) (n : ℕ) → next_of s ≡ Record n → (rest : Parts)
    → P (drop (2 + n) s) rest → P s (after (take n (drop 2 s)) rest)) where
  at_end_lem : P [] (parts_of [])
  unfolding parts_of parts_over next_of
  at_end_lem = ends

  elim_over : (k : ℕ) (s : List ℕ) → length s < k → P s (parts_of s)
  elim_over zero s h = absurd (omega arith)
  elim_over (suc k) s h = go (next_of s) refl (elim_over k)
    where
      go : (q : Next) → next_of s ≡ q → ((t : List ℕ) → length t < k → P t (parts_of t)) → P s (parts_of s)
      go End e on = subst (λ (t : List ℕ). P t (parts_of t)) (sym (nil_of_end s e)) at_end_lem
      go Broken e on = subst (P s) (sym (parts_of_step s Broken e)) (breaks s e)
      go (Record n) e on =
          let l : length (drop (2 + n) s) < k = omega (arith, fits_of_record s n e, length-drop (2 + n) s) in
          subst (P s) (sym (parts_of_step s (Record n) e)) (more s n e (parts_of (drop (2 + n) s)) (on (drop (2 + n) s) l))

  pub parts_elim : (s : List ℕ) → P s (parts_of s)
  parts_elim s = elim_over (suc (length s)) s (omega arith)

-- ---- lengths that end at the end

pub length_of_whole : (s : List ℕ) → (parts_of s).whole ≡ true → length s ≡ total (parts_of s).parts
unfolding total
length_of_whole =
    parts_elim
    (λ (s : List ℕ) (r : Parts). r.whole ≡ true → length s ≡ total r.parts)
    (λ w. refl)
    (λ s e w. absurd (true≢false (sym w)))
    (λ s n e rest on w.
    let f = fits_of_record s n e in
    let l : length (take n (drop 2 s)) ≡ n = length-take-le n (drop 2 s) (omega (arith, length-drop 2 s)) in
    omega (arith, length-drop (2 + n) s, on w))

-- ---- at a cursor

module _ (s : List ℕ) (at : ℕ) where
  pub next_end : length s ≤ at → next_of (drop at s) ≡ End
  unfolding next_of
  next_end h = rw (drop_of_length-le s h)

  -- the first two bytes at the cursor
  drop_two : at + 2 ≤ length s → drop at s ≡ get_or s at 0 ∷ get_or s (at + 1) 0 ∷ drop (at + 2) s
  drop_two h =
      let g : at < length s = omega arith in
      let k : suc at < length s = omega arith in
      let e : at + 2 ≡ suc (suc at) = omega arith in
      rw (drop-cons s at 0 g, drop-cons s (suc at) 0 k, e, add-one at)

  pub next_stray : length s ≡ at + 1 → next_of (drop at s) ≡ Broken
  unfolding next_of
  next_stray h =
      let g : at < length s = omega arith in
      rw (drop-cons s at 0 g, drop_of_length-le s {i = suc at} (omega arith))

  pub next_broken : at + 2 ≤ length s → length s - (at + 2) < be 2 s at → next_of (drop at s) ≡ Broken
  unfolding next_of be
  next_broken h l =
      rw (drop_two h, lt-ltb (length (drop (at + 2) s)) (get_or s at 0 * 256 + get_or s (at + 1) 0) (omega (arith, length-drop (at + 2) s)))

  pub next_record : at + 2 ≤ length s → be 2 s at ≤ length s - (at + 2) → next_of (drop at s) ≡ Record (be 2 s at)
  unfolding next_of be
  next_record h l =
      let e : get_or s at 0 * 256 + (get_or s (at + 1) 0 * 1 + 0) ≡ get_or s at 0 * 256 + get_or s (at + 1) 0 = omega arith in
      rw (drop_two h, e, le-ltb (length (drop (at + 2) s)) (get_or s at 0 * 256 + get_or s (at + 1) 0) (omega (arith, length-drop (at + 2) s)))

  -- a record at the cursor lies inside the bytes
  pub fits_at : (n : ℕ) → next_of (drop at s) ≡ Record n → at + 2 + n ≤ length s
  fits_at n e = omega (arith, fits_of_record (drop at s) n e, length-drop at s)

  pub length_part : (n : ℕ) → next_of (drop at s) ≡ Record n → length (take n (drop (at + 2) s)) ≡ n
  length_part n e = length-take-le n (drop (at + 2) s) (omega (arith, fits_at n e, length-drop (at + 2) s))

  -- one step of a pass: the part at the cursor, then what the next cursor has left
  pub parts_record : (n : ℕ) → next_of (drop at s) ≡ Record n
      → parts_of (drop at s) ≡ after (take n (drop (at + 2) s)) (parts_of (drop (at + 2 + n) s))
  parts_record n e =
      let q : at + (2 + n) ≡ at + 2 + n = omega arith in
      parts_of_step (drop at s) (Record n) e ∙ rw (drop-drop 2 at s, drop-drop (2 + n) at s, q)

  pub parts_end : next_of (drop at s) ≡ End → parts_of (drop at s) ≡ record { parts = []; whole = true }
  parts_end e = parts_of_step (drop at s) End e

  pub parts_broken : next_of (drop at s) ≡ Broken → parts_of (drop at s) ≡ record { parts = []; whole = false }
  parts_broken e = parts_of_step (drop at s) Broken e

-- ---- a pass over all records, for any account F of the parts that are left: `F (parts_from s at)` is a loop's invariant

module _ {B : Type 0} (F : List (List ℕ) → B) (s : List ℕ) (at : ℕ) where
  pub pass_record : (n : ℕ) → next_of (drop at s) ≡ Record n → F (parts_from s at) ≡ F (take n (drop (at + 2) s) ∷ parts_from s (at + 2 + n))
  pass_record n e = ap (λ (r : Parts). F r.parts) (parts_record s at n e)

  pub pass_end : next_of (drop at s) ≡ End → F (parts_from s at) ≡ F []
  pass_end e = ap (λ (r : Parts). F r.parts) (parts_end s at e)

  pub pass_broken : next_of (drop at s) ≡ Broken → F (parts_from s at) ≡ F []
  pass_broken e = ap (λ (r : Parts). F r.parts) (parts_broken s at e)

-- where no part passes a test, not the one at the cursor and none after it
module _ (test : List ℕ → Bool) (s : List ℕ) (at : ℕ) where
  pub none_here : (n : ℕ) → next_of (drop at s) ≡ Record n → any_part test (parts_from s at) ≡ false → test (take n (drop (at + 2) s)) ≡ false
  unfolding any_part
  none_here n e h = (false_of_or (test (take n (drop (at + 2) s))) _ (sym (pass_record (any_part test) s at n e) ∙ h)).0

  pub none_later : (n : ℕ) → next_of (drop at s) ≡ Record n → any_part test (parts_from s at) ≡ false
      → any_part test (parts_from s (at + 2 + n)) ≡ false
  unfolding any_part
  none_later n e h = (false_of_or (test (take n (drop (at + 2) s))) _ (sym (pass_record (any_part test) s at n e) ∙ h)).1

-- and of the parts in a row
pub none_first : (test : List ℕ → Bool) (part : List ℕ) (parts : List (List ℕ)) → any_part test (part ∷ parts) ≡ false
    → (test part ≡ false) × (any_part test parts ≡ false)
unfolding any_part
none_first test part parts h = false_of_or (test part) (any_part test parts) h

-- ---- what is left, by what stands at the cursor, for the iterator

module _ (s : List ℕ) (at : ℕ) where
  -- no record at the cursor: no part is left
  pub none_left : ((n : ℕ) → next_of (drop at s) ≡ Record n → ⊥) → parts_from s at ≡ []
  none_left other = go (next_of (drop at s)) refl
    where
      go : (q : Next) → next_of (drop at s) ≡ q → parts_from s at ≡ []
      go End e = ap (λ (r : Parts). r.parts) (parts_end s at e)
      go Broken e = ap (λ (r : Parts). r.parts) (parts_broken s at e)
      go (Record n) e = absurd (other n e)

  -- no part is left, and the bytes do not break off there: they end
  pub whole_left : (next_of (drop at s) ≡ Broken → ⊥) → parts_from s at ≡ [] → (parts_of (drop at s)).whole ≡ true
  whole_left other h = go (next_of (drop at s)) refl
    where
      go : (q : Next) → next_of (drop at s) ≡ q → (parts_of (drop at s)).whole ≡ true
      go End e = ap (λ (r : Parts). r.whole) (parts_end s at e)
      go Broken e = absurd (other e)
      go (Record n) e = let z : take n (drop (at + 2) s) ∷ parts_from s (at + 2 + n) ≡ [] = sym (ap (λ (r : Parts). r.parts) (parts_record s at n e)) ∙ h in cc

-- there are no more parts than bytes
pub few_parts : (s : List ℕ) (at : ℕ) → length (parts_from s at) ≤ length s
few_parts s at = omega (arith, few (drop at s), length-drop at s)
  where
    few : (t : List ℕ) → length (parts_of t).parts ≤ length t
    few =
        parts_elim
        (λ (t : List ℕ) (r : Parts). length r.parts ≤ length t)
        (omega arith)
        (λ t e. omega arith)
        (λ t n e rest on. omega (arith, fits_of_record t n e, length-drop (2 + n) t))
