-- The laws of what sizing stores: runs of records that meet, a bridge before its bus, and what then stands at each record.
-- Assumes nothing.
use Rattle.std.specs.Prelude.{◌≡◌, refl, Bool, true, false, cond, List, [], ◌∷◌, ◌++◌, length, get_or, set, take, drop}
use Rattle.std.proofs.Common.{sym, ap, ap₂, ◌∙◌, append_assoc, add-zero, add-one, length-append, length-take, length-drop, take-add, drop-drop, get_or-append-add}
use Prim.Native.Nat.{ℕ, suc, ◌+◌, ◌-◌, ◌*◌, ◌≤◌, ◌<◌}
use native.Mathlib.Omega.{arith}
use Rattle.std.proofs.Math.ListN.{get_or-append}
use Rattle.std.proofs.lemmas.List.Edits.{sets}
use Rattle.std.proofs.lemmas.List.{set_comm}
use Rattle.std.proofs.Math.Seq.{take-length}
use Rattle.endian.specs.SetsLaws.{sets_sets, get_d_sets_at}
use Rattle.plan_rule.specs.Records.{Function}
use Rattle.plan_rule.proofs.RecordLaws.{IsAt}
use Rattle.plan_sizing.specs.declared.Laid.{Laid}
use Rattle.plan_sizing.specs.Memo.{numbers_of, no_numbers, laid_at, below, memo_of, memo_from, memo_between}

-- ## Stores that do not meet

set_sets : (o : List ℕ) (i v j : ℕ) (ws : List ℕ) → i < j → set (sets o j ws) i v ≡ sets (set o i v) j ws
set_sets o i v j [] h = refl
set_sets o i v j (w ∷ ws) h =
    set_sets (set o j w) i v (suc j) ws (omega arith)
    ∙ ap (λ (p : List ℕ). sets p (suc j) ws) (set_comm o j i w v (λ e. omega arith))

-- a run stored before a later one
sets_before : (o : List ℕ) (i : ℕ) (vs : List ℕ) (j : ℕ) (ws : List ℕ) → i + length vs ≤ j → sets (sets o j ws) i vs
    ≡ sets (sets o i vs) j ws
sets_before o i [] j ws h = refl
sets_before o i (v ∷ vs) j ws h =
    ap (λ (p : List ℕ). sets p (suc i) vs) (set_sets o i v j ws (omega arith)) ∙ sets_before (set o i v) (suc i) vs j ws (omega arith)

-- ## The numbers of a run of records

length_memo_of : (fs : List Function) (i : ℕ) (f : Function) → length (memo_of fs i f) ≡ 7
length_memo_of fs i f = go f.bridge
  where
    go : (t : Bool) → length (cond t (numbers_of (below fs i f.spare_low)) no_numbers) ≡ 7
    go true = refl
    go false = refl

length_memo_from : (fs : List Function) (i : ℕ) (gs : List Function) → length (memo_from fs i gs) ≡ 7 * length gs
unfolding memo_from
length_memo_from fs i [] = refl
length_memo_from fs i (f ∷ gs) =
    length-append (memo_of fs i f) (memo_from fs (suc i) gs) ∙ omega (arith, length_memo_of fs i f, length_memo_from fs (suc i) gs)

memo_from_append : (fs : List Function) (i : ℕ) (gs hs : List Function) → memo_from fs i (gs ++ hs)
    ≡ memo_from fs i gs ++ memo_from fs (i + length gs) hs
unfolding memo_from
memo_from_append fs i [] hs = ap (λ (k : ℕ). memo_from fs k hs) (sym (add-zero i))
memo_from_append fs i (f ∷ gs) hs =
    ap (λ (m : List ℕ). memo_of fs i f ++ m) (memo_from_append fs (suc i) gs hs)
    ∙ sym (append_assoc (memo_of fs i f) (memo_from fs (suc i) gs) (memo_from fs (suc i + length gs) hs))
    ∙ ap (λ (k : ℕ). (memo_of fs i f ++ memo_from fs (suc i) gs) ++ memo_from fs k hs) (omega arith)

module _ (fs : List Function) where
  length_between : (i j : ℕ) → j ≤ length fs → length (take (j - i) (drop i fs)) ≡ j - i
  length_between i j h = omega (arith, length-take (j - i) (drop i fs), length-drop i fs)

  length_memo_between : (i j : ℕ) → j ≤ length fs → length (memo_between fs i j) ≡ 7 * (j - i)
  length_memo_between i j h = length_memo_from fs i (take (j - i) (drop i fs)) ∙ ap (λ (n : ℕ). 7 * n) (length_between i j h)

  pub memo_between_none : (i : ℕ) → memo_between fs i i ≡ []
  unfolding memo_from
  memo_between_none i = let e : i - i ≡ 0 = omega arith in rw e

  -- runs that meet
  memo_between_add : (i j k : ℕ) → i ≤ j → j ≤ k → j ≤ length fs → memo_between fs i k ≡ memo_between fs i j ++ memo_between fs j k
  memo_between_add i j k h l m =
      let n : k - i ≡ (j - i) + (k - j) = omega arith in
      let s : i + (j - i) ≡ j = omega arith in
      let t : i + length (take (j - i) (drop i fs)) ≡ j = omega (arith, length_between i j m) in
      ap (λ (x : ℕ). memo_from fs i (take x (drop i fs))) n
      ∙ ap (memo_from fs i) (take-add (j - i) (k - j) (drop i fs))
      ∙ memo_from_append fs i (take (j - i) (drop i fs)) (take (k - j) (drop (j - i) (drop i fs)))
      ∙ ap₂ (λ (x : ℕ) (gs : List Function). memo_between fs i j ++ memo_from fs x (take (k - j) gs)) t
      (drop-drop (j - i) i fs ∙ ap (λ (x : ℕ). drop x fs) s)

  -- a record, then those after it
  memo_between_cons : (i k : ℕ) (f : Function) → IsAt fs i f → i < k → memo_between fs i k ≡ memo_of fs i f ++ memo_between fs (suc i) k
  unfolding memo_from
  memo_between_cons i k f e h =
      let n : k - i ≡ suc (k - suc i) = omega arith in
      rw (n, e)

-- ## What the code leaves

module _ (fs : List Function) (o : List ℕ) where
  -- two runs of the walk
  pub memo_walked : {o₁ o₂ : List ℕ} (i j k : ℕ) → i ≤ j → j ≤ k → j ≤ length fs
      → o₁ ≡ sets o (7 * i) (memo_between fs i j) → o₂ ≡ sets o₁ (7 * j) (memo_between fs j k) → o₂ ≡ sets o (7 * i) (memo_between fs i k)
  memo_walked i j k h l m p q =
      let s : 7 * i + length (memo_between fs i j) ≡ 7 * j = omega (arith, length_memo_between fs i j m) in
      q
      ∙ ap₂ (λ (a : List ℕ) (n : ℕ). sets a n (memo_between fs j k)) p (sym s)
      ∙ sets_sets o (7 * i) (memo_between fs i j) (memo_between fs j k)
      ∙ ap (sets o (7 * i)) (sym (memo_between_add fs i j k h l m))

  -- a function that is no bridge
  pub memo_leaf : {o₁ : List ℕ} (i : ℕ) (f : Function) → IsAt fs i f → f.bridge ≡ false
      → o₁ ≡ sets o (7 * i) no_numbers → o₁ ≡ sets o (7 * i) (memo_between fs i (suc i))
  memo_leaf i f e b p =
      let n : memo_of fs i f ++ memo_between fs (suc i) (suc i) ≡ no_numbers = rw (b, memo_between_none fs (suc i)) in
      p ∙ ap (sets o (7 * i)) (sym (memo_between_cons fs i (suc i) f e (omega arith) ∙ n))

  -- a bridge, stored after the records below it
  pub memo_bridge : {o₁ o₂ : List ℕ} (i k : ℕ) (f : Function) (inner : Laid) → IsAt fs i f → f.bridge ≡ true → i < k
      → inner ≡ below fs i f.spare_low
      → o₁ ≡ sets o (7 * (i + 1)) (memo_between fs (i + 1) k) → o₂ ≡ sets o₁ (7 * i) (numbers_of inner) → o₂
      ≡ sets o (7 * i) (memo_between fs i k)
  memo_bridge i k f inner e b h g p q =
      let s : 7 * i + 7 ≡ 7 * (i + 1) = omega arith in
      q
      ∙ ap (λ (a : List ℕ). sets a (7 * i) (numbers_of inner)) p
      ∙ sets_before o (7 * i) (numbers_of inner) (7 * (i + 1)) (memo_between fs (i + 1) k) (omega arith)
      ∙ ap (λ (n : ℕ). sets (sets o (7 * i) (numbers_of inner)) n (memo_between fs (i + 1) k)) (sym s)
      ∙ sets_sets o (7 * i) (numbers_of inner) (memo_between fs (i + 1) k)
      ∙ ap (sets o (7 * i))
      (ap₂ (λ (l : Laid) (n : ℕ). numbers_of l ++ memo_between fs n k) g (add-one i) ∙ sym (memo_between_cons fs i k f e h ∙ rw b))

  -- ## What then stands at each record

  -- all records
  pub memo_between_all : memo_between fs 0 (length fs) ≡ memo_from fs 0 fs
  memo_between_all = let e : length fs - 0 ≡ length fs = omega arith in ap (memo_from fs 0) (ap (λ (n : ℕ). take n fs) e ∙ take-length fs)

  module _ (room : 7 * length fs ≤ length o) (i : ℕ) (f : Function) (e : IsAt fs i f) (h : i < length fs) where
    memo_at : (k : ℕ) → k < 7 → get_or (sets o 0 (memo_from fs 0 fs)) (7 * i + k) 0 ≡ get_or (memo_of fs i f) k 0
    memo_at k l =
        let n : ℕ = length fs in
        let z : 0 + (7 * i + k) ≡ 7 * i + k = omega arith in
        let m : length (memo_between fs 0 i) ≡ 7 * i = length_memo_between fs 0 i (omega arith) ∙ omega arith in
        ap (λ (x : ℕ). get_or (sets o 0 (memo_from fs 0 fs)) x 0) (sym z)
        ∙ get_d_sets_at o 0 (memo_from fs 0 fs) (7 * i + k) 0 (omega (arith, length_memo_from fs 0 fs)) (omega arith)
        ∙ ap (λ (v : List ℕ). get_or v (7 * i + k) 0)
        (sym memo_between_all
        ∙ memo_between_add fs 0 i n (omega arith) (omega arith) (omega arith)
        ∙ ap (λ (v : List ℕ). memo_between fs 0 i ++ v) (memo_between_cons fs i n f e h))
        ∙ ap (λ (x : ℕ). get_or (memo_between fs 0 i ++ (memo_of fs i f ++ memo_between fs (suc i) n)) (x + k) 0) (sym m)
        ∙ get_or-append-add (memo_between fs 0 i) (memo_of fs i f ++ memo_between fs (suc i) n) k 0
        ∙ get_or-append (memo_of fs i f) (memo_between fs (suc i) n) 0 k (omega (arith, length_memo_of fs i f))

    -- what lies below a bridge is read back
    pub laid_at_bridge : f.bridge ≡ true → laid_at (sets o 0 (memo_from fs 0 fs)) i ≡ below fs i f.spare_low
    laid_at_bridge b =
        λ j.
        record {
          next = first j;
          low = record { end = each 1 (omega arith) j; align = each 2 (omega arith) j };
          high = record { end = each 3 (omega arith) j; align = each 4 (omega arith) j };
          io = record { end = each 5 (omega arith) j; align = each 6 (omega arith) j };
        }
      where
        each : (k : ℕ) → k < 7 → get_or (sets o 0 (memo_from fs 0 fs)) (7 * i + k) 0 ≡ get_or (numbers_of (below fs i f.spare_low)) k 0
        each k l = memo_at k l ∙ ap (λ (t : Bool). get_or (cond t (numbers_of (below fs i f.spare_low)) no_numbers) k 0) b

        first : get_or (sets o 0 (memo_from fs 0 fs)) (7 * i) 0 ≡ (below fs i f.spare_low).next
        first = rw (add-zero (7 * i)) at (each 0 (omega arith))
