-- The laws of a frame taken byte by byte: pieces in a row are one, a loop's turn, and what whole records and a cut one come to, by the
-- parts of Records. Assumes nothing.
use Rattle.std.specs.Prelude.{◌≡◌, Bool, false, cond, get_or, take, drop, eqb}
use Rattle.std.proofs.Math.Path.{refl, sym, ap, ap₂}
use Rattle.std.proofs.Common.{◌∙◌, true≢false, take-append-drop, drop_of_length-le, drop-cons, ne_eqb}
use Rattle.std.proofs.Math.Bool.{true}
use mathlib.Core.List.{List, [], ◌∷◌, ◌++◌, foldl}
use Prim.Native.Nat.{ℕ, zero, suc, ◌+◌, ◌-◌, ◌*◌, ◌≤◌, ◌<◌}
use Rattle.std.proofs.Math.Numerals.{add-one}
use native.Mathlib.Omega.{arith}
use Rattle.std.proofs.Math.ListN.{length}
use Rattle.std.proofs.Math.Seq.{length-take-le}
use Rattle.records.specs.declared.Next.TheVariants.{Record, Broken}
use Rattle.records.specs.declared.frame.Stage.{Stage}
use Rattle.records.specs.declared.frame.Stage.TheVariants.{Start, Other, Between, Inside}
use Rattle.records.specs.declared.frame.Event.{Event}
use Rattle.records.specs.declared.frame.Event.TheVariants.{Version, Foreign, Passed, Half, Begins, Byte}
use Rattle.records.specs.declared.frame.Ending.TheVariants.{Unread, Whole, Cut}
use Rattle.records.specs.Records.{next_of, Parts, parts_of}
use Rattle.records.specs.RecordsLaws.{record_elim, broken_elim, parts_elim}
use Rattle.records.specs.Frame.{version_of, event_of, inside_of, stage_after, stage_of, heard_of, ending_of, heard_bytes, heard_part, end_of}

-- ## Pieces

-- two pieces in a row are one
pub stage_append : (g : Stage) (s t : List ℕ) → stage_of g (s ++ t) ≡ stage_of (stage_of g s) t
unfolding stage_of
stage_append g [] t = refl
stage_append g (b ∷ s) t = stage_append (stage_after (event_of g b)) s t

pub heard_append : {A : Type 0} (hear : A → Event → A) (g : Stage) (a : A) (s t : List ℕ)
    → heard_of hear g a (s ++ t) ≡ heard_of hear (stage_of g s) (heard_of hear g a s) t
unfolding heard_of stage_of
heard_append hear g a [] t = refl
heard_append hear g a (b ∷ s) t = heard_append hear (stage_after (event_of g b)) (hear a (event_of g b)) s t

-- a loop over a piece: one byte more, and none left
module _ (g : Stage) (p : List ℕ) (i : ℕ) where
  pub stage_at : i < length p → stage_of g (drop i p) ≡ stage_of (stage_after (event_of g (get_or p i 0))) (drop (i + 1) p)
  unfolding stage_of
  stage_at h = rw (drop-cons p i 0 h, add-one i)

  pub stage_past : length p ≤ i → stage_of g (drop i p) ≡ g
  unfolding stage_of
  stage_past h = rw (drop_of_length-le p h)

module _ {A : Type 0} (hear : A → Event → A) (g : Stage) (a : A) (p : List ℕ) (i : ℕ) where
  pub heard_at : i < length p
      → heard_of hear g a (drop i p) ≡ heard_of hear (stage_after (event_of g (get_or p i 0))) (hear a (event_of g (get_or p i 0))) (drop (i + 1) p)
  unfolding heard_of
  heard_at h = rw (drop-cons p i 0 h, add-one i)

  pub heard_past : length p ≤ i → heard_of hear g a (drop i p) ≡ a
  unfolding heard_of
  heard_past h = rw (drop_of_length-le p h)

-- ## After another version

pub stage_other : (s : List ℕ) → stage_of Other s ≡ Other
unfolding stage_of
stage_other [] = refl
stage_other (b ∷ s) = stage_other s

pub heard_other : {A : Type 0} (hear : A → Event → A) → ((a : A) → hear a Passed ≡ a) → (a : A) (s : List ℕ) → heard_of hear Other a s ≡ a
unfolding heard_of
heard_other hear passed a [] = refl
heard_other hear passed a (b ∷ s) = heard_other hear passed (hear a Passed) s ∙ passed a

-- ## The bytes of one record

inside_suc : (n : ℕ) → inside_of (suc n) ≡ Inside (suc n)
unfolding inside_of
inside_suc n = rw (ne_eqb (suc n) 0 (λ e. omega arith))

-- a byte of a record
stage_byte : (n b : ℕ) (s : List ℕ) → stage_of (inside_of (suc n)) (b ∷ s) ≡ stage_of (inside_of n) s
unfolding stage_of
stage_byte n b s =
    let e : suc n - 1 ≡ n = omega arith in
    ap (λ (g : Stage). stage_of g (b ∷ s)) (inside_suc n) ∙ ap (λ (k : ℕ). stage_of (inside_of k) s) e

-- the first bytes of a record
stage_inside : (left : ℕ) (s : List ℕ) → length s ≤ left → stage_of (inside_of left) s ≡ inside_of (left - length s)
unfolding stage_of
stage_inside left [] h = let e : left ≡ left - 0 = omega arith in ap inside_of e
stage_inside zero (b ∷ s) h = absurd (omega arith)
stage_inside (suc n) (b ∷ s) h =
    let e : n - length s ≡ suc n - suc (length s) = omega arith in
    stage_byte n b s ∙ stage_inside n s (omega arith) ∙ ap inside_of e

-- the bytes of a length
stage_length : (a b : ℕ) (s : List ℕ) → stage_of Between (a ∷ b ∷ s) ≡ stage_of (inside_of (a * 256 + b)) s
unfolding stage_of
stage_length a b s = refl

ending_inside : (n : ℕ) → 0 < n → ending_of (inside_of n) ≡ Cut
ending_inside zero h = absurd (omega arith)
ending_inside (suc n) h = ap ending_of (inside_suc n)

module _ {A : Type 0} (hear : A → Event → A) where
  heard_byte : (n b : ℕ) (a : A) (s : List ℕ) → heard_of hear (inside_of (suc n)) a (b ∷ s) ≡ heard_of hear (inside_of n) (hear a (Byte b n)) s
  unfolding heard_of
  heard_byte n b a s =
      let e : suc n - 1 ≡ n = omega arith in
      ap (λ (g : Stage). heard_of hear g a (b ∷ s)) (inside_suc n) ∙ ap (λ (k : ℕ). heard_of hear (inside_of k) (hear a (Byte b k)) s) e

  heard_bytes_suc : (n b : ℕ) (a : A) (s : List ℕ) → heard_bytes hear (suc n) a (b ∷ s) ≡ heard_bytes hear n (hear a (Byte b n)) s
  unfolding heard_bytes
  heard_bytes_suc n b a s = let e : suc n - 1 ≡ n = omega arith in ap (λ (k : ℕ). heard_bytes hear k (hear a (Byte b k)) s) e

  heard_inside : (left : ℕ) (a : A) (s : List ℕ) → length s ≤ left → heard_of hear (inside_of left) a s ≡ heard_bytes hear left a s
  unfolding heard_of heard_bytes
  heard_inside left a [] h = refl
  heard_inside zero a (b ∷ s) h = absurd (omega arith)
  heard_inside (suc n) a (b ∷ s) h =
      heard_byte n b a s ∙ heard_inside n (hear a (Byte b n)) s (omega arith) ∙ sym (heard_bytes_suc n b a s)

-- ## Whole records, and a cut one

-- a record's bytes and what follows it
stage_part : (n : ℕ) (s : List ℕ) → n ≤ length s → stage_of (inside_of n) s ≡ stage_of Between (drop n s)
unfolding inside_of
stage_part n s h =
    let l = length-take-le n s h in
    let z : n - length (take n s) ≡ 0 = omega arith in
    ap (stage_of (inside_of n)) (sym (take-append-drop n s))
    ∙ stage_append (inside_of n) (take n s) (drop n s)
    ∙ ap (λ (g : Stage). stage_of g (drop n s)) (stage_inside n (take n s) (omega arith) ∙ ap inside_of z)

drop_length : (a b n : ℕ) (s : List ℕ) → drop (2 + n) (a ∷ b ∷ s) ≡ drop n s
drop_length a b n s = let e : 2 + n ≡ suc (suc n) = omega arith in rw e

pub stage_record : (s : List ℕ) (n : ℕ) → next_of s ≡ Record n → stage_of Between s ≡ stage_of Between (drop (2 + n) s)
stage_record =
    record_elim (λ (s : List ℕ) (n : ℕ). stage_of Between s ≡ stage_of Between (drop (2 + n) s))
    (λ a b s h. stage_length a b s ∙ stage_part (a * 256 + b) s h ∙ ap (stage_of Between) (sym (drop_length a b (a * 256 + b) s)))

ending_broken : (s : List ℕ) → next_of s ≡ Broken → ending_of (stage_of Between s) ≡ Cut
unfolding stage_of
ending_broken =
    broken_elim (λ (s : List ℕ). ending_of (stage_of Between s) ≡ Cut) (λ a. refl)
    (λ a b s h.
    ap ending_of (stage_length a b s ∙ stage_inside (a * 256 + b) s (omega arith)) ∙ ending_inside (a * 256 + b - length s) (omega arith))

pub ending_parts : (s : List ℕ) → ending_of (stage_of Between s) ≡ cond (parts_of s).whole Whole Cut
unfolding stage_of
ending_parts =
    parts_elim (λ (s : List ℕ) (r : Parts). ending_of (stage_of Between s) ≡ cond r.whole Whole Cut) refl ending_broken
    (λ s n e rest on. ap ending_of (stage_record s n e) ∙ on)

-- what any bytes are, where they end
pub ending_agree : (s : List ℕ) → ending_of (stage_of Start s) ≡ end_of s
unfolding stage_of version_of end_of
ending_agree [] = refl
ending_agree (v ∷ s) = go (eqb v 1)
  where
    go : (t : Bool) → ending_of (stage_of (stage_after (cond t Version Foreign)) s) ≡ cond t (cond (parts_of s).whole Whole Cut) Unread
    go true = ending_parts s
    go false = ap ending_of (stage_other s)

-- an account that lets a length's first byte pass
module _ {A : Type 0} (hear : A → Event → A) (half : (a : A) (b : ℕ) → hear a (Half b) ≡ a) where
  heard_length : (a : A) (x y : ℕ) (s : List ℕ)
      → heard_of hear Between a (x ∷ y ∷ s) ≡ heard_of hear (inside_of (x * 256 + y)) (hear a (Begins (x * 256 + y))) s
  unfolding heard_of
  heard_length a x y s = ap (λ (c : A). heard_of hear (inside_of (x * 256 + y)) (hear c (Begins (x * 256 + y))) s) (half a x)

  heard_part_lem : (a : A) (n : ℕ) (s : List ℕ) → n ≤ length s
      → heard_of hear (inside_of n) (hear a (Begins n)) s ≡ heard_of hear Between (heard_part hear a (take n s)) (drop n s)
  unfolding inside_of heard_part
  heard_part_lem a n s h =
      let l = length-take-le n s h in
      let z : n - length (take n s) ≡ 0 = omega arith in
      let p = heard_inside hear n (hear a (Begins n)) (take n s) (omega arith) in
      ap (heard_of hear (inside_of n) (hear a (Begins n))) (sym (take-append-drop n s))
      ∙ heard_append hear (inside_of n) (hear a (Begins n)) (take n s) (drop n s)
      ∙ ap₂ (λ (g : Stage) (c : A). heard_of hear g c (drop n s)) (stage_inside n (take n s) (omega arith) ∙ ap inside_of z)
      (p ∙ ap (λ (k : ℕ). heard_bytes hear k (hear a (Begins k)) (take n s)) (sym l))

  pub heard_record : (s : List ℕ) (n : ℕ) → next_of s ≡ Record n → (a : A)
      → heard_of hear Between a s ≡ heard_of hear Between (heard_part hear a (take n (drop 2 s))) (drop (2 + n) s)
  heard_record =
      record_elim
      (λ (s : List ℕ) (n : ℕ).
      (a : A) → heard_of hear Between a s ≡ heard_of hear Between (heard_part hear a (take n (drop 2 s))) (drop (2 + n) s))
      (λ x y s h a.
      heard_length a x y s
      ∙ heard_part_lem a (x * 256 + y) s h
      ∙ ap (heard_of hear Between (heard_part hear a (take (x * 256 + y) s))) (sym (drop_length x y (x * 256 + y) s)))

  -- records that end at the end
  pub heard_whole : (s : List ℕ) → (parts_of s).whole ≡ true → (a : A)
      → heard_of hear Between a s ≡ foldl (heard_part hear) a (parts_of s).parts
  unfolding heard_of
  heard_whole =
      parts_elim
      (λ (s : List ℕ) (r : Parts). r.whole ≡ true → (a : A) → heard_of hear Between a s ≡ foldl (heard_part hear) a r.parts)
      (λ w a. refl)
      (λ s e w. absurd (true≢false (sym w)))
      (λ s n e rest on w a. heard_record s n e a ∙ on w (heard_part hear a (take n (drop 2 s))))

  -- what is looked at changes with a record's last byte only: then a record that is cut changes nothing
  module _ {B : Type 0} (look : A → B) (begun : (a : A) (n : ℕ) → look (hear a (Begins (suc n))) ≡ look a)
      (within : (a : A) (b n : ℕ) → look (hear a (Byte b (suc n))) ≡ look a) where
    look_bytes : (left : ℕ) (a : A) (s : List ℕ) → length s < left → look (heard_bytes hear left a s) ≡ look a
    unfolding heard_bytes
    look_bytes left a [] h = refl
    look_bytes zero a (b ∷ s) h = absurd (omega arith)
    look_bytes (suc zero) a (b ∷ s) h = absurd (omega arith)
    look_bytes (suc (suc n)) a (b ∷ s) h =
        ap look (heard_bytes_suc hear (suc n) b a s) ∙ look_bytes (suc n) (hear a (Byte b (suc n))) s (omega arith) ∙ within a b n

    look_begun : (n : ℕ) (a : A) → 0 < n → look (hear a (Begins n)) ≡ look a
    look_begun zero a h = absurd (omega arith)
    look_begun (suc n) a h = begun a n

    look_broken : (s : List ℕ) → next_of s ≡ Broken → (a : A) → look (heard_of hear Between a s) ≡ look a
    unfolding heard_of
    look_broken =
        broken_elim (λ (s : List ℕ). (a : A) → look (heard_of hear Between a s) ≡ look a) (λ x a. ap look (half a x))
        (λ x y s h a.
        ap look (heard_length a x y s ∙ heard_inside hear (x * 256 + y) (hear a (Begins (x * 256 + y))) s (omega arith))
        ∙ look_bytes (x * 256 + y) (hear a (Begins (x * 256 + y))) s h
        ∙ look_begun (x * 256 + y) a (omega arith))

    pub look_parts : (s : List ℕ) (a : A) → look (heard_of hear Between a s) ≡ look (foldl (heard_part hear) a (parts_of s).parts)
    unfolding heard_of
    look_parts =
        parts_elim
        (λ (s : List ℕ) (r : Parts). (a : A) → look (heard_of hear Between a s) ≡ look (foldl (heard_part hear) a r.parts))
        (λ a. refl)
        look_broken
        (λ s n e rest on a. ap look (heard_record s n e a) ∙ on (heard_part hear a (take n (drop 2 s))))
