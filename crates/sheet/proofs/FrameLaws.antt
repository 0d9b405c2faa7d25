-- A sheet that passes the 20s is its version byte and records of 92 bytes: what a pass with a cursor finds, where record k starts, and what
-- its part is. Assumes nothing.
use Rattle.std.specs.Prelude.{◌≡◌, refl, Bool, true, false, ◌&&◌, List, [], ◌∷◌, ℕ, zero, suc, ◌+◌, ◌-◌, ◌*◌, ◌/◌, ◌%◌, ◌≤◌, ◌<◌, length, get_or, take, drop, eqb, leb, ltb}
use Rattle.std.proofs.Common.{sym, ap, ◌∙◌, length-drop, ltb-true, ltb-false, leb-true, leb-false, eqb-true, eq-eqb, ne_eqb}
use Rattle.std.proofs.Math.Bool.{and-false, and-eq-true_iff}
use Rattle.std.proofs.lemmas.Bool.{false≢true, eqb-false}
use native.Mathlib.Omega.{arith}
use Rattle.endian.specs.Endian.{be}
use Rattle.records.specs.declared.Next.{Next}
use Rattle.records.specs.declared.Next.TheVariants.{End, Record, Broken}
use Rattle.records.specs.Records.{next_of, Parts, parts_of, parts_from}
use Rattle.records.specs.RecordsLaws.{empty_of_end, fits_at, length_part, next_end, next_broken, next_record, parts_record, parts_end}
use Rattle.records.specs.RecordsLaws.{parts_broken}
use Rattle.sheet_record.specs.Places.{record_size, stride}
use Rattle.sheet.specs.Sheet.{all_sized, is_framed, Framed, parts_in, part_at, sheet_length, record_at}

-- ## One turn of the pass that checks the frame

module _ (s : List ℕ) (at : ℕ) where
  pub framed_end : next_of (drop at s) ≡ End → is_framed (drop at s) ≡ true
  unfolding is_framed all_sized
  framed_end e = rw (parts_end s at e)

  pub framed_broken : next_of (drop at s) ≡ Broken → is_framed (drop at s) ≡ false
  unfolding is_framed
  framed_broken e = rw (parts_broken s at e)

  framed_record : (n : ℕ) → at ≤ length s → next_of (drop at s) ≡ Record n
      → is_framed (drop at s) ≡ ((parts_of (drop (at + 2 + n) s)).whole && (eqb n record_size && all_sized (parts_from s (at + 2 + n))))
  unfolding is_framed all_sized
  framed_record n h e = rw (parts_record s at n e, length_part s at n e)

  pub framed_other : (n : ℕ) → at ≤ length s → next_of (drop at s) ≡ Record n → (n ≡ record_size → ⊥) → is_framed (drop at s) ≡ false
  framed_other n h e k = framed_record n h e ∙ rw (ne_eqb n record_size k) (and-false (parts_of (drop (at + 2 + n) s)).whole)

  pub framed_on : (n : ℕ) → at ≤ length s → next_of (drop at s) ≡ Record n → n ≡ record_size → is_framed (drop at s)
      ≡ is_framed (drop (at + stride) s)
  unfolding is_framed
  framed_on n h e k = let q : at + 2 + n ≡ at + stride = omega arith in framed_record n h e ∙ rw (eq-eqb n record_size k, q)

  -- the record's length, as the code reads it
  pub framed_wrong : at + 2 ≤ length s → (be 2 s at ≡ record_size → ⊥) → is_framed (drop at s) ≡ false
  framed_wrong h k = go (leb (be 2 s at) (length s - (at + 2))) refl
    where
      go : (b : Bool) → leb (be 2 s at) (length s - (at + 2)) ≡ b → is_framed (drop at s) ≡ false
      go true q = framed_other (be 2 s at) (omega (arith, h)) (next_record s at h (leb-true _ _ q)) k
      go false q = framed_broken (next_broken s at h (leb-false _ _ q))

  pub framed_right : at + stride ≤ length s → be 2 s at ≡ record_size → is_framed (drop at s) ≡ is_framed (drop (at + stride) s)
  framed_right h k = framed_on (be 2 s at) (omega (arith, h)) (next_record s at (omega (arith, h)) (omega (arith, h, k))) k

-- ## A record of a framed sheet

pub record FramedAt (s : List ℕ) (at : ℕ) : Type 0 where
  pub fits : at + stride ≤ length s
  pub size : be 2 s at ≡ record_size
  pub rest : is_framed (drop (at + stride) s) ≡ true
  pub parts : parts_from s at ≡ take record_size (drop (at + 2) s) ∷ parts_from s (at + stride)

size_of_record : (s : List ℕ) (at n : ℕ) → at ≤ length s → next_of (drop at s) ≡ Record n → be 2 s at ≡ n
size_of_record s at n h e = go (leb (be 2 s at) (length s - (at + 2))) refl
  where
    fits : at + 2 + n ≤ length s
    fits = fits_at s at n e

    go : (b : Bool) → leb (be 2 s at) (length s - (at + 2)) ≡ b → be 2 s at ≡ n
    go true q = cc (next_record s at (omega (arith, fits)) (leb-true _ _ q), e)
    go false q = absurd (let z : ◌≡◌ {A = ℕ} 0 1 = cc (next_broken s at (omega (arith, fits)) (leb-false _ _ q), e) in omega arith)

pub framed_at : (s : List ℕ) (at : ℕ) → is_framed (drop at s) ≡ true → at < length s → FramedAt s at
framed_at s at f h = go (next_of (drop at s)) refl
  where
    ninety : (n : ℕ) → next_of (drop at s) ≡ Record n → n ≡ record_size → FramedAt s at
    ninety n e k =
        let q : at + 2 + n ≡ at + stride = omega arith in
        record {
          fits = omega (arith, fits_at s at n e);
          size = size_of_record s at n (omega arith) e ∙ k;
          rest = sym (framed_on s at n (omega arith) e k) ∙ f;
          parts = ap (λ (r : Parts). r.parts) (parts_record s at n e) ∙ rw (q, k);
        }

    go : (x : Next) → next_of (drop at s) ≡ x → FramedAt s at
    go End e = absurd (omega (arith, empty_of_end (drop at s) e, length-drop at s))
    go Broken e = absurd (false≢true (sym (framed_broken s at e) ∙ f))
    go (Record n) e =
        let rest = all_sized (parts_from s (at + 2 + n)) in
        let both = (and-eq-true_iff (parts_of (drop (at + 2 + n) s)).whole (eqb n record_size && rest)).0
        (sym (framed_record s at n (omega arith) e) ∙ f) in
        ninety n e (eqb-true n record_size ((and-eq-true_iff (eqb n record_size) rest).0 both.1).0)

pub parts_past : (s : List ℕ) (at : ℕ) → length s ≤ at → parts_from s at ≡ []
parts_past s at h = ap (λ (r : Parts). r.parts) (parts_end s at (next_end s at h))

-- ## By index: where record k, from 0, starts, and its part two bytes later

lt_of_parts : (s : List ℕ) (at : ℕ) → 0 < length (parts_from s at) → at < length s
lt_of_parts s at h = go (ltb at (length s)) refl
  where
    go : (b : Bool) → ltb at (length s) ≡ b → at < length s
    go true e = ltb-true at (length s) e
    go false e = absurd (omega (arith, ap length (parts_past s at (ltb-false at (length s) e))))

count_from_lem : (s : List ℕ) (at : ℕ) (ps : List (List ℕ)) → parts_from s at ≡ ps → is_framed (drop at s) ≡ true → at ≤ length s
    → length s ≡ at + stride * length ps
count_from_lem s at [] e f h = go (ltb at (length s)) refl
  where
    go : (b : Bool) → ltb at (length s) ≡ b → length s ≡ at + stride * 0
    go true q = absurd (omega (arith, ap length (framed_at s at f (ltb-true at (length s) q)).parts, ap length e))
    go false q = omega (arith, ltb-false at (length s) q)
count_from_lem s at (p ∷ ps) e f h =
    let a = framed_at s at f (lt_of_parts s at (omega (arith, ap length e))) in
    let tail : parts_from s (at + stride) ≡ ps = cc (a.parts, e) in
    omega (arith, count_from_lem s (at + stride) ps tail a.rest a.fits)

part_from_lem : (s : List ℕ) (at k : ℕ) → is_framed (drop at s) ≡ true → k < length (parts_from s at)
    → get_or (parts_from s at) k [] ≡ take record_size (drop (stride * k + at + 2) s)
part_from_lem s at zero f h =
    let a = framed_at s at f (lt_of_parts s at (omega arith)) in
    let n : stride * 0 + at + 2 ≡ at + 2 = omega arith in
    rw (a.parts, n)
part_from_lem s at (suc k) f h =
    let a = framed_at s at f (lt_of_parts s at (omega arith)) in
    let n : stride * suc k + at + 2 ≡ stride * k + (at + stride) + 2 = omega arith in
    rw (a.parts, n) (part_from_lem s (at + stride) k a.rest (omega (arith, ap length a.parts)))

pub length_framed : (s : List ℕ) → Framed 1 s → length s ≡ sheet_length (length (parts_in s))
length_framed s f = count_from_lem s 1 (parts_in s) refl f.sized f.inside

-- lengths that are all right end at the end just where no bytes are left over
pub framed_whole : (s : List ℕ) → 1 ≤ length s → is_framed (drop (record_at ((length s - 1) / stride)) s) ≡ is_framed (drop 1 s)
    → eqb ((length s - 1) % stride) 0 ≡ is_framed (drop 1 s)
framed_whole s h e = go (eqb ((length s - 1) % stride) 0) refl
  where
    ragged : ((length s - 1) % stride ≡ 0 → ⊥) → (b : Bool) → is_framed (drop 1 s) ≡ b → false ≡ b
    ragged n true q = absurd (n (omega (arith, count_from_lem s 1 (parts_in s) refl q h)))
    ragged n false q = refl

    go : (b : Bool) → eqb ((length s - 1) % stride) 0 ≡ b → b ≡ is_framed (drop 1 s)
    go true q =
        sym (framed_end s (record_at ((length s - 1) / stride))
        (next_end s (record_at ((length s - 1) / stride)) (omega (arith, eqb-true ((length s - 1) % stride) 0 q))))
        ∙ e
    go false q = ragged (eqb-false ((length s - 1) % stride) 0 q) (is_framed (drop 1 s)) refl

pub part_index : (s : List ℕ) (k : ℕ) → Framed 1 s → k < length (parts_in s) → get_or (parts_in s) k [] ≡ part_at s k
part_index s k f h = let n : stride * k + 1 + 2 ≡ record_at k + 2 = omega arith in part_from_lem s 1 k f.sized h ∙ rw n
