-- A sheet longer than a full one: its frame, byte by byte, comes to document 01's number. Assumes nothing.
use Rattle.std.specs.Prelude.{◌≡◌, Bool, cond, not, ◌&&◌, ◌||◌, ℕ, ◌-◌, ◌<◌, length, drop, eqb}
use Rattle.std.proofs.Math.Path.{refl}
use Rattle.std.proofs.Common.{sym, ap, ◌∙◌, arith, ne_eqb, lt-ltb}
use Rattle.std.proofs.Math.Bool.{true, false, or-false}
use mathlib.Core.List.{List, [], ◌∷◌, foldl}
use Rattle.records.specs.declared.frame.Stage.{Stage}
use Rattle.records.specs.declared.frame.Stage.TheVariants.{Start, Other, Between}
use Rattle.records.specs.declared.frame.Event.TheVariants.{Version, Foreign}
use Rattle.records.specs.declared.frame.Ending.{Ending}
use Rattle.records.specs.declared.frame.Ending.TheVariants.{Empty, Unread, Whole, Cut}
use Rattle.records.specs.Limits.{most_functions}
use Rattle.records.specs.Records.{parts_of}
use Rattle.records.specs.Frame.{version_of, stage_after, stage_of, heard_of, ending_of, heard_bytes, heard_part}
use Rattle.records.specs.FrameLaws.{stage_other, heard_whole, ending_parts}
use Rattle.sheet_record.specs.Places.{record_size}
use Rattle.sheet.specs.Sheet.{Framed, full_sheet, all_sized, is_framed, entries_of, from22, from20, from21, sheet_number}
use Rattle.sheet.proofs.FrameLaws.{length_framed}
use Rattle.sheet.proofs.IndexLaws.{length_entries}
use Rattle.audit_feed.specs.Feed.{heard_by, number_at}

-- ## What is noted of whole records

-- the bytes of a record do not matter
noted_bytes : (left : ℕ) (m : Bool) (p : List ℕ) → heard_bytes heard_by left m p ≡ m
unfolding heard_bytes
noted_bytes left m [] = refl
noted_bytes left m (b ∷ p) = noted_bytes (left - 1) m p

noted_part : (m : Bool) (p : List ℕ) → heard_part heard_by m p ≡ m || not (eqb (length p) record_size)
unfolding heard_part
noted_part m p = noted_bytes (length p) (m || not (eqb (length p) record_size)) p

noted : (m : Bool) (ps : List (List ℕ)) → foldl (heard_part heard_by) m ps ≡ m || not (all_sized ps)
unfolding all_sized
noted m [] = sym (or-false m)
noted m (p ∷ ps) =
    ap (λ (b : Bool). foldl (heard_part heard_by) b ps) (noted_part m p)
    ∙ noted (m || not (eqb (length p) record_size)) ps
    ∙ joined m (eqb (length p) record_size) (all_sized ps)
  where
    joined : (a b c : Bool) → (a || not b) || not c ≡ a || not (b && c)
    joined true b c = refl
    joined false true c = refl
    joined false false c = refl

-- ## Its number, as the sheet's checks have it

-- records of 90 bytes that come to more than a full sheet are too many
too_many : (s : List ℕ) → full_sheet < length s → is_framed (drop 1 s) ≡ true → from22 (entries_of s) ≡ 22
unfolding from22
too_many s long framed =
    let f : Framed 1 s = record { inside = omega arith; sized = framed } in
    let many : most_functions < length (entries_of s) = omega (arith, length_framed s f, length_entries s) in
    rw (lt-ltb most_functions (length (entries_of s)) many)

module _ (v : ℕ) (r : List ℕ) (long : full_sheet < length (v ∷ r)) where
  framed_number : (whole sized : Bool) → (parts_of r).whole ≡ whole → all_sized (parts_of r).parts ≡ sized
      → (m : Bool) → (whole ≡ true → m ≡ not sized) → number_at (cond whole Whole Cut) m ≡ from20 (v ∷ r)
  unfolding from20 is_framed
  framed_number false sized w a m e = rw w
  framed_number true false w a m e = rw (e refl, w, a)
  framed_number true true w a m e = rw (e refl, w, a) (sym (too_many (v ∷ r) long (rw (w, a))))

  pub of_version : number_at (ending_of (stage_of Between r)) (heard_of heard_by Between false r) ≡ from20 (v ∷ r)
  of_version =
      ap (λ (e : Ending). number_at e (heard_of heard_by Between false r)) (ending_parts r)
      ∙ framed_number (parts_of r).whole (all_sized (parts_of r).parts) refl refl (heard_of heard_by Between false r)
      (λ w. heard_whole heard_by (λ m b. refl) r w false ∙ noted false (parts_of r).parts)

-- fed byte by byte, a sheet longer than a full one comes to the sheet's number
pub long_sheet_number : (s : List ℕ) → full_sheet < length s
    → number_at (ending_of (stage_of Start s)) (heard_of heard_by Start false s) ≡ sheet_number s
unfolding sheet_number from21 stage_of heard_of version_of
long_sheet_number [] h = absurd (omega arith)
long_sheet_number (v ∷ r) h =
    let n : eqb (length (v ∷ r)) 0 ≡ false = ne_eqb (length (v ∷ r)) 0 (λ z. omega arith) in
    rw n (go (eqb v 1))
  where
    go : (t : Bool)
        → number_at (ending_of (stage_of (stage_after (cond t Version Foreign)) r))
        (heard_of heard_by (stage_after (cond t Version Foreign)) (heard_by false (cond t Version Foreign)) r)
        ≡ cond t (from20 (v ∷ r)) 21
    go true = of_version v r h
    go false = ap (λ (g : Stage). number_at (ending_of g) (heard_of heard_by Other false r)) (stage_other r)

-- no such number is 0
pub frame_nonzero : (e : Ending) (m : Bool) → number_at e m ≡ 0 → ⊥
frame_nonzero Empty m z = absurd (omega (arith, z))
frame_nonzero Unread m z = absurd (omega (arith, z))
frame_nonzero Whole true z = absurd (omega (arith, z))
frame_nonzero Whole false z = absurd (omega (arith, z))
frame_nonzero Cut m z = absurd (omega (arith, z))
