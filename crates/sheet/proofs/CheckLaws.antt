-- One turn of each pass over a framed sheet, in the words of the code: the record at the cursor is the part that the code takes. Assumes
-- nothing.
use Rattle.std.specs.Prelude.{◌≡◌, refl, Bool, true, false, cond, ◌&&◌, List, [], ◌∷◌, ℕ, ◌+◌, ◌-◌, ◌≤◌, length, take, drop, ltb}
use Rattle.std.proofs.Common.{sym, arith, length-drop, length-take-le, ltb-true, ltb-false}
use Rattle.std.proofs.Math.Path.{ap}
use Rattle.std.proofs.Math.Bool.{not, and-true}
use Rattle.std.proofs.lemmas.List.{length-map}
use Rattle.sheet.specs.declared.Rule.TheVariants.{HeaderType, Buses, ReadBacks, Nibbles}
use Rattle.endian.specs.Endian.{be, le}
use Rattle.bar.specs.Values.{values_lawful}
use Rattle.sheet_record.specs.Places.{values_at, readbacks_at, record_size, stride}
use Rattle.sheet_record.specs.Entry.{Entry, dwords, header_of, is_bridge, slot_count, entry_of}
use Rattle.sheet.specs.Sheet.{any_breaks, id_twice, from24, from25, from27, from28, from29}
use Rattle.sheet.specs.Sheet.{Framed, parts_in, entries_from, all_zero, read_backs_wrong, sheet_length}
use Rattle.sheet.proofs.FrameLaws.{FramedAt, framed_at, parts_past, length_framed}

-- the record's part, by its two ends
abbrev pub part_from : List ℕ → ℕ → List ℕ
part_from s at = take (at + stride - (at + 2)) (drop (at + 2) s)

module _ (s : List ℕ) (at : ℕ) (a : FramedAt s at) where
  part_size : at + stride - (at + 2) ≡ record_size
  part_size = omega arith

  pub entries_on : entries_from s at ≡ entry_of (part_from s at) ∷ entries_from s (at + stride)
  unfolding entries_from
  entries_on = rw (part_size, a.parts)

module _ (s : List ℕ) (at : ℕ) (h : length s ≤ at) where
  pub entries_past : entries_from s at ≡ []
  unfolding entries_from
  entries_past = rw (parts_past s at h)

-- ## The records from a place on, by cases

pub record FirstAt (s : List ℕ) (at : ℕ) (x : Entry) (es : List Entry) : Type 0 where
  pub here : FramedAt s at
  pub head : entry_of (part_from s at) ≡ x
  pub rest : Framed (at + stride) s
  pub tail : entries_from s (at + stride) ≡ es

pub first_at : (s : List ℕ) (at : ℕ) (x : Entry) (es : List Entry) → Framed at s → entries_from s at ≡ x ∷ es → FirstAt s at x es
first_at s at x es f e = go (ltb at (length s)) refl
  where
    go : (b : Bool) → ltb at (length s) ≡ b → FirstAt s at x es
    go true l =
        let h = framed_at s at f.sized (ltb-true at (length s) l) in
        record {
          here = h;
          head = cc (entries_on s at h, e);
          rest = record { inside = h.fits; sized = h.rest };
          tail = cc (entries_on s at h, e);
        }
    go false l = absurd (let z : ◌≡◌ {A = ℕ} 0 1 = cc (entries_past s at (ltb-false at (length s) l), e) in omega arith)

pub past_of_nil : (s : List ℕ) (at : ℕ) → Framed at s → entries_from s at ≡ [] → length s ≤ at
past_of_nil s at f e = go (ltb at (length s)) refl
  where
    go : (b : Bool) → ltb at (length s) ≡ b → length s ≤ at
    go true l =
        let h = framed_at s at f.sized (ltb-true at (length s) l) in
        absurd (let z : ◌≡◌ {A = ℕ} 0 1 = cc (entries_on s at h, e) in omega arith)
    go false l = ltb-false at (length s) l

-- the number of records, by the sheet's length
pub count_entries : (s : List ℕ) → Framed 1 s → length s ≡ sheet_length (length (entries_from s 1))
unfolding entries_from
count_entries s f = rw (length-map (parts_in s) entry_of) (length_framed s f)

-- ## Check 25, in the words of the code

module _ (p rs vs : List ℕ) (n : ℕ) (lawful : Bool) (r : rs ≡ dwords (be 4) 6 p readbacks_at) (v : vs ≡ dwords (le 4) 6 p values_at)
    (c : n ≡ slot_count (header_of p)) (l : lawful ≡ values_lawful (take n rs) (take n vs)) where
  pub read_backs_of_bridge : (rest : Bool) → is_bridge (header_of p) ≡ true → rest ≡ all_zero (dwords (be 4) 4 p (readbacks_at + 8))
      → not (lawful && rest) ≡ read_backs_wrong (entry_of p)
  unfolding entry_of dwords read_backs_wrong
  read_backs_of_bridge rest b z = rw (l, z, c, r, v, b)

  pub read_backs_of_end : is_bridge (header_of p) ≡ false → not lawful ≡ read_backs_wrong (entry_of p)
  unfolding entry_of dwords read_backs_wrong all_zero
  read_backs_of_end b = rw (l, c, r, v, b)
      (ap not (sym (and-true (values_lawful (take 6 (dwords (be 4) 6 p readbacks_at)) (take 6 (dwords (le 4) 6 p values_at))))))

-- ## The checks from 24 on, in their order

pub from24_in_order : (es : List Entry) → from24 es
    ≡ cond (any_breaks HeaderType es) 24
    (cond (any_breaks Buses es) 27
    (cond (id_twice es) 28 (cond (any_breaks ReadBacks es) 25 (cond (any_breaks Nibbles es) 29 0))))
unfolding from24 from27 from28 from25 from29
from24_in_order es = refl
