-- One turn of each pass over a framed sheet, by the place of the record in the sheet: the part that starts there, and what is left after it.
-- Assumes nothing.
use Rattle.std.specs.Prelude.{◌≡◌, Bool, true, false, ◌||◌, Some, None, ℕ, ◌+◌, ◌-◌, ◌/◌, ◌≤◌, ◌<◌, length, drop}
use Rattle.std.proofs.Common.{ap₂, ◌∙◌, arith, length-drop, length-take-le, eq-eqb, ne_eqb}
use Rattle.std.proofs.Math.Path.{sym, ap}
use mathlib.Core.List.{List, [], ◌∷◌, ◌++◌, append_assoc, append-nil}
use Rattle.sheet.specs.declared.Rule.{Rule}
use Rattle.sheet_record.specs.Places.{record_size, stride}
use Rattle.sheet_record.specs.Entry.{Entry, id_of, entry_of}
use Rattle.sheet_marks.specs.Marks.{is_marked, marked}
use Rattle.sheet.specs.Sheet.{entries_from, entries_of, breaks, any_breaks, find_from, has_id, id_twice}
use Rattle.sheet.specs.ReadSoFar.{ReadSoFar}
use Rattle.sheet.proofs.FrameLaws.{FramedAt}
use Rattle.sheet.proofs.CheckLaws.{part_from, entries_on, entries_past}
use Rattle.sheet.proofs.ReadSoFarLaws.{twice_more, twice_append, exactly_more}

module _ (s : List ℕ) (at : ℕ) (a : FramedAt s at) where
  part_size : at + stride - (at + 2) ≡ record_size
  part_size = omega arith

  pub part_sized : length (part_from s at) ≡ record_size
  part_sized = rw part_size (length-take-le record_size (drop (at + 2) s) (omega (arith, a.fits, length-drop (at + 2) s)))

  pub breaks_hit : (rule : Rule) → breaks rule (entry_of (part_from s at)) ≡ true → any_breaks rule (entries_from s at) ≡ true
  unfolding any_breaks
  breaks_hit rule e = ap (any_breaks rule) (entries_on s at a) ∙ rw e

  pub breaks_miss : (rule : Rule) → breaks rule (entry_of (part_from s at)) ≡ false
      → any_breaks rule (entries_from s at) ≡ any_breaks rule (entries_from s (at + stride))
  unfolding any_breaks
  breaks_miss rule e = ap (any_breaks rule) (entries_on s at a) ∙ rw e

  pub find_hit : (id : ℕ) → id_of (part_from s at) ≡ id → find_from id at (entries_from s at) ≡ Some at
  unfolding find_from entry_of
  find_hit id e = ap (find_from id at) (entries_on s at a) ∙ rw (eq-eqb (id_of (part_from s at)) id e)

  pub find_miss : (id : ℕ) → (id_of (part_from s at) ≡ id → ⊥) → find_from id at (entries_from s at)
      ≡ find_from id (at + stride) (entries_from s (at + stride))
  unfolding find_from entry_of
  find_miss id e = ap (find_from id at) (entries_on s at a) ∙ rw (ne_eqb (id_of (part_from s at)) id e)

module _ (s : List ℕ) (at : ℕ) (h : length s ≤ at) where
  pub breaks_past : (rule : Rule) → any_breaks rule (entries_from s at) ≡ false
  unfolding any_breaks
  breaks_past rule = ap (any_breaks rule) (entries_past s at h)

  pub find_past : (id : ℕ) → find_from id at (entries_from s at) ≡ None
  unfolding find_from
  find_past id = ap (find_from id at) (entries_past s at h)

-- ## Check 28: whether the ID was read

module _ (s : List ℕ) (at : ℕ) (a : FramedAt s at) (ws : List ℕ) (r : ReadSoFar s at ws) (id : ℕ) (own : id ≡ id_of (part_from s at)) where
  here : Entry
  here = entry_of (part_from s at)

  own_id : here.id ≡ id
  unfolding here entry_of
  own_id = sym own

  -- whether the record's ID was read
  was_read : has_id here.id r.read ≡ is_marked ws id
  was_read = sym (r.exactly here.id) ∙ ap (is_marked ws) own_id

  one_more : (r.read ++ (here ∷ [])) ++ entries_from s (at + stride) ≡ entries_of s
  unfolding here
  one_more =
      append_assoc r.read (entry_of (part_from s at) ∷ []) (entries_from s (at + stride))
      ∙ ap (λ (es : List Entry). r.read ++ es) (sym (entries_on s at a))
      ∙ r.in_order

  pub read_hit : is_marked ws id ≡ true → id_twice (entries_of s) ≡ true
  read_hit m =
      sym (ap id_twice one_more)
      ∙ twice_append (r.read ++ (here ∷ [])) (entries_from s (at + stride))
      (twice_more r.read here ∙ ap (λ (b : Bool). b || id_twice r.read) (was_read ∙ m))

  pub read_miss : (vs : List ℕ) → is_marked ws id ≡ false → id / 64 < length ws → vs ≡ marked ws id → ReadSoFar s (at + stride) vs
  read_miss vs m h v =
      record {
        read = r.read ++ (here ∷ []);
        in_order = one_more;
        exactly = exactly_more ws vs r.read here id own_id h v r.exactly;
        once = twice_more r.read here ∙ ap₂ ◌||◌ (was_read ∙ m) r.once;
      }

-- at the end every record was read
pub read_past : (s : List ℕ) (at : ℕ) → length s ≤ at → (ws : List ℕ) → ReadSoFar s at ws → id_twice (entries_of s) ≡ false
read_past s at h ws r =
    sym (ap id_twice r.in_order)
    ∙ ap (λ (es : List Entry). id_twice (r.read ++ es)) (entries_past s at h)
    ∙ ap id_twice (append-nil r.read)
    ∙ r.once
