-- One turn of the pass of check 28: an ID comes twice just where it is met marked. Assumes nothing.
use Rattle.std.specs.Prelude.{◌≡◌, refl, Bool, true, false, ◌||◌, ℕ, ◌+◌, ◌/◌, ◌≤◌, ◌<◌, length, replicate, eqb}
use Rattle.std.proofs.Math.Path.{sym, ap}
use Rattle.std.proofs.Common.{ap₂, ◌∙◌, eq-eqb, ne_eqb, eqb-true}
use Rattle.std.proofs.Math.Bool.{or_assoc, or_comm, or-false, or-true}
use Rattle.std.proofs.lemmas.Bool.{false≢true, eqb-false}
use mathlib.Core.List.{List, [], ◌∷◌, ◌++◌, append_assoc, append-nil}
use Rattle.sheet_record.specs.Entry.{Entry, id_of, entry_of}
use Rattle.sheet_marks.specs.Marks.{is_marked, marked}
use Rattle.sheet_marks.specs.MarksLaws.{is_marked_marked, is_marked_zeros}
use Rattle.sheet.specs.Sheet.{Framed, part_at, record_at, entries_from, entries_of, has_id, id_twice}
use Rattle.sheet.proofs.IndexLaws.{entries_index, entries_end}
use Rattle.sheet.specs.ReadSoFar.{ExactlyMarked, ReadSoFar}

-- ## Of records

eqb_sym : (a b : ℕ) → eqb a b ≡ eqb b a
eqb_sym a b = go (eqb a b) refl
  where
    go : (t : Bool) → eqb a b ≡ t → t ≡ eqb b a
    go true e = sym (eq-eqb b a (sym (eqb-true a b e)))
    go false e = sym (ne_eqb b a (λ q. eqb-false a b e (sym q)))

or_swap : (a b c d : Bool) → (a || b || (c || d)) ≡ (a || c || (b || d))
or_swap true b c d = refl
or_swap false true true d = refl
or_swap false true false d = refl
or_swap false false c d = refl

has_id_append : (id : ℕ) (es fs : List Entry) → has_id id (es ++ fs) ≡ has_id id es || has_id id fs
unfolding has_id
has_id_append id [] fs = refl
has_id_append id (e ∷ es) fs =
    ap (λ (b : Bool). eqb e.id id || b) (has_id_append id es fs) ∙ sym (or_assoc (eqb e.id id) (has_id id es) (has_id id fs))

has_id_more : (id : ℕ) (es : List Entry) (e : Entry) → has_id id (es ++ (e ∷ [])) ≡ eqb id e.id || has_id id es
unfolding has_id
has_id_more id es e =
    has_id_append id es (e ∷ [])
    ∙ or_comm (has_id id es) (eqb e.id id || false)
    ∙ ap (λ (b : Bool). b || has_id id es) (or-false (eqb e.id id) ∙ eqb_sym e.id id)

-- with one record more an ID comes twice where one did, or where the record's was there
pub twice_more : (es : List Entry) (e : Entry) → id_twice (es ++ (e ∷ [])) ≡ has_id e.id es || id_twice es
unfolding id_twice has_id
twice_more [] e = refl
twice_more (x ∷ es) e =
    ap₂ ◌||◌ (has_id_more x.id es e) (twice_more es e)
    ∙ or_swap (eqb x.id e.id) (has_id x.id es) (has_id e.id es) (id_twice es)

-- and stays so, whatever follows
pub twice_append : (es fs : List Entry) → id_twice es ≡ true → id_twice (es ++ fs) ≡ true
unfolding id_twice
twice_append [] fs h = absurd (false≢true h)
twice_append (x ∷ es) fs h = go (has_id x.id es) refl h (twice_append es fs)
  where
    go : (b : Bool) → has_id x.id es ≡ b → b || id_twice es ≡ true → (id_twice es ≡ true → id_twice (es ++ fs) ≡ true)
        → has_id x.id (es ++ fs) || id_twice (es ++ fs) ≡ true
    go true e h on = rw (has_id_append x.id es fs, e)
    go false e h on = rw (on h) (or-true (has_id x.id (es ++ fs)))

-- with the record's ID marked, exactly the IDs with this record's are
pub exactly_more : (ws vs : List ℕ) (es : List Entry) (e : Entry) (id : ℕ) → e.id ≡ id → id / 64 < length ws → vs ≡ marked ws id
    → ExactlyMarked ws es → ExactlyMarked vs (es ++ (e ∷ []))
exactly_more ws vs es e id own h v x j =
    ap (λ (us : List ℕ). is_marked us j) v
    ∙ is_marked_marked ws id j h
    ∙ ap₂ (λ (i : ℕ) (b : Bool). eqb j i || b) (sym own) (x j)
    ∙ sym (has_id_more j es e)

-- ## The pass: one turn, in the words of the code

pub read_start : (s : List ℕ) (n : ℕ) → ReadSoFar s 1 (replicate n 0)
unfolding has_id id_twice
read_start s n = record { read = []; in_order = refl; exactly = is_marked_zeros n; once = refl }

module _ (s : List ℕ) (f : Framed 1 s) (k : ℕ) (h : k < length (entries_of s)) (ws : List ℕ) (r : ReadSoFar s (record_at k) ws) (id : ℕ)
    (own : id ≡ id_of (part_at s k)) where
  here : Entry
  here = entry_of (part_at s k)

  own_id : here.id ≡ id
  unfolding here entry_of
  own_id = sym own

  -- whether the record's ID was read
  was_read : has_id here.id r.read ≡ is_marked ws id
  was_read = sym (r.exactly here.id) ∙ ap (is_marked ws) own_id

  one_more : (r.read ++ (here ∷ [])) ++ entries_from s (record_at (k + 1)) ≡ entries_of s
  unfolding here
  one_more =
      append_assoc r.read (entry_of (part_at s k) ∷ []) (entries_from s (record_at (k + 1)))
      ∙ ap (λ (es : List Entry). r.read ++ es) (sym (entries_index s f k h))
      ∙ r.in_order

  pub read_hit : is_marked ws id ≡ true → id_twice (entries_of s) ≡ true
  read_hit m =
      sym (ap id_twice one_more)
      ∙ twice_append (r.read ++ (here ∷ [])) (entries_from s (record_at (k + 1)))
      (twice_more r.read here ∙ ap (λ (b : Bool). b || id_twice r.read) (was_read ∙ m))

  pub read_miss : (vs : List ℕ) → is_marked ws id ≡ false → id / 64 < length ws → vs ≡ marked ws id → ReadSoFar s (record_at (k + 1)) vs
  read_miss vs m l v =
      record {
        read = r.read ++ (here ∷ []);
        in_order = one_more;
        exactly = exactly_more ws vs r.read here id own_id l v r.exactly;
        once = twice_more r.read here ∙ ap₂ ◌||◌ (was_read ∙ m) r.once;
      }

-- at the end every record was read
pub read_past : (s : List ℕ) (f : Framed 1 s) (k : ℕ) → length (entries_of s) ≤ k → (ws : List ℕ) → ReadSoFar s (record_at k) ws
    → id_twice (entries_of s) ≡ false
read_past s f k h ws r =
    sym (ap id_twice r.in_order)
    ∙ ap (λ (es : List Entry). id_twice (r.read ++ es)) (entries_end s f k h)
    ∙ ap id_twice (append-nil r.read)
    ∙ r.once
