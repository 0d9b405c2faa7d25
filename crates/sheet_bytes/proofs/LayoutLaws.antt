-- A sheet's bytes as they are written: the parts of a record in the order of the writer's calls, and their lengths. Assumes nothing.
use Rattle.std.specs.Prelude.{◌≡◌, refl, Bool, true, false, cond, ℕ, zero, suc, ◌+◌, ◌*◌, ◌/◌, ◌%◌, ◌≤◌, ◌<◌, length, get_or, take, drop}
use Rattle.std.proofs.Common.{sym, ap, ap₂, ◌∙◌, zero-add, zero-mul, suc-mul, arith, get_or-take}
use mathlib.Core.List.{List, [], ◌∷◌, ◌++◌, flat_map, append_assoc, append-nil}
use Rattle.std.proofs.Math.ListN.{length-append}
use Rattle.std.proofs.lemmas.List.Edits.{sets}
use Rattle.endian.specs.Endian.{be_bytes, le_bytes}
use Rattle.endian.specs.SetsLaws.{sets_append}
use Rattle.endian.specs.EndianLaws.{length_be_bytes}
use Rattle.sheet_record.specs.Places.{record_size, stride}
use Rattle.sheet_record.specs.Entry.{Entry, is_bridge}
use Rattle.sheet.specs.Sheet.{sheet_length}
use Rattle.sheet_bytes.specs.declared.Registers.{Registers}
use Rattle.sheet_bytes.specs.Layout.{Planned, zeros, dword_bytes, end_bytes, bridge_bytes, bridge_body, body_bytes, common_bytes}
use Rattle.sheet_bytes.specs.Layout.{config_bytes, part_bytes, record_bytes, sheet_bytes, planned_of}

-- ## Numbers in rows

-- only the numbers that are written count
dword_bytes_take : (write : ℕ → List ℕ) (n m : ℕ) (vs : List ℕ) (i : ℕ) → i + n ≤ m → dword_bytes write n (take m vs) i
    ≡ dword_bytes write n vs i
unfolding dword_bytes
dword_bytes_take write zero m vs i h = refl
dword_bytes_take write (suc n) m vs i h =
    ap₂ (λ (x : ℕ) (rest : List ℕ). write x ++ rest) (get_or-take m vs i 0 (omega arith)) (dword_bytes_take write n m vs (i + 1) (omega arith))

length_dword_bytes : (k : ℕ) (write : ℕ → List ℕ) → ((x : ℕ) → length (write x) ≡ k)
    → (n : ℕ) (vs : List ℕ) (i : ℕ) → length (dword_bytes write n vs i) ≡ n * k
unfolding dword_bytes
length_dword_bytes k write l zero vs i = sym (zero-mul k)
length_dword_bytes k write l (suc n) vs i =
    length-append (write (get_or vs i 0)) _
    ∙ ap₂ ◌+◌ (l (get_or vs i 0)) (length_dword_bytes k write l n vs (i + 1))
    ∙ omega (arith, suc-mul n k)

-- three pairs of numbers, stored one after the other, are six
pub sets_six : (write : ℕ → List ℕ) → ((x : ℕ) → length (write x) ≡ 4)
    → {o₁ o₂ o₃ : List ℕ} (o : List ℕ) (at : ℕ) (vs : List ℕ)
    → o₁ ≡ sets o at (write (get_or vs 0 0) ++ write (get_or vs 1 0))
    → o₂ ≡ sets o₁ (at + 8) (write (get_or vs 2 0) ++ write (get_or vs 3 0))
    → o₃ ≡ sets o₂ (at + 16) (write (get_or vs 4 0) ++ write (get_or vs 5 0))
    → o₃ ≡ sets o at (dword_bytes write 6 vs 0)
unfolding dword_bytes
sets_six write l o at vs p q r =
    let two : ℕ → ℕ → List ℕ = λ i j. write (get_or vs i 0) ++ write (get_or vs j 0) in
    let joined : two 0 1 ++ two 2 3 ++ two 4 5 ≡ dword_bytes write 6 vs 0 = simp (append_assoc, append-nil) in
    sets_append o at 16 (two 0 1 ++ two 2 3) (two 4 5) (simp (length-append, l))
    (sets_append o at 8 (two 0 1) (two 2 3) (simp (length-append, l)) p q)
    r
    ∙ ap (sets o at) joined

-- a byte in two: the byte itself, then 0
pub le_bytes_of_byte : (x : ℕ) → x < 256 → le_bytes 2 x ≡ x ∷ 0 ∷ []
unfolding le_bytes
le_bytes_of_byte x h =
    let low : x % 256 ≡ x = omega arith in
    let high : x / 256 % 256 ≡ 0 = omega arith in
    rw (low, high)

-- ## A bridge's body, and another function's

module _ (r : Registers) where
  pub body_of_bridge : is_bridge r.header ≡ true → bridge_body r ≡ body_bytes (planned_of r).entry
  unfolding body_bytes bridge_bytes planned_of
  body_of_bridge h = rw (h, dword_bytes_take (le_bytes 4) 2 2 r.values 0 (omega arith))

  pub body_of_end : is_bridge r.header ≡ false → dword_bytes (le_bytes 4) 6 r.values 0 ++ zeros 24 ≡ body_bytes (planned_of r).entry
  unfolding body_bytes end_bytes planned_of
  body_of_end h = rw (h, dword_bytes_take (le_bytes 4) 6 6 r.values 0 (omega arith))

-- ## Lengths, whatever is planned

pub length_common : (command header : ℕ) → length (common_bytes command header) ≡ 16
unfolding common_bytes be_bytes le_bytes
length_common command header = refl

pub length_body : (e : Entry) → length (body_bytes e) ≡ 48
unfolding body_bytes end_bytes bridge_bytes dword_bytes le_bytes
length_body e = go (is_bridge e.header)
  where
    go : (b : Bool) → length (cond b (bridge_bytes e) (end_bytes e)) ≡ 48
    go true = refl
    go false = refl

module _ (p : Planned) where
  -- the length and the ID
  abbrev pub marks : List ℕ
  marks = be_bytes 2 record_size ++ be_bytes 2 p.entry.id

  abbrev pub common : List ℕ
  common = common_bytes p.command p.entry.header

  abbrev pub body : List ℕ
  body = body_bytes p.entry

  abbrev pub readbacks : List ℕ
  readbacks = dword_bytes (be_bytes 4) 6 p.entry.readbacks 0

  -- the parts in the order in which they are written
  pub record_bytes_parts : marks ++ common ++ body ++ readbacks ≡ record_bytes p
  unfolding record_bytes part_bytes config_bytes
  record_bytes_parts = simp append_assoc

  pub length_marks : length marks ≡ 4
  length_marks = simp (length-append, length_be_bytes)

  pub length_marks_common : length (marks ++ common) ≡ 20
  length_marks_common = simp (length-append, length_be_bytes, length_common)

  pub length_marks_body : length (marks ++ common ++ body) ≡ 68
  length_marks_body = simp (length-append, length_be_bytes, length_common, length_body)

  length_readbacks : length readbacks ≡ 24
  length_readbacks = length_dword_bytes 4 (be_bytes 4) (length_be_bytes 4) 6 p.entry.readbacks 0

  pub length_record_bytes : length (record_bytes p) ≡ stride
  length_record_bytes = ap length (sym record_bytes_parts) ∙ length-append (marks ++ common ++ body) readbacks
      ∙ ap₂ ◌+◌ length_marks_body length_readbacks

  pub length_part_bytes : length (part_bytes p) ≡ record_size
  unfolding record_bytes
  length_part_bytes = omega (arith, length_record_bytes, length-append (be_bytes 2 record_size) (part_bytes p), length_be_bytes 2 record_size)

pub length_sheet_bytes : (ps : List Planned) → length (sheet_bytes ps) ≡ sheet_length (length ps)
unfolding sheet_bytes flat_map
length_sheet_bytes [] = refl
length_sheet_bytes (p ∷ ps) =
    omega (arith, length-append (record_bytes p) (flat_map record_bytes ps), length_record_bytes p, length_sheet_bytes ps)

-- ## A sheet written record by record

-- the next record stands after those before it
sheet_bytes_snoc : (ps : List Planned) (p : Planned) → sheet_bytes (ps ++ p ∷ []) ≡ sheet_bytes ps ++ record_bytes p
unfolding sheet_bytes flat_map
sheet_bytes_snoc [] p = ap (◌∷◌ 1) (append-nil (record_bytes p))
sheet_bytes_snoc (q ∷ ps) p =
    let later : flat_map record_bytes (ps ++ p ∷ []) ≡ flat_map record_bytes ps ++ record_bytes p = ap (drop 1) (sheet_bytes_snoc ps p) in
    rw (later, append_assoc (record_bytes q) (flat_map record_bytes ps) (record_bytes p))

-- one more turn of a loop that writes records
pub sets_sheet_bytes_snoc : {o₁ o₂ : List ℕ} (o : List ℕ) (ps : List Planned) (p : Planned)
    → o₁ ≡ sets o 0 (sheet_bytes ps) → o₂ ≡ sets o₁ (sheet_length (length ps)) (record_bytes p) → o₂ ≡ sets o 0 (sheet_bytes (ps ++ p ∷ []))
sets_sheet_bytes_snoc {o₁} o ps p e f =
    rw (sheet_bytes_snoc ps p)
    (sets_append o 0 (sheet_length (length ps)) (sheet_bytes ps) (record_bytes p) (length_sheet_bytes ps) e
    (f ∙ ap (λ (i : ℕ). sets o₁ i (record_bytes p)) (sym (zero-add (sheet_length (length ps))))))
