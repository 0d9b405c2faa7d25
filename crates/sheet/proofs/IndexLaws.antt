-- A framed sheet by record index, from 0: what a search that counts records goes by. Assumes nothing.
use Rattle.std.specs.Prelude.{◌≡◌, true, false, Some, None, List, [], ◌∷◌, map, ℕ, zero, suc, pred, ◌+◌, ◌-◌, ◌/◌, ◌≤◌, ◌<◌, length, get_or, drop}
use Rattle.std.proofs.Common.{sym, ◌∙◌, add-one, arith, length-take-le, length-drop, eq-eqb, ne_eqb}
use Rattle.std.proofs.Math.Path.{ap}
use Rattle.std.proofs.lemmas.List.{length-map}
use Rattle.std.proofs.Math.ListN.{get_or-map}
use Rattle.endian.specs.Endian.{le}
use Rattle.endian.specs.EndianLaws.{le_take, le_drop}
use Rattle.pools.specs.declared.Space.{Space}
use Rattle.walk.specs.Registers.{enabled_in}
use Rattle.sheet_record.specs.Spaces.{function_of, command_bit, space_bit, enables}
use Rattle.sheet_record.specs.SpacesLaws.{no_bit_of_zero}
use Rattle.sheet_record.specs.Places.{command_at, record_size, stride}
use Rattle.sheet_record.specs.Entry.{command_of, id_of, entry_of}
use Rattle.sheet.specs.declared.Rule.{Rule}
use Rattle.sheet.specs.Sheet.{Framed, entries_from, entries_of, commands_of, parts_in, part_at, sheet_length, record_at, command_place}
use Rattle.sheet.specs.Sheet.{breaks, any_breaks, find_from}
use Rattle.sheet.specs.Spaces.{functions_from, bit_of, enabled_of}
use Rattle.sheet.proofs.FrameLaws.{framed_at, part_index}
use Rattle.sheet.proofs.CheckLaws.{part_from, entries_on, entries_past, count_entries}

part_from_index : (s : List ℕ) (k : ℕ) → part_from s (record_at k) ≡ part_at s k
part_from_index s k =
    let n : record_at k + stride - (record_at k + 2) ≡ record_size = omega arith in
    rw n

pub length_part : (s : List ℕ) (k : ℕ) → sheet_length (k + 1) ≤ length s → length (part_at s k) ≡ record_size
length_part s k h = length-take-le record_size (drop (record_at k + 2) s) (omega (arith, length-drop (record_at k + 2) s))

-- ## Command words

pub length_entries : (s : List ℕ) → length (entries_of s) ≡ length (parts_in s)
unfolding entries_from
length_entries s = length-map (parts_in s) entry_of

pub length_commands : (s : List ℕ) → length (commands_of s) ≡ length (parts_in s)
unfolding commands_of
length_commands s = length-map (parts_in s) command_of

-- record k's, by its place in the sheet
command_of_place : (s : List ℕ) (k : ℕ) → command_of (part_at s k) ≡ le 2 s (command_place k)
command_of_place s k =
    let e : record_at k + 2 + command_at ≡ command_place k = omega arith in
    le_take 2 record_size (drop (record_at k + 2) s) command_at (omega arith) ∙ le_drop 2 (record_at k + 2) s command_at ∙ ap (le 2 s) e

pub command_index : (s : List ℕ) (k : ℕ) → Framed 1 s → k < length (commands_of s) → get_or (commands_of s) k 0 ≡ le 2 s (command_place k)
unfolding commands_of le
command_index s k f h =
    get_or-map command_of (parts_in s) k []
    ∙ ap command_of (part_index s k f (omega (arith, length_commands s)))
    ∙ command_of_place s k

-- a bit of the record with number n
pub bit_of_command : (bit : ℕ) (s : List ℕ) (n : ℕ) → bit_of bit s n ≡ command_bit bit (get_or (commands_of s) (pred n) 0)
unfolding enabled_in
bit_of_command bit s n =
    ap (get_or (map (command_bit bit) (commands_of s)) (pred n)) (sym (no_bit_of_zero bit))
    ∙ get_or-map (command_bit bit) (commands_of s) (pred n) 0

-- ## Records and functions

pub entry_index : (s : List ℕ) (i : ℕ) → Framed 1 s → i < length (entries_of s) → get_or (entries_of s) i (entry_of []) ≡ entry_of (part_at s i)
unfolding entries_from
entry_index s i f h = get_or-map entry_of (parts_in s) i [] ∙ ap entry_of (part_index s i f (omega (arith, length_entries s)))

module _ (s : List ℕ) (f : Framed 1 s) where
  lt_of_index : (k : ℕ) → k < length (entries_of s) → record_at k < length s
  lt_of_index k h = omega (arith, count_entries s f)

  pub framed_index : (k : ℕ) → k ≤ length (entries_of s) → Framed (record_at k) s
  framed_index zero h = f
  framed_index (suc k) h =
      let a = framed_at s (record_at k) (framed_index k (omega arith)).sized (lt_of_index k h) in
      let e : record_at (suc k) ≡ record_at k + stride = omega arith in
      rw e (record { inside = a.fits; sized = a.rest })

  pub record_fits : (k : ℕ) → k < length (entries_of s) → sheet_length (k + 1) ≤ length s
  record_fits k h = omega (arith, count_entries s f)

  pub entries_index : (k : ℕ) → k < length (entries_of s) → entries_from s (record_at k)
      ≡ entry_of (part_at s k) ∷ entries_from s (record_at (k + 1))
  entries_index k h =
      let a = framed_at s (record_at k) (framed_index k (omega arith)).sized (lt_of_index k h) in
      let e : record_at k + stride ≡ record_at (k + 1) = omega arith in
      entries_on s (record_at k) a ∙ rw (part_from_index s k, e)

  -- what a search in record order has left
  pub functions_index : (space : Space) (k : ℕ) → k < length (entries_of s)
      → functions_from space (k + 1) (entries_from s (record_at k))
      ≡ function_of space (k + 1) (entry_of (part_at s k)) ∷ functions_from space (k + 1 + 1) (entries_from s (record_at (k + 1)))
  unfolding functions_from
  functions_index space k h = ap (functions_from space (k + 1)) (entries_index k h)

  pub functions_end : (space : Space) (k : ℕ) → length (entries_of s) ≤ k → functions_from space (k + 1) (entries_from s (record_at k)) ≡ []
  unfolding functions_from
  functions_end space k h = ap (functions_from space (k + 1)) (entries_past s (record_at k) (omega (arith, count_entries s f)))

  -- in the words of the code
  pub count_index : (length s - 1) / stride ≡ length (entries_of s)
  count_index = omega (arith, count_entries s f)

  -- a command bit of record k
  pub bit_index : (bit k : ℕ) → k < length (entries_of s) → bit_of bit s (k + 1) ≡ command_bit bit (command_of (part_at s k))
  bit_index bit k h =
      ap (bit_of bit s) (add-one k)
      ∙ bit_of_command bit s (suc k)
      ∙ ap (command_bit bit)
      (command_index s k f (omega (arith, length_commands s, length_entries s)) ∙ sym (command_of_place s k))

  pub enabled_index : (space : Space) (k : ℕ) → k < length (entries_of s) → enabled_of space s (k + 1)
      ≡ enables space (command_of (part_at s k))
  enabled_index space k h = bit_index (space_bit space) k h

-- ## One turn of each pass that counts records: the part that the code takes, and what is left after it

module _ (s : List ℕ) (f : Framed 1 s) where
  pub part_sized : (k : ℕ) → k < length (entries_of s) → length (part_at s k) ≡ record_size
  part_sized k h = length_part s k (record_fits s f k h)

  pub entries_end : (k : ℕ) → length (entries_of s) ≤ k → entries_from s (record_at k) ≡ []
  entries_end k h = entries_past s (record_at k) (omega (arith, count_entries s f))

  module _ (rule : Rule) (k : ℕ) where
    pub breaks_hit : k < length (entries_of s) → breaks rule (entry_of (part_at s k)) ≡ true → any_breaks rule (entries_from s (record_at k)) ≡ true
    unfolding any_breaks
    breaks_hit h e = ap (any_breaks rule) (entries_index s f k h) ∙ rw e

    pub breaks_miss : k < length (entries_of s) → breaks rule (entry_of (part_at s k)) ≡ false
        → any_breaks rule (entries_from s (record_at k)) ≡ any_breaks rule (entries_from s (record_at (k + 1)))
    unfolding any_breaks
    breaks_miss h e = ap (any_breaks rule) (entries_index s f k h) ∙ rw e

    pub breaks_past : length (entries_of s) ≤ k → any_breaks rule (entries_from s (record_at k)) ≡ false
    unfolding any_breaks
    breaks_past h = ap (any_breaks rule) (entries_end k h)

  module _ (id k : ℕ) where
    pub find_hit : k < length (entries_of s) → id_of (part_at s k) ≡ id → find_from id (record_at k) (entries_from s (record_at k))
        ≡ Some (record_at k)
    unfolding find_from entry_of
    find_hit h e = ap (find_from id (record_at k)) (entries_index s f k h) ∙ rw (eq-eqb (id_of (part_at s k)) id e)

    pub find_miss : k < length (entries_of s) → (id_of (part_at s k) ≡ id → ⊥)
        → find_from id (record_at k) (entries_from s (record_at k)) ≡ find_from id (record_at (k + 1)) (entries_from s (record_at (k + 1)))
    unfolding find_from entry_of
    find_miss h e =
        let n : record_at k + stride ≡ record_at (k + 1) = omega arith in
        ap (find_from id (record_at k)) (entries_index s f k h) ∙ rw (ne_eqb (id_of (part_at s k)) id e, n)

    pub find_past : length (entries_of s) ≤ k → find_from id (record_at k) (entries_from s (record_at k)) ≡ None
    unfolding find_from
    find_past h = ap (find_from id (record_at k)) (entries_end k h)
