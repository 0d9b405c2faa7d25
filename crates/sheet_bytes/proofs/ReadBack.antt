-- What is written is read back: a record's entry and command word, and the records of a whole sheet. Assumes nothing.
use Rattle.std.specs.Prelude.{◌≡◌, Bool, cond, length, take}
use Rattle.std.proofs.Math.Path.{refl, sym, ap, ap₂}
use Rattle.std.proofs.Common.{◌∙◌, add-one, arith, drop_of_length-le, take_at, drop_at, drop-cons, eq-eqb, le-ltb}
use Rattle.std.proofs.Math.Bool.{true, false}
use mathlib.Core.List.{List, [], ◌∷◌, ◌++◌, flat_map, map, append_assoc, append-nil}
use Prim.Native.Nat.{ℕ, zero, suc, ◌+◌, ◌^◌, ◌<◌}
use Rattle.std.proofs.Math.Nat.{mod-eq_of_lt}
use Rattle.std.proofs.Math.ListN.{get_or, drop, length-append}
use Rattle.endian.specs.Endian.{be, be_bytes, le, le_bytes}
use Rattle.endian.specs.ByteOrder.{ByteOrder, length_write, read_write_at}
use Rattle.endian.specs.EndianLaws.{big_endian, little_endian, be_be_bytes, le_le_bytes, length_be_bytes}
use Rattle.pools.specs.declared.Pool.TheVariants.{Low, High, Io}
use Rattle.window.specs.Window.{closed, Fits}
use Rattle.window.proofs.WindowLaws.{uppers_zero}
use Rattle.records.specs.declared.Next.TheVariants.{End, Record}
use Rattle.records.specs.Records.{next_of, Parts, parts_of}
use Rattle.records.specs.RecordsLaws.{parts_of_step}
use Rattle.lists.specs.Lists.{All}
use Rattle.sheet_record.specs.Places.{values_at, readbacks_at, record_size, stride}
use Rattle.sheet_record.specs.Entry.{Entry, dwords, is_bridge, slot_count, id_of, command_of, header_of, primary_of, secondary_of, subordinate_of}
use Rattle.sheet_record.specs.Entry.{window_of, entry_of}
use Rattle.sheet.specs.Sheet.{all_sized, is_framed, Framed, parts_in, entries_from, entries_of, commands_of}
use Rattle.sheet_bytes.specs.Layout.{Planned, Dwords, NoBridge, Shaped, WellShaped, zeros, dword_bytes, end_bytes, number_bytes}
use Rattle.sheet_bytes.specs.Layout.{memory_bytes, bridge_bytes, body_bytes, common_bytes, config_bytes, part_bytes, record_bytes}
use Rattle.sheet_bytes.specs.Layout.{sheet_bytes}
use Rattle.sheet_bytes.proofs.LayoutLaws.{length_common, length_body, length_part_bytes, length_record_bytes, length_sheet_bytes}

-- ## Numbers in rows, once for both orders of bytes

module _ {read : ℕ → List ℕ → ℕ → ℕ} {write : ℕ → ℕ → List ℕ} (o : ByteOrder read write) where
  -- the first of a row
  read_first : (at x : ℕ) (before rest after : List ℕ) → length before ≡ at → x < 2 ^ 32
      → read 4 (before ++ (write 4 x ++ rest) ++ after) at ≡ x
  read_first at x before rest after l h =
      let split : before ++ (write 4 x ++ rest) ++ after ≡ before ++ write 4 x ++ (rest ++ after) = simp append_assoc in
      ap₂ (read 4) split (sym l) ∙ read_write_at o 4 x before (rest ++ after) h

  dwords_dword_bytes : (n i at : ℕ) (before after vs : List ℕ) → length before ≡ at → length vs ≡ i + n → Dwords vs
      → dwords (read 4) n (before ++ dword_bytes (write 4) n vs i ++ after) at ≡ drop i vs
  unfolding dwords dword_bytes
  dwords_dword_bytes zero i at before after vs l c d = sym (drop_of_length-le vs {i = i} (omega arith))
  dwords_dword_bytes (suc n) i at before after vs l c d =
      let x = get_or vs i 0 in
      let rest = dword_bytes (write 4) n vs (i + 1) in
      ap₂ ◌∷◌
      (read_first at x before rest after l (d i))
      (ap (λ (s : List ℕ). dwords (read 4) n (s ++ after) (at + 4)) (sym (append_assoc before (write 4 x) rest))
      ∙ dwords_dword_bytes n (i + 1) (at + 4) (before ++ write 4 x) after vs
      (omega (arith, length-append before (write 4 x), length_write o 4 x)) (omega arith) d)
      ∙ sym (drop-cons vs i 0 (omega arith) ∙ ap (λ (k : ℕ). x ∷ drop k vs) (sym (add-one i)))

-- ## One record, with everything at its place once it is known for a bridge's or not

-- what follows the BAR registers
abbrev after_values : Bool → Planned → List ℕ
after_values true p =
    let e = p.entry in
    number_bytes e.primary e.secondary e.subordinate e.io ++ memory_bytes e.low e.high ++ zeros 16
    ++ dword_bytes (be_bytes 4) 6 e.readbacks 0
after_values false p = zeros 24 ++ dword_bytes (be_bytes 4) 6 p.entry.readbacks 0

-- what stands before them
abbrev before_values : Planned → List ℕ
before_values p = be_bytes 2 p.entry.id ++ common_bytes p.command p.entry.header

module _ (p : Planned) where
  abbrev e : Entry
  e = p.entry

  part_bytes_of : (b : Bool) → is_bridge e.header ≡ b → part_bytes p
      ≡ before_values p ++ dword_bytes (le_bytes 4) (cond b 2 6) e.values 0 ++ after_values b p
  unfolding part_bytes config_bytes body_bytes bridge_bytes end_bytes
  part_bytes_of true h = rw h (simp append_assoc)
  part_bytes_of false h = rw h (simp append_assoc)

  pub header_of_part_bytes : header_of (part_bytes p) ≡ e.header
  unfolding part_bytes config_bytes common_bytes be_bytes le_bytes
  header_of_part_bytes = refl

  id_of_part_bytes : e.id < 2 ^ 16 → id_of (part_bytes p) ≡ e.id
  unfolding part_bytes be be_bytes
  id_of_part_bytes h = be_be_bytes 2 e.id ∙ mod-eq_of_lt h

  command_of_part_bytes : p.command < 2 ^ 16 → command_of (part_bytes p) ≡ p.command
  unfolding part_bytes config_bytes common_bytes le be_bytes le_bytes
  command_of_part_bytes h = le_le_bytes 2 p.command ∙ mod-eq_of_lt h

  readbacks_part_bytes : length e.readbacks ≡ 6 → Dwords e.readbacks → dwords (be 4) 6 (part_bytes p) readbacks_at ≡ e.readbacks
  unfolding part_bytes config_bytes
  readbacks_part_bytes c d =
      let before = be_bytes 2 e.id ++ config_bytes p in
      ap (λ (s : List ℕ). dwords (be 4) 6 s readbacks_at) (sym (append-nil (part_bytes p)))
      ∙ dwords_dword_bytes big_endian 6 0 readbacks_at before [] e.readbacks
      (simp (length-append, length_be_bytes, length_common, length_body)) (omega arith) d

  values_part_bytes : length e.values ≡ slot_count e.header → Dwords e.values
      → dwords (le 4) (slot_count e.header) (part_bytes p) values_at ≡ e.values
  values_part_bytes c d =
      ap (λ (s : List ℕ). dwords (le 4) (slot_count e.header) s values_at) (part_bytes_of (is_bridge e.header) refl)
      ∙ dwords_dword_bytes little_endian (slot_count e.header) 0 values_at (before_values p) (after_values (is_bridge e.header) p)
      e.values
      (simp (length-append, length_be_bytes, length_common)) (omega arith) d

-- a bridge's own
module _ (p : Planned) (h : is_bridge p.entry.header ≡ true) where
  primary_of_part_bytes : primary_of (part_bytes p) ≡ p.entry.primary
  unfolding common_bytes dword_bytes be_bytes le_bytes
  primary_of_part_bytes = ap primary_of (part_bytes_of p true h)

  secondary_of_part_bytes : secondary_of (part_bytes p) ≡ p.entry.secondary
  unfolding common_bytes dword_bytes be_bytes le_bytes
  secondary_of_part_bytes = ap secondary_of (part_bytes_of p true h)

  subordinate_of_part_bytes : subordinate_of (part_bytes p) ≡ p.entry.subordinate
  unfolding common_bytes dword_bytes be_bytes le_bytes
  subordinate_of_part_bytes = ap subordinate_of (part_bytes_of p true h)

  low_part_bytes : Fits Low p.entry.low → window_of Low (part_bytes p) ≡ p.entry.low
  unfolding window_of common_bytes dword_bytes le be_bytes le_bytes
  low_part_bytes f =
      let w = p.entry.low in
      let uppers = uppers_zero Low w f refl in
      ap (window_of Low) (part_bytes_of p true h)
      ∙ rw (le_le_bytes 2 w.base ∙ mod-eq_of_lt f.base, le_le_bytes 2 w.limit ∙ mod-eq_of_lt f.limit, uppers.0, uppers.1)

  high_part_bytes : Fits High p.entry.high → window_of High (part_bytes p) ≡ p.entry.high
  unfolding window_of common_bytes dword_bytes le be_bytes le_bytes
  high_part_bytes f =
      let w = p.entry.high in
      ap (window_of High) (part_bytes_of p true h)
      ∙ rw (
        le_le_bytes 2 w.base ∙ mod-eq_of_lt f.base,
        le_le_bytes 2 w.limit ∙ mod-eq_of_lt f.limit,
        le_le_bytes 4 w.upper_base ∙ mod-eq_of_lt f.upper_base,
        le_le_bytes 4 w.upper_limit ∙ mod-eq_of_lt f.upper_limit,
      )

  io_part_bytes : Fits Io p.entry.io → window_of Io (part_bytes p) ≡ p.entry.io
  unfolding window_of common_bytes dword_bytes be_bytes le_bytes
  io_part_bytes f =
      let w = p.entry.io in
      let uppers = uppers_zero Io w f refl in
      ap (window_of Io) (part_bytes_of p true h) ∙ rw (uppers.0, uppers.1)

-- a function that is no bridge, by the rest of its record
abbrev plain : Entry → Entry
plain e =
    record {
      id = e.id;
      header = e.header;
      values = e.values;
      readbacks = e.readbacks;
      primary = 0;
      secondary = 0;
      subordinate = 0;
      low = closed Low;
      high = closed High;
      io = closed Io;
    }

plain_of_no_bridge : (e : Entry) → NoBridge e → plain e ≡ e
plain_of_no_bridge e n =
    let same : plain e
    ≡ record {
      id = e.id;
      header = e.header;
      values = e.values;
      readbacks = e.readbacks;
      primary = e.primary;
      secondary = e.secondary;
      subordinate = e.subordinate;
      low = e.low;
      high = e.high;
      io = e.io;
    } = cc in
    same

-- "BARs from 10h, buses 18h, I/O 1Ch, memory 20h, high 24h and 28h": the record that was written is the record that is read
pub entry_of_part_bytes : (p : Planned) → Shaped p.entry → entry_of (part_bytes p) ≡ p.entry
unfolding entry_of
entry_of_part_bytes p w = go (is_bridge p.entry.header) refl
  where
    go : (b : Bool) → is_bridge p.entry.header ≡ b → entry_of (part_bytes p) ≡ p.entry
    go true h =
        rw (
          header_of_part_bytes p,
          values_part_bytes p w.value_count w.values,
          h,
          id_of_part_bytes p w.id,
          readbacks_part_bytes p w.readback_count w.readbacks,
          primary_of_part_bytes p h,
          secondary_of_part_bytes p h,
          subordinate_of_part_bytes p h,
          low_part_bytes p h w.low,
          high_part_bytes p h w.high,
          io_part_bytes p h w.io,
        )
    go false h =
        rw (
          header_of_part_bytes p,
          values_part_bytes p w.value_count w.values,
          h,
          id_of_part_bytes p w.id,
          readbacks_part_bytes p w.readback_count w.readbacks,
        )
        (plain_of_no_bridge p.entry (w.no_bridge h))

-- ## A whole sheet

-- a record's length is that of its part, so the frame is found again
next_of_record_bytes : (p : Planned) (rest : List ℕ) → next_of (record_bytes p ++ rest) ≡ Record record_size
unfolding next_of record_bytes be_bytes
next_of_record_bytes p rest =
    let l : length (part_bytes p ++ rest) ≡ record_size + length rest = length-append (part_bytes p) rest ∙ rw (length_part_bytes p) in
    rw (le-ltb (length (part_bytes p ++ rest)) record_size (omega arith))

take_record_bytes : (p : Planned) (rest : List ℕ) → take record_size (drop 2 (record_bytes p ++ rest)) ≡ part_bytes p
unfolding record_bytes be_bytes
take_record_bytes p rest = take_at (part_bytes p) rest record_size (length_part_bytes p)

drop_record_bytes : (p : Planned) (rest : List ℕ) → drop (2 + record_size) (record_bytes p ++ rest) ≡ rest
drop_record_bytes p rest = drop_at (record_bytes p) rest stride (length_record_bytes p)

-- the parts of a sheet are those of its functions in order, and their lengths end at the end
parts_of_records : (ps : List Planned) → parts_of (flat_map record_bytes ps) ≡ record { parts = map part_bytes ps; whole = true }
unfolding flat_map next_of
parts_of_records [] = parts_of_step [] End refl
parts_of_records (p ∷ ps) =
    let rest = flat_map record_bytes ps in
    parts_of_step (record_bytes p ++ rest) (Record record_size) (next_of_record_bytes p rest)
    ∙ rw (take_record_bytes p rest, drop_record_bytes p rest, parts_of_records ps)

parts_of_sheet_bytes : (ps : List Planned) → parts_of (drop 1 (sheet_bytes ps)) ≡ record { parts = map part_bytes ps; whole = true }
unfolding sheet_bytes
parts_of_sheet_bytes ps = parts_of_records ps

all_sized_part_bytes : (ps : List Planned) → all_sized (map part_bytes ps) ≡ true
unfolding all_sized
all_sized_part_bytes [] = refl
all_sized_part_bytes (p ∷ ps) = rw (eq-eqb _ _ (length_part_bytes p)) (all_sized_part_bytes ps)

-- a planned sheet passes the check of its frame
pub framed_sheet_bytes : (ps : List Planned) → Framed 1 (sheet_bytes ps)
unfolding is_framed
framed_sheet_bytes ps =
    record {
      inside = omega (arith, length_sheet_bytes ps);
      sized = rw (parts_of_sheet_bytes ps) (all_sized_part_bytes ps);
    }

pub parts_in_sheet_bytes : (ps : List Planned) → parts_in (sheet_bytes ps) ≡ map part_bytes ps
parts_in_sheet_bytes ps = ap (λ (r : Parts). r.parts) (parts_of_sheet_bytes ps)

entries_of_parts : (ps : List Planned) → All WellShaped ps → map entry_of (map part_bytes ps) ≡ map (λ p. p.entry) ps
entries_of_parts [] w = refl
entries_of_parts (p ∷ ps) w = ap₂ ◌∷◌ (entry_of_part_bytes p w.0.entry) (entries_of_parts ps w.1)

commands_of_parts : (ps : List Planned) → All WellShaped ps → map command_of (map part_bytes ps) ≡ map (λ p. p.command) ps
commands_of_parts [] w = refl
commands_of_parts (p ∷ ps) w = ap₂ ◌∷◌ (command_of_part_bytes p w.0.command) (commands_of_parts ps w.1)

-- the records that are read of a planned sheet are those planned, and so are its command words
pub entries_of_sheet_bytes : (ps : List Planned) → All WellShaped ps → entries_of (sheet_bytes ps) ≡ map (λ p. p.entry) ps
unfolding entries_from
entries_of_sheet_bytes ps w = ap (map entry_of) (parts_in_sheet_bytes ps) ∙ entries_of_parts ps w

pub commands_of_sheet_bytes : (ps : List Planned) → All WellShaped ps → commands_of (sheet_bytes ps) ≡ map (λ p. p.command) ps
unfolding commands_of
commands_of_sheet_bytes ps w = ap (map command_of) (parts_in_sheet_bytes ps) ∙ commands_of_parts ps w
