-- How long an answer is: a count or a number has three digits at the most, and each line 83 bytes. In that room it is put whole.
-- Assumes nothing.
use Rattle.std.specs.Prelude.{◌≡◌, refl, Bool, true, false, cond, length, eqb}
use Rattle.std.proofs.Common.{sym, ap, ◌∙◌, zero-mul, suc-mul, arith, eqb-true}
use mathlib.Core.List.{List, [], ◌∷◌, ◌++◌, map, flat_map}
use Prim.Native.Nat.{ℕ, zero, suc, ◌*◌, ◌/◌, ◌%◌, ◌≤◌, ◌<◌}
use Rattle.std.proofs.Math.ListN.{length-append}
use Rattle.std.proofs.lemmas.Bool.{eqb-false}
use Rattle.endian.specs.Endian.{le}
use Rattle.text.specs.Text.{ascii, digit, hexadecimal, decimal, refusal_text}
use Rattle.text.specs.TextLaws.{three_digits, refusal_short}
use Rattle.records.specs.Limits.{most_functions}
use Rattle.sheet_record.specs.Places.{values_at}
use Rattle.sheet_record.specs.Entry.{Entry, id_of, header_of, is_bridge, slot_count, entry_of}
use Rattle.sheet_record.specs.EntryLaws.{length_dwords}
use Rattle.sheet.specs.Sheet.{parts_in, entries_from, entries_of, sheet_number}
use Rattle.sheet.proofs.IndexLaws.{length_entries}
use Rattle.sheet.proofs.SheetLaws.{checked_of_zero}
use Rattle.sheet.proofs.NumberLaws.{sheet_number_lem}
use Rattle.sheet_text.specs.Listing.{newline, words, buses, edges, uppers, window_text, bridge_text, end_text, line_of, count_text}
use Rattle.sheet_text.specs.Listing.{plan_text, sheet_text, longest}
use Rattle.sheet_text.proofs.ListingLaws.{line_of_bridge, line_of_end, sheet_text_good, sheet_text_bad}

-- ## Digits

length_hexadecimal : (width n : ℕ) → length (hexadecimal width n) ≡ width
unfolding hexadecimal
length_hexadecimal zero n = refl
length_hexadecimal (suc width) n =
    omega (arith, length-append (hexadecimal width (n / 16)) (digit (n % 16) ∷ []), length_hexadecimal width (n / 16))

length_words : (width : ℕ) (ns : List ℕ) → length (words width ns) ≡ length ns * suc width
unfolding words
length_words width [] = sym (zero-mul (suc width))
length_words width (n ∷ ns) =
    let word : List ℕ = 32 ∷ hexadecimal width n in
    omega (arith, length-append word (words width ns), length_hexadecimal width n, length_words width ns, suc-mul (length ns) (suc width))

-- ## Lines

length_window_text : (e : Entry) → length (window_text e) ≡ 44
unfolding window_text
length_window_text e =
    let i = words 2 (edges e.io) in
    let l = words 4 (edges e.low) in
    let h = words 4 (edges e.high) in
    let u = words 8 (uppers e.high) in
    omega (
      arith,
      length-append (i ++ l ++ h) u,
      length-append (i ++ l) h,
      length-append i l,
      length_words 2 (edges e.io),
      length_words 4 (edges e.low),
      length_words 4 (edges e.high),
      length_words 8 (uppers e.high),
    )

length_bridge_text : (e : Entry) → length e.values ≡ 2 → length (bridge_text e) ≡ 79
unfolding bridge_text ascii
length_bridge_text e two =
    let n : List ℕ = ascii " bridge" in
    let v = words 8 e.values in
    let b = words 2 (buses e) in
    let w = window_text e in
    omega (
      arith,
      length-append (n ++ v ++ b ++ w) newline,
      length-append (n ++ v ++ b) w,
      length-append (n ++ v) b,
      length-append n v,
      length_words 8 e.values,
      length_words 2 (buses e),
      length_window_text e,
    )

length_end_text : (e : Entry) → length e.values ≡ 6 → length (end_text e) ≡ 59
unfolding end_text ascii
length_end_text e six =
    let n : List ℕ = ascii " end" in
    let v = words 8 e.values in
    omega (arith, length-append (n ++ v) newline, length-append n v, length_words 8 e.values)

length_values : (p : List ℕ) → length (entry_of p).values ≡ slot_count (header_of p)
unfolding entry_of
length_values p = length_dwords (le 4) (slot_count (header_of p)) p values_at

line_le : (p : List ℕ) → length (line_of (entry_of p)) ≤ 83
line_le p = go (is_bridge (header_of p)) refl
  where
    id : ℕ
    id = id_of p

    digits_of_id : length (hexadecimal 4 id) ≡ 4
    digits_of_id = length_hexadecimal 4 id

    go : (b : Bool) → is_bridge (header_of p) ≡ b → length (line_of (entry_of p)) ≤ 83
    go true e =
        let two : length (entry_of p).values ≡ 2 = length_values p ∙ ap (λ (b : Bool). cond b 2 6) e in
        omega (
          arith,
          ap length (line_of_bridge p e id refl),
          length-append (hexadecimal 4 id) (bridge_text (entry_of p)),
          digits_of_id,
          length_bridge_text (entry_of p) two,
        )
    go false e =
        let six : length (entry_of p).values ≡ 6 = length_values p ∙ ap (λ (b : Bool). cond b 2 6) e in
        omega (
          arith,
          ap length (line_of_end p e id refl),
          length-append (hexadecimal 4 id) (end_text (entry_of p)),
          digits_of_id,
          length_end_text (entry_of p) six,
        )

lines_le : (ps : List (List ℕ)) → length (flat_map line_of (map entry_of ps)) ≤ 83 * length ps
unfolding flat_map
lines_le [] = omega arith
lines_le (p ∷ ps) =
    omega (arith, length-append (line_of (entry_of p)) (flat_map line_of (map entry_of ps)), line_le p, lines_le ps)

-- ## The whole

module _ (n : ℕ) (few : n < 1000) where
  count_le : length (count_text n) ≤ 9
  unfolding count_text ascii
  count_le =
      let word : List ℕ = ascii "plan " in
      omega (arith, length-append (word ++ decimal n) newline, length-append word (decimal n), three_digits n few)

  pub refusal_le : length (refusal_text n) ≤ longest
  refusal_le = omega (arith, refusal_short n few)

plan_le : (s : List ℕ) → length (entries_of s) ≤ most_functions → length (plan_text (entries_of s)) ≤ longest
unfolding plan_text entries_from
plan_le s few =
    let n = length (entries_of s) in
    omega (
      arith,
      length-append (count_text n) (flat_map line_of (entries_of s)),
      count_le n (omega arith),
      lines_le (parts_in s),
      length_entries s,
    )

pub sheet_le : (s : List ℕ) → length (sheet_text s) ≤ longest
sheet_le s = go (eqb (sheet_number s) 0) refl
  where
    go : (b : Bool) → eqb (sheet_number s) 0 ≡ b → length (sheet_text s) ≤ longest
    go true e =
        let z = eqb-true (sheet_number s) 0 e in
        omega (arith, ap length (sheet_text_good s (sheet_number s) refl z), plan_le s (checked_of_zero s z).count)
    go false e =
        omega (
          arith,
          ap length (sheet_text_bad s (sheet_number s) refl (eqb-false (sheet_number s) 0 e)),
          refusal_le (sheet_number s) (omega (arith, sheet_number_lem s)),
        )
