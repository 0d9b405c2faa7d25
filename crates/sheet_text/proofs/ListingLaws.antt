-- Words and lines one after the other, as loops put them. Assumes nothing.
use Rattle.std.specs.Prelude.{◌≡◌, refl, true, false, ℕ, ◌+◌, ◌<◌, min, length, get_or, take}
use Rattle.std.proofs.Common.{sym, ap, ◌∙◌, add-one, arith, take-suc}
use mathlib.Core.List.{List, [], ◌∷◌, ◌++◌, flat_map, append_assoc, append-nil}
use borrow.Author.Tests.{eq-eqb, ne_eqb}
use Rattle.endian.specs.Endian.{le}
use Rattle.text.specs.Text.{ascii, Put, hexadecimal, refusal_text}
use Rattle.text.specs.TextLaws.{put_length}
use Rattle.pools.specs.declared.Pool.TheVariants.{Low, High, Io}
use Rattle.window.specs.declared.Window.{Window}
use Rattle.sheet_record.specs.Places.{values_at}
use Rattle.sheet_record.specs.Entry.{Entry, dwords, id_of, header_of, is_bridge, primary_of, secondary_of, subordinate_of, window_of, entry_of}
use Rattle.sheet.specs.Sheet.{Framed, part_at, entries_of, sheet_number}
use Rattle.sheet.proofs.IndexLaws.{entry_index}
use Rattle.sheet_text.specs.Listing.{newline, words, buses, edges, uppers, window_text, bridge_text, end_text, line_of, plan_text}
use Rattle.sheet_text.specs.Listing.{sheet_text}

words_snoc : (width : ℕ) (ns : List ℕ) (n : ℕ) → words width (ns ++ n ∷ []) ≡ words width ns ++ 32 ∷ hexadecimal width n
unfolding words
words_snoc width [] n = ap (◌∷◌ 32) (append-nil (hexadecimal width n))
words_snoc width (m ∷ ns) n =
    let word : List ℕ = 32 ∷ hexadecimal width m in
    ap (◌++◌ word) (words_snoc width ns n) ∙ sym (append_assoc word (words width ns) (32 ∷ hexadecimal width n))

-- one word more
pub words_index : (width : ℕ) (ns : List ℕ) (i : ℕ) → i < length ns
    → words width (take (i + 1) ns) ≡ words width (take i ns) ++ 32 ∷ hexadecimal width (get_or ns i 0)
words_index width ns i h = rw (add-one i, take-suc ns i 0 h) (words_snoc width (take i ns) (get_or ns i 0))

lines_snoc : (es : List Entry) (e : Entry) → flat_map line_of (es ++ e ∷ []) ≡ flat_map line_of es ++ line_of e
unfolding flat_map
lines_snoc [] e = append-nil (line_of e)
lines_snoc (x ∷ es) e = ap (◌++◌ (line_of x)) (lines_snoc es e) ∙ sym (append_assoc (line_of x) (flat_map line_of es) (line_of e))

-- one function more
pub lines_index : (s : List ℕ) (k : ℕ) → Framed 1 s → k < length (entries_of s)
    → flat_map line_of (take (k + 1) (entries_of s)) ≡ flat_map line_of (take k (entries_of s)) ++ line_of (entry_of (part_at s k))
lines_index s k f h =
    let es = entries_of s in
    rw (add-one k, take-suc es k (entry_of []) h)
    (lines_snoc (take k es) (get_or es k (entry_of []))
    ∙ ap (λ (e : Entry). flat_map line_of (take k es) ++ line_of e) (entry_index s k f h))

-- where a text was put, nothing more is put
pub put_nothing : {o o₁ vs : List ℕ} {at r : ℕ} → Put o at vs o₁ r → Put o₁ r [] o₁ r
put_nothing {o} {o₁} {vs} {at} {r} p =
    let l : length o₁ ≡ length o = put_length p in
    let e : r ≡ min (at + length vs) (length o₁) = omega (arith, p.place) in
    record { stored = refl; place = omega arith }

-- ## A line, in the words of the code: what was read of the record's part

module _ (p : List ℕ) (b : is_bridge (header_of p) ≡ true) where
  pub buses_of_bridge : (primary secondary subordinate : ℕ)
      → primary ≡ primary_of p → secondary ≡ secondary_of p → subordinate ≡ subordinate_of p
      → buses (entry_of p) ≡ primary ∷ secondary ∷ subordinate ∷ []
  unfolding entry_of
  buses_of_bridge primary secondary subordinate d e f = rw (b, d, e, f)

  pub window_text_of_bridge : (io low high : Window) → io ≡ window_of Io p → low ≡ window_of Low p → high ≡ window_of High p
      → window_text (entry_of p) ≡ words 2 (edges io) ++ words 4 (edges low) ++ words 4 (edges high) ++ words 8 (uppers high)
  unfolding window_text entry_of
  window_text_of_bridge io low high e f g = rw (b, e, f, g)

  values_of_bridge : take 2 (dwords (le 4) 6 p values_at) ≡ (entry_of p).values
  unfolding entry_of dwords
  values_of_bridge = rw b

  pub bridge_text_of_bridge : (vs : List ℕ) → vs ≡ dwords (le 4) 6 p values_at
      → bridge_text (entry_of p) ≡ ascii " bridge" ++ words 8 (take 2 vs) ++ words 2 (buses (entry_of p)) ++ window_text (entry_of p) ++ newline
  unfolding bridge_text
  bridge_text_of_bridge vs e = rw (ap (take 2) e ∙ values_of_bridge)

  pub line_of_bridge : (id : ℕ) → id ≡ id_of p → line_of (entry_of p) ≡ hexadecimal 4 id ++ bridge_text (entry_of p)
  unfolding line_of entry_of
  line_of_bridge id e = rw (b, e)

module _ (p : List ℕ) (b : is_bridge (header_of p) ≡ false) where
  pub end_text_of_end : (vs : List ℕ) → vs ≡ dwords (le 4) 6 p values_at → end_text (entry_of p) ≡ ascii " end" ++ words 8 vs ++ newline
  unfolding end_text entry_of
  end_text_of_end vs e = rw (b, e)

  pub line_of_end : (id : ℕ) → id ≡ id_of p → line_of (entry_of p) ≡ hexadecimal 4 id ++ end_text (entry_of p)
  unfolding line_of entry_of
  line_of_end id e = rw (b, e)

-- ## A sheet, by its number

module _ (s : List ℕ) (n : ℕ) (e : n ≡ sheet_number s) where
  pub sheet_text_good : n ≡ 0 → sheet_text s ≡ plan_text (entries_of s)
  unfolding sheet_text
  sheet_text_good z = rw (eq-eqb (sheet_number s) 0 (sym e ∙ z))

  pub sheet_text_bad : (n ≡ 0 → ⊥) → sheet_text s ≡ refusal_text n
  unfolding sheet_text
  sheet_text_bad z = rw (e, ne_eqb (sheet_number s) 0 (λ h. z (e ∙ h)))
