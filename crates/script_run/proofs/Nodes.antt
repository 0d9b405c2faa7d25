-- After some of a script's writes the functions stand where they stand on the sheet, and a bridge leads to its buses once its bus registers
-- are written, and to bus 0 before. Assumes nothing.
use Rattle.std.specs.Prelude.{◌≡◌, refl, Bool, true, false, cond, length, get_or, drop}
use Rattle.std.proofs.Math.Path.{sym, ap, ap₂}
use Rattle.std.proofs.Common.{◌∙◌, get_or-take, get_or-drop}
use mathlib.Core.List.{List, ◌∷◌, map}
use Prim.Native.Nat.{ℕ, zero, suc, ◌+◌, ◌-◌, ◌/◌, ◌%◌, ◌<◌}
use native.Mathlib.Omega.{arith}
use Rattle.endian.specs.Endian.{be}
use Rattle.endian.specs.EndianLaws.{be_agree}
use Rattle.lists.specs.Lists.{All}
use Rattle.records.specs.RecordsLaws.{next_end, next_record}
use Rattle.walk.specs.Registers.{Node}
use Rattle.sheet_record.specs.Places.{record_size, stride, header_type_at}
use Rattle.sheet_record.specs.Entry.{Entry, id_of, header_of, is_bridge, secondary_of, subordinate_of, entry_of}
use Rattle.sheet_record.specs.Spaces.{node_of}
use Rattle.sheet.specs.Sheet.{is_framed, Framed, entries_from, entries_of, part_at, sheet_length, record_at}
use Rattle.sheet.specs.Commands.{place_in}
use Rattle.sheet.proofs.FrameLaws.{framed_end, framed_on, framed_at}
use Rattle.sheet.proofs.CheckLaws.{count_entries, entries_past}
use Rattle.sheet.proofs.IndexLaws.{framed_index, entries_index}
use Rattle.sheet.specs.Spaces.{nodes_from, nodes_of}
use Rattle.walk_written.specs.Partly.{blank, masked}
use Rattle.script_writes.specs.Writes.{Write, named}
use Rattle.script_writes.specs.ScriptLaws.{IsRegister}
use Rattle.script_run.specs.Model.{is_kept, register_place}
use Rattle.script_run.proofs.Written.{enables_for, bridge_at, WriteIn}
use Rattle.script_run.proofs.StateLaws.{state_of, hit, length_state, state_kept, state_blank, state_hit}

-- ## A frame by its length bytes

framed_by_index : (s : List ℕ) (n : ℕ) → length s ≡ sheet_length n → ((k : ℕ) → k < n → be 2 s (record_at k) ≡ record_size)
    → (m k : ℕ) → k + m ≡ n → is_framed (drop (record_at k) s) ≡ true
framed_by_index s n l sized zero k e = framed_end s (record_at k) (next_end s (record_at k) (omega arith))
framed_by_index s n l sized (suc m) k e =
    let size = sized k (omega arith) in
    let next = next_record s (record_at k) (omega arith) (omega (arith, size)) in
    let at : record_at k + stride ≡ record_at (suc k) = omega arith in
    framed_on s (record_at k) (be 2 s (record_at k)) (omega arith) next size
    ∙ ap (λ (i : ℕ). is_framed (drop i s)) at
    ∙ framed_by_index s n l sized m (suc k) (omega arith)

-- a byte of a record's part
pub part_byte : (s : List ℕ) (k i : ℕ) → i < record_size → get_or (part_at s k) i 0 ≡ get_or s (record_at k + 2 + i) 0
part_byte s k i h = get_or-take record_size (drop (record_at k + 2) s) i 0 h ∙ get_or-drop (record_at k + 2) s i 0

-- ## Where a function stands

abbrev node_with : ℕ → ℕ → Bool → ℕ → ℕ → Node
node_with n id b secondary subordinate =
    record {
      number = n;
      bus = id / 256;
      devfn = id % 256;
      bridge = b;
      secondary = cond b secondary 0;
      subordinate = cond b subordinate 0;
    }

node_is : (n : ℕ) (p : List ℕ) → node_of n (entry_of p) ≡ node_with n (id_of p) (is_bridge (header_of p)) (secondary_of p) (subordinate_of p)
unfolding entry_of
node_is n p = refl

module _ (final : List ℕ) (framed : Framed 1 final) (done : List Write) (all : All (WriteIn final) done) where
  abbrev state : List ℕ
  state = state_of final done

  abbrev pub written : ℕ → Bool
  written n = hit n 0x18 done

  abbrev pub count : ℕ
  count = length (entries_of final)

  size_at : (k : ℕ) → k < count → be 2 state (record_at k) ≡ record_size
  size_at k h =
      let f = framed_index final framed k (omega arith) in
      let here = framed_at final (record_at k) f.sized (omega (arith, count_entries final framed)) in
      be_agree 2 state final (record_at k) (record_at k) (λ i l. state_kept final done all (record_at k + i) (early k i (omega arith)))
      ∙ here.size
    where
      early : (k i : ℕ) → i < 4 → is_kept (place_in (record_at k + i)) ≡ true
      early k i l = let p : place_in (record_at k + i) ≡ i = omega arith in rw p (small i l)
        where
          small : (i : ℕ) → i < 4 → is_kept i ≡ true
          small zero l = refl
          small (suc zero) l = refl
          small (suc (suc zero)) l = refl
          small (suc (suc (suc zero))) l = refl
          small (suc (suc (suc (suc i)))) l = absurd (omega arith)

  pub state_framed : Framed 1 state
  state_framed =
      record {
        inside = omega (arith, length_state final done all, framed.inside);
        sized = framed_by_index state count (length_state final done all ∙ count_entries final framed) size_at count 0 (omega arith);
      }

  pub same_count : length (entries_of state) ≡ count
  same_count = omega (arith, count_entries state state_framed, count_entries final framed, length_state final done all)

  -- ## One function

  -- what the model keeps of a part: the ID, the header type
  kept_byte : (k i : ℕ) → i < record_size → is_kept (2 + i) ≡ true → get_or (part_at state k) i 0 ≡ get_or (part_at final k) i 0
  kept_byte k i h e =
      let p : place_in (record_at k + 2 + i) ≡ 2 + i = omega arith in
      part_byte state k i h ∙ state_kept final done all (record_at k + 2 + i) (ap is_kept p ∙ e) ∙ sym (part_byte final k i h)

  id_kept : (k : ℕ) → id_of (part_at state k) ≡ id_of (part_at final k)
  id_kept k = be_agree 2 (part_at state k) (part_at final k) 0 0 (λ i l. byte i l)
    where
      byte : (i : ℕ) → i < 2 → get_or (part_at state k) (0 + i) 0 ≡ get_or (part_at final k) (0 + i) 0
      byte zero l = kept_byte k 0 (omega arith) refl
      byte (suc zero) l = kept_byte k 1 (omega arith) refl
      byte (suc (suc i)) l = absurd (omega arith)

  header_kept : (k : ℕ) → header_of (part_at state k) ≡ header_of (part_at final k)
  header_kept k = kept_byte k header_type_at (omega arith) refl

  bus_register : IsRegister 0x18
  bus_register = record { inside = omega arith; aligned = refl }

  -- byte i of a bridge's bus registers
  bus_byte : (k i : ℕ) → i < 3 → (w : Bool) → written (k + 1) ≡ w → bridge_at final k ≡ true
      → get_or (part_at state k) (0x1a + i) 0 ≡ cond w (get_or (part_at final k) (0x1a + i) 0) 0
  bus_byte k i l true e b =
      let place : record_at k + 2 + (0x1a + i) ≡ register_place (k + 1) 0x18 + i = omega arith in
      let back : k + 1 - 1 ≡ k = omega arith in
      let bridge : bridge_at final (k + 1 - 1) ≡ true = ap (bridge_at final) back ∙ b in
      part_byte state k (0x1a + i) (omega arith) ∙ ap (λ (x : ℕ). get_or state x 0) place
      ∙ state_hit final done all (k + 1) 0x18 (omega arith) bus_register e i (omega arith)
      (ap (λ (t : Bool). named (enables_for t 0x18) i) bridge ∙ three i l)
      ∙ ap (λ (x : ℕ). get_or final x 0) (sym place) ∙ sym (part_byte final k (0x1a + i) (omega arith))
    where
      three : (i : ℕ) → i < 3 → named 7 i ≡ true
      three zero l = refl
      three (suc zero) l = refl
      three (suc (suc zero)) l = refl
      three (suc (suc (suc i))) l = absurd (omega arith)
  bus_byte k i l false e b =
      let place : record_at k + 2 + (0x1a + i) ≡ register_place (k + 1) 0x18 + i = omega arith in
      let there : place_in (register_place (k + 1) 0x18 + i) ≡ 0x1c + i = omega arith in
      part_byte state k (0x1a + i) (omega arith) ∙ ap (λ (x : ℕ). get_or state x 0) place
      ∙ state_blank final done all (k + 1) 0x18 (omega arith) bus_register e i (omega arith) (ap is_kept there ∙ blank_place i l)
    where
      blank_place : (i : ℕ) → i < 3 → is_kept (0x1c + i) ≡ false
      blank_place zero l = refl
      blank_place (suc zero) l = refl
      blank_place (suc (suc zero)) l = refl
      blank_place (suc (suc (suc i))) l = absurd (omega arith)

  with_buses : (n id : ℕ) (b w : Bool) (sec sub sec' sub' : ℕ) → (b ≡ true → sec' ≡ cond w sec 0) → (b ≡ true → sub' ≡ cond w sub 0)
      → node_with n id b sec' sub' ≡ cond w (node_with n id b sec sub) (blank (node_with n id b sec sub))
  with_buses n id true true sec sub sec' sub' e g = ap₂ (node_with n id true) (e refl) (g refl)
  with_buses n id true false sec sub sec' sub' e g = ap₂ (node_with n id true) (e refl) (g refl)
  with_buses n id false true sec sub sec' sub' e g = refl
  with_buses n id false false sec sub sec' sub' e g = refl

  node_masked : (k : ℕ) → node_of (k + 1) (entry_of (part_at state k)) ≡ masked written (node_of (k + 1) (entry_of (part_at final k)))
  node_masked k =
      let p = part_at state k in
      let q = part_at final k in
      node_is (k + 1) p
      ∙ ap₂ (λ (id h : ℕ). node_with (k + 1) id (is_bridge h) (secondary_of p) (subordinate_of p)) (id_kept k) (header_kept k)
      ∙ with_buses (k + 1) (id_of q) (is_bridge (header_of q)) (written (k + 1)) (secondary_of q) (subordinate_of q) (secondary_of p)
      (subordinate_of p) (bus_byte k 1 (omega arith) (written (k + 1)) refl) (bus_byte k 2 (omega arith) (written (k + 1)) refl)
      ∙ ap (masked written) (sym (node_is (k + 1) q))

  -- ## All functions

  nodes_from_lem : (m k : ℕ) → k + m ≡ count
      → nodes_from (k + 1) (entries_from state (record_at k)) ≡ map (masked written) (nodes_from (k + 1) (entries_from final (record_at k)))
  unfolding nodes_from
  nodes_from_lem zero k e =
      ap (nodes_from (k + 1)) (entries_past state (record_at k) (omega (arith, length_state final done all, count_entries final framed)))
      ∙ sym (ap (λ (es : List Entry). map (masked written) (nodes_from (k + 1) es))
      (entries_past final (record_at k) (omega (arith, count_entries final framed))))
  nodes_from_lem (suc m) k e =
      let n : k + 1 ≡ suc k = omega arith in
      ap (nodes_from (k + 1)) (entries_index state state_framed k (omega (arith, same_count)))
      ∙ ap₂ ◌∷◌ (node_masked k)
      (ap (λ (j : ℕ). nodes_from (k + 1 + 1) (entries_from state (record_at j))) n
      ∙ ap (λ (j : ℕ). nodes_from (j + 1) (entries_from state (record_at (suc k)))) n
      ∙ nodes_from_lem m (suc k) (omega arith)
      ∙ sym (ap (λ (j : ℕ). map (masked written) (nodes_from (j + 1) (entries_from final (record_at (suc k))))) n)
      ∙ sym (ap (λ (j : ℕ). map (masked written) (nodes_from (k + 1 + 1) (entries_from final (record_at j)))) n))
      ∙ sym (ap (λ (es : List Entry). map (masked written) (nodes_from (k + 1) es)) (entries_index final framed k (omega arith)))

  pub nodes_masked : nodes_of state ≡ map (masked written) (nodes_of final)
  nodes_masked = nodes_from_lem count 0 (omega arith)
