-- After all writes of a script the registers are the sheet's: every byte of it is named by a write, or the model has it, or it is 0.
-- Assumes nothing.
use Rattle.std.specs.Prelude.{◌≡◌, ◌⊎◌, Bool, cond, ◌||◌, List, [], ◌++◌, eqb, leb, ltb, length, get_or, take, drop}
use Rattle.std.proofs.Math.Path.{refl, ap}
use Rattle.std.proofs.Common.{sym, subst, ◌∙◌, inl, inr, length-take, get_or-take, eqb-true, ltb-true, ltb-false, leb-false}
use Rattle.std.proofs.Math.Bool.{true, false}
use mathlib.Core.List.Memᴰ
use Prim.Native.Nat.{ℕ, zero, suc, ◌+◌, ◌-◌, ◌*◌, ◌/◌, ◌%◌, ◌≤◌, ◌<◌}
use native.Mathlib.Omega.{arith}
use Rattle.std.proofs.Math.ListN.{get_or-eq_default}
use Rattle.std.proofs.lemmas.Bool.{eqb-false, not-false}
use Rattle.arith.specs.BoolLaws.{both_of_and, false_of_or}
use Rattle.endian.specs.Endian.{Bytes, be, le, be_bytes, le_bytes}
use Rattle.endian.specs.EndianLaws.{be_lt}
use Rattle.endian.specs.BytesLaws.{bytes_take, bytes_drop}
use Rattle.lists.specs.Lists.{◌∈◌, All}
use Rattle.lists.specs.ListLaws.{all_elim, all_intro}
use Rattle.bar.specs.Bar.{slots}
use Rattle.bar.specs.Values.{values_fit}
use Rattle.sheet_record.specs.Places.{record_size, values_at, readbacks_at}
use Rattle.sheet_record.specs.Entry.{header_of, is_bridge, slot_count, dwords, entry_of}
use Rattle.sheet_record.specs.EntryLaws.{length_dwords}
use Rattle.sheet.specs.declared.Rule.TheVariants.{ReadBacks}
use Rattle.sheet.specs.Sheet.{Framed, entries_of, parts_in, part_at, record_at, read_backs_wrong, breaks, any_breaks}
use Rattle.sheet.specs.Commands.{place_in}
use Rattle.sheet.proofs.FrameLaws.{part_index}
use Rattle.sheet.proofs.IndexLaws.{length_entries}
use Rattle.sheet.proofs.CheckLaws.{count_entries}
use Rattle.sheet.proofs.RulesLaws.{breaks_index}
use Rattle.sheet_bytes.specs.Layout.{Planned, dword_bytes, end_bytes, bridge_bytes, body_bytes, common_bytes, config_bytes, part_bytes}
use Rattle.sheet_bytes.proofs.ReadBack.{header_of_part_bytes}
use Rattle.walk_written.specs.Copied.{ends_as_final}
use Rattle.script_writes.specs.declared.Pass.{Pass}
use Rattle.script_writes.specs.declared.Pass.TheVariants.{Buses, Registers, Commands}
use Rattle.script_writes.specs.Writes.{Write, write_of, named, three_bytes, two_bytes, four_bytes, is_used, slot_writes, bar_writes}
use Rattle.script_writes.specs.Writes.{window_writes, writes_in, pass_writes, writes_of}
use Rattle.script_writes.proofs.WritesLaws.{slot_count_le}
use Rattle.scripter.specs.CountingLaws.{get_d_dwords}
use Rattle.script_run.specs.Model.{is_kept, model_of, register_place}
use Rattle.script_run.proofs.Copying.{all_places, all_places_elim, all_places_intro}
use Rattle.script_run.proofs.Written.{writes_in_lem, pass_member}
use Rattle.script_run.proofs.StateLaws.{length_blank, model_at, state_of}
use Rattle.script_run.proofs.Nodes.{part_byte}
use Rattle.script_run.proofs.Unused.{unused_zero}

-- ## "the rest 0"

-- byte i of the register at an offset of a part
abbrev pub byte_at : List ℕ → ℕ → ℕ → ℕ
byte_at p offset i = get_or p (2 + (offset + i)) 0

abbrev pub Zero : List ℕ → ℕ → ℕ → Type 0
Zero p offset i = byte_at p offset i ≡ 0

abbrev pub Four : (ℕ → Type 0) → Type 0
Four P = P 0 × P 1 × P 2 × P 3

four_elim : (P : ℕ → Type 0) → Four P → (i : ℕ) → i < 4 → P i
four_elim P f zero h = f.0
four_elim P f (suc zero) h = f.1
four_elim P f (suc (suc zero)) h = f.2
four_elim P f (suc (suc (suc zero))) h = f.3
four_elim P f (suc (suc (suc (suc i)))) h = absurd (omega arith)

-- the bytes of a record that hold nothing
pub record RestZero (p : List ℕ) : Type 0 where
  pub ids : Four (Zero p 0x00)
  pub status : Zero p 0x04 2 × Zero p 0x04 3
  pub class : Four (Zero p 0x08)
  pub around_type : Zero p 0x0c 0 × Zero p 0x0c 1 × Zero p 0x0c 3
  pub of_bridge_lem : is_bridge (header_of p) ≡ true → Zero p 0x18 3 × Zero p 0x1c 2 × Zero p 0x1c 3
  pub of_end : is_bridge (header_of p) ≡ false → Four (Zero p 0x28) × Four (Zero p 0x2c)
  pub last : Four (Zero p 0x30) × Four (Zero p 0x34) × Four (Zero p 0x38) × Four (Zero p 0x3c)

module _ (q : Planned) where
  last_zero : (t : Bool) → is_bridge q.entry.header ≡ t
      → Four (Zero (part_bytes q) 0x30) × Four (Zero (part_bytes q) 0x34) × Four (Zero (part_bytes q) 0x38) × Four (Zero (part_bytes q) 0x3c)
  unfolding part_bytes config_bytes common_bytes body_bytes bridge_bytes end_bytes dword_bytes be_bytes le_bytes
  last_zero true e = rw e ((refl, refl, refl, refl), (refl, refl, refl, refl), (refl, refl, refl, refl), (refl, refl, refl, refl))
  last_zero false e = rw e ((refl, refl, refl, refl), (refl, refl, refl, refl), (refl, refl, refl, refl), (refl, refl, refl, refl))

  bridge_zero : is_bridge q.entry.header ≡ true → Zero (part_bytes q) 0x18 3 × Zero (part_bytes q) 0x1c 2 × Zero (part_bytes q) 0x1c 3
  unfolding part_bytes config_bytes common_bytes body_bytes bridge_bytes dword_bytes be_bytes le_bytes
  bridge_zero e = rw e (refl, refl, refl)

  end_zero : is_bridge q.entry.header ≡ false → Four (Zero (part_bytes q) 0x28) × Four (Zero (part_bytes q) 0x2c)
  unfolding part_bytes config_bytes common_bytes body_bytes end_bytes dword_bytes be_bytes le_bytes
  end_zero e = rw e ((refl, refl, refl, refl), (refl, refl, refl, refl))

  pub rest_zero : RestZero (part_bytes q)
  unfolding part_bytes config_bytes common_bytes be_bytes le_bytes
  rest_zero =
      let header : (t : Bool) → is_bridge (header_of (part_bytes q)) ≡ t → is_bridge q.entry.header ≡ t =
      λ t e. ap is_bridge (sym (header_of_part_bytes q)) ∙ e in
      record {
        ids = (refl, refl, refl, refl);
        status = (refl, refl);
        class = (refl, refl, refl, refl);
        around_type = (refl, refl, refl);
        of_bridge_lem = λ e. bridge_zero (header true e);
        of_end = λ e. end_zero (header false e);
        last = last_zero (is_bridge q.entry.header) refl;
      }

-- ## Named bytes

four_named : (i : ℕ) → i < 4 → named four_bytes i ≡ true
four_named i h = four_elim (λ j. named four_bytes j ≡ true) (refl, refl, refl, refl) i h

-- what is asked of the sheet: its bytes and frame, 25, and that the rest of each record is 0
pub record Endable (final : List ℕ) : Type 0 where
  pub bytes : Bytes final
  pub framed : Framed 1 final
  pub readbacks : any_breaks ReadBacks (entries_of final) ≡ false
  pub rest : (k : ℕ) → k < length (entries_of final) → RestZero (part_at final k)

module _ (final : List ℕ) (en : Endable final) (k : ℕ) (h : k < length (entries_of final)) where
  abbrev p : List ℕ
  p = part_at final k

  abbrev b : Bool
  b = is_bridge (header_of (part_at final k))

  -- a write names byte i of the register
  record Covered (offset i : ℕ) : Type 0 where
    write : Write
    among : write ∈ writes_of (parts_in final)
    number_is : write.number ≡ k + 1
    offset_is : write.offset ≡ offset
    is_named : named write.enables i ≡ true

  in_pass : (pass : Pass) (w : Write) → w ∈ writes_in pass (k + 1) p → w ∈ pass_writes pass 1 (parts_in final)
  in_pass pass w m =
      let below : k < length (parts_in final) = omega (arith, length_entries final) in
      let n : k + 1 ≡ 1 + k = omega arith in
      pass_member pass 1 (parts_in final) k w below
      (subst (λ (q : List ℕ). w ∈ writes_in pass (1 + k) q) (sym (part_index final k en.framed below))
      (subst (λ (j : ℕ). w ∈ writes_in pass j (part_at final k)) n m))

  among_all : (pass : Pass) (w : Write) → w ∈ writes_in pass (k + 1) p → w ∈ writes_of (parts_in final)
  unfolding writes_of
  among_all Buses w m =
      Memᴰ.append_left (pass_writes Commands 1 (parts_in final))
      (Memᴰ.append_left (pass_writes Registers 1 (parts_in final)) (in_pass Buses w m))
  among_all Registers w m =
      Memᴰ.append_left (pass_writes Commands 1 (parts_in final))
      (Memᴰ.append_right (pass_writes Buses 1 (parts_in final)) (in_pass Registers w m))
  among_all Commands w m =
      Memᴰ.append_right (pass_writes Buses 1 (parts_in final) ++ pass_writes Registers 1 (parts_in final)) (in_pass Commands w m)

  covers : (pass : Pass) (offset enables i : ℕ) → write_of (k + 1) p offset enables ∈ writes_in pass (k + 1) p → named enables i ≡ true
      → Covered offset i
  covers pass offset enables i m n =
      record {
        write = write_of (k + 1) p offset enables;
        among = among_all pass _ m;
        number_is = refl;
        offset_is = refl;
        is_named = n;
      }

  -- ## BARs

  bar_among : (n j i : ℕ) → i < n → is_used p (j + i) ≡ true → write_of (k + 1) p (0x10 + 4 * (j + i)) four_bytes ∈ bar_writes (k + 1) p n j
  unfolding bar_writes
  bar_among zero j i l u = absurd (omega arith)
  bar_among (suc n) j zero l u =
      let z : j + 0 ≡ j = omega arith in
      let used : is_used p j ≡ true = ap (is_used p) (sym z) ∙ u in
      let m : write_of (k + 1) p (0x10 + 4 * (j + 0)) four_bytes ∈ slot_writes (k + 1) p j = rw (z, used) (Memᴰ.head refl) in
      Memᴰ.append_left (bar_writes (k + 1) p n (j + 1)) m
  bar_among (suc n) j (suc i) l u =
      let s : j + suc i ≡ j + 1 + i = omega arith in
      Memᴰ.append_right (slot_writes (k + 1) p j)
      (rw s (bar_among n (j + 1) i (omega arith) (ap (is_used p) (sym s) ∙ u)))

  values_fit_lem : values_fit (slots (take (slot_count (header_of p)) (dwords (be 4) 6 p readbacks_at)))
      (take (slot_count (header_of p)) (dwords (be 4) 6 p readbacks_at)) (dwords (le 4) (slot_count (header_of p)) p values_at) ≡ true
  unfolding breaks read_backs_wrong entry_of
  values_fit_lem =
      let e = breaks_index ReadBacks final en.framed en.readbacks k h in
      let n = slot_count (header_of p) in
      (both_of_and _ _ (not-false _ e)).0

  part_bytes_lem : Bytes p
  part_bytes_lem = bytes_take record_size (drop (record_at k + 2) final) (bytes_drop (record_at k + 2) final en.bytes)

  slot_le : slot_count (header_of p) ≤ 6
  slot_le = slot_count_le (header_of p)

  small : (i : ℕ) → get_or (take (slot_count (header_of p)) (dwords (be 4) 6 p readbacks_at)) i 0 < 4294967296
  small i = go (ltb i (slot_count (header_of p))) refl
    where
      rs : List ℕ
      rs = dwords (be 4) 6 p readbacks_at

      go : (t : Bool) → ltb i (slot_count (header_of p)) ≡ t
          → get_or (take (slot_count (header_of p)) (dwords (be 4) 6 p readbacks_at)) i 0 < 4294967296
      go true e =
          let l = ltb-true i (slot_count (header_of p)) e in
          let v = get_or-take (slot_count (header_of p)) (dwords (be 4) 6 p readbacks_at) i 0 l
          ∙ get_d_dwords (be 4) 6 p readbacks_at i (omega (arith, slot_le)) in
          omega (arith, v, be_lt 4 p (readbacks_at + 4 * i) part_bytes_lem)
      go false e =
          let l = ltb-false i (slot_count (header_of p)) e in
          let past : length (take (slot_count (header_of p)) (dwords (be 4) 6 p readbacks_at)) ≤ i =
          omega (arith, l, length-take (slot_count (header_of p)) (dwords (be 4) 6 p readbacks_at)) in
          let v = get_or-eq_default (take (slot_count (header_of p)) (dwords (be 4) 6 p readbacks_at)) 0 past in
          omega (arith, v)

  value_zero : (j : ℕ) → j < slot_count (header_of p) → is_used p j ≡ false → le 4 p (values_at + 4 * j) ≡ 0
  value_zero j l u =
      let n = slot_count (header_of p) in
      let rs = dwords (be 4) 6 p readbacks_at in
      let vs = dwords (le 4) (slot_count (header_of p)) p values_at in
      let zero_back : be 4 p (readbacks_at + 4 * j) ≡ 0 = eqb-true _ 0 (not-false _ u) in
      let back : get_or (take (slot_count (header_of p)) (dwords (be 4) 6 p readbacks_at)) j 0 ≡ 0 =
      get_or-take (slot_count (header_of p)) (dwords (be 4) 6 p readbacks_at) j 0 l
      ∙ get_d_dwords (be 4) 6 p readbacks_at j (omega (arith, slot_le)) ∙ zero_back in
      let long : j < length (take (slot_count (header_of p)) (dwords (be 4) 6 p readbacks_at)) =
      omega (arith, length-take (slot_count (header_of p)) (dwords (be 4) 6 p readbacks_at), length_dwords (be 4) 6 p readbacks_at, slot_le) in
      sym (get_d_dwords (le 4) (slot_count (header_of p)) p values_at j l)
      ∙ unused_zero (take (slot_count (header_of p)) (dwords (be 4) 6 p readbacks_at)) (dwords (le 4) (slot_count (header_of p)) p values_at)
      small values_fit_lem j long back

  bytes_zero : (at : ℕ) → le 4 p at ≡ 0 → Four (λ i. get_or p (at + i) 0 ≡ 0)
  unfolding le
  bytes_zero at e =
      let one : at + 1 + 1 ≡ at + 2 = omega arith in
      let two : at + 1 + 1 + 1 ≡ at + 3 = omega arith in
      let z : at + 0 ≡ at = omega arith in
      let f = rw (two, one) at e in
      (rw z (omega arith), omega arith, omega arith, omega arith)

  bar_covered : (j i : ℕ) → j < slot_count (header_of p) → i < 4 → Covered (0x10 + 4 * j) i ⊎ Zero p (0x10 + 4 * j) i
  bar_covered j i l l' = go (is_used p j) refl
    where
      go : (t : Bool) → is_used p j ≡ t → Covered (0x10 + 4 * j) i ⊎ Zero p (0x10 + 4 * j) i
      go true e =
          let z : 0 + j ≡ j = omega arith in
          let m = bar_among (slot_count (header_of p)) 0 j l (ap (is_used p) z ∙ e) in
          inl (covers Registers (0x10 + 4 * j) four_bytes i
          (Memᴰ.append_left (cond b (window_writes (k + 1) p) [])
          (subst (λ (x : ℕ). write_of (k + 1) p (0x10 + 4 * x) four_bytes ∈ bar_writes (k + 1) p (slot_count (header_of p)) 0) z m))
          (four_named i l'))
      go false e =
          let place : values_at + 4 * j + i ≡ 2 + (0x10 + 4 * j + i) = omega arith in
          inr (ap (λ (x : ℕ). get_or p x 0) (sym place)
          ∙ four_elim (λ i. get_or p (values_at + 4 * j + i) 0 ≡ 0) (bytes_zero (values_at + 4 * j) (value_zero j l e)) i l')

  -- ## Every byte of a record's registers but the header type

  command_covered : (i : ℕ) → named two_bytes i ≡ true → Covered 0x04 i
  command_covered i n = covers Commands 0x04 two_bytes i (Memᴰ.head refl) n

  bus_covered : b ≡ true → (i : ℕ) → named three_bytes i ≡ true → Covered 0x18 i
  bus_covered e i n = covers Buses 0x18 three_bytes i (rw e (Memᴰ.head refl)) n

  window_covered : b ≡ true → (offset enables i : ℕ) → write_of (k + 1) p offset enables ∈ window_writes (k + 1) p → named enables i ≡ true
      → Covered offset i
  window_covered e offset enables i m n =
      covers Registers offset enables i
      (Memᴰ.append_right (bar_writes (k + 1) p (slot_count (header_of p)) 0)
      (subst (λ (t : Bool). write_of (k + 1) p offset enables ∈ cond t (window_writes (k + 1) p) []) (sym e) m)) n

  rest : RestZero (part_at final k)
  rest = en.rest k h

  two_slots : (j : ℕ) → j < 2 → j < slot_count (header_of p)
  two_slots j l = go b
    where
      go : (t : Bool) → j < cond t 2 6
      go true = omega arith
      go false = omega arith

  six_slots : b ≡ false → (j : ℕ) → j < 6 → j < slot_count (header_of p)
  six_slots e j l = subst (λ (t : Bool). j < cond t 2 6) (sym e) l

  -- a register that is a BAR, or a bridge's own
  either : (offset j i : ℕ) → offset ≡ 0x10 + 4 * j → j < 6 → i < 4 → (b ≡ true → Covered offset i ⊎ Zero p offset i)
      → Covered offset i ⊎ Zero p offset i
  either offset j i e l l' own = go b refl
    where
      go : (t : Bool) → b ≡ t → Covered offset i ⊎ Zero p offset i
      go true q = own q
      go false q = rw e (bar_covered j i (six_slots q j l) l')

  -- a bridge's, or nothing
  or_zero : (offset i : ℕ) → (b ≡ true → Covered offset i) → (b ≡ false → Zero p offset i) → Covered offset i ⊎ Zero p offset i
  or_zero offset i own none = go b refl
    where
      go : (t : Bool) → b ≡ t → Covered offset i ⊎ Zero p offset i
      go true q = inl (own q)
      go false q = inr (none q)

  abbrev Done : ℕ → ℕ → Type 0
  Done offset i = Covered offset i ⊎ Zero p offset i

  commands : Four (Done 0x04)
  commands =
      (inl (command_covered 0 refl), inl (command_covered 1 refl), inr rest.status.0, inr rest.status.1)

  buses : b ≡ true → Four (Done 0x18)
  buses e = (inl (bus_covered e 0 refl), inl (bus_covered e 1 refl), inl (bus_covered e 2 refl), inr (rest.of_bridge_lem e).0)

  ports : b ≡ true → Four (Done 0x1c)
  ports e =
      let m = Memᴰ.head refl in (
        inl (window_covered e 0x1c two_bytes 0 m refl),
        inl (window_covered e 0x1c two_bytes 1 m refl),
        inr (rest.of_bridge_lem e).1,
        inr (rest.of_bridge_lem e).2,
      )

  low_in : write_of (k + 1) p 0x20 four_bytes ∈ window_writes (k + 1) p
  low_in = Memᴰ.tail (Memᴰ.head refl)

  high_in : write_of (k + 1) p 0x24 four_bytes ∈ window_writes (k + 1) p
  high_in = Memᴰ.tail (Memᴰ.tail (Memᴰ.head refl))

  base_in : write_of (k + 1) p 0x28 four_bytes ∈ window_writes (k + 1) p
  base_in = Memᴰ.tail (Memᴰ.tail (Memᴰ.tail (Memᴰ.head refl)))

  limit_in : write_of (k + 1) p 0x2c four_bytes ∈ window_writes (k + 1) p
  limit_in = Memᴰ.tail (Memᴰ.tail (Memᴰ.tail (Memᴰ.tail (Memᴰ.head refl))))

  abbrev Dword : ℕ → Type 0
  Dword d = (i : ℕ) → i < 4 → ¬ (4 * d + i ≡ 14) → Done (4 * d) i

  type_dword : Dword 3
  type_dword i l n =
      four_elim (λ i. ¬ (12 + i ≡ 14) → Done 0x0c i) (
        λ n. inr rest.around_type.0,
        λ n. inr rest.around_type.1,
        λ n. absurd (n refl),
        λ n. inr rest.around_type.2,
      ) i l n

  first_dwords : Four (λ c. Dword (4 * 0 + c))
  first_dwords = (
    λ i l n. inr (four_elim (Zero p 0x00) rest.ids i l),
    λ i l n. four_elim (Done 0x04) commands i l,
    λ i l n. inr (four_elim (Zero p 0x08) rest.class i l),
    type_dword,
  )

  bar_dwords : Four (λ c. Dword (4 * 1 + c))
  bar_dwords = (
    λ i l n. bar_covered 0 i (two_slots 0 (omega arith)) l,
    λ i l n. bar_covered 1 i (two_slots 1 (omega arith)) l,
    λ i l n. either 0x18 2 i refl (omega arith) l (λ e. four_elim (Done 0x18) (buses e) i l),
    λ i l n. either 0x1c 3 i refl (omega arith) l (λ e. four_elim (Done 0x1c) (ports e) i l),
  )

  window_dwords : Four (λ c. Dword (4 * 2 + c))
  window_dwords = (
    λ i l n. either 0x20 4 i refl (omega arith) l (λ e. inl (window_covered e 0x20 four_bytes i low_in (four_named i l))),
    λ i l n. either 0x24 5 i refl (omega arith) l (λ e. inl (window_covered e 0x24 four_bytes i high_in (four_named i l))),
    λ i l n.
        or_zero 0x28 i (λ e. window_covered e 0x28 four_bytes i base_in (four_named i l))
        (λ e. four_elim (Zero p 0x28) (rest.of_end e).0 i l),
    λ i l n.
        or_zero 0x2c i (λ e. window_covered e 0x2c four_bytes i limit_in (four_named i l))
        (λ e. four_elim (Zero p 0x2c) (rest.of_end e).1 i l),
  )

  last_dwords : Four (λ c. Dword (4 * 3 + c))
  last_dwords = (
    λ i l n. inr (four_elim (Zero p 0x30) rest.last.0 i l),
    λ i l n. inr (four_elim (Zero p 0x34) rest.last.1 i l),
    λ i l n. inr (four_elim (Zero p 0x38) rest.last.2 i l),
    λ i l n. inr (four_elim (Zero p 0x3c) rest.last.3 i l),
  )

  dword : (d : ℕ) → d < 16 → Dword d
  dword d l =
      let e : 4 * (d / 4) + d % 4 ≡ d = omega arith in
      subst Dword e
      (four_elim (λ c. Dword (4 * (d / 4) + c))
      (four_elim (λ a. Four (λ c. Dword (4 * a + c))) (first_dwords, bar_dwords, window_dwords, last_dwords) (d / 4) (omega arith))
      (d % 4) (omega arith))

-- ## The whole sheet

module _ (final : List ℕ) (en : Endable final) where
  abbrev all : List Write
  all = writes_of (parts_in final)

  -- a register's byte
  of_register : (x k d i : ℕ) → k < length (entries_of final) → d < 16 → i < 4 → ¬ (4 * d + i ≡ 14)
      → x ≡ register_place (k + 1) (4 * d) + i → is_kept (place_in x) ≡ false
      → (x ∈ all_places all) ⊎ (get_or (model_of final) x 0 ≡ get_or final x 0)
  of_register x k d i h l l' n e kept = go (dword final en k h d l i l' n)
    where
      go : Done final en k h (4 * d) i → (x ∈ all_places all) ⊎ (get_or (model_of final) x 0 ≡ get_or final x 0)
      go (inl c) =
          let m = all_places_intro all c.write c.among i l' c.is_named in
          let place : register_place c.write.number c.write.offset + i ≡ x = omega (arith, c.number_is, c.offset_is, e) in
          inl (subst (λ (y : ℕ). y ∈ all_places all) place m)
      go (inr z) =
          let place : record_at k + 2 + (2 + (4 * d + i)) ≡ x = omega (arith, e) in
          inr (model_at final x ∙ rw kept
          (sym (ap (λ (y : ℕ). get_or final y 0) (sym place) ∙ sym (part_byte final k (2 + (4 * d + i)) (omega arith)) ∙ z)))

  pub every_byte : (x : ℕ) → x < length final → (x ∈ all_places all) ⊎ (get_or (model_of final) x 0 ≡ get_or final x 0)
  every_byte x h = go (is_kept (place_in x)) refl
    where
      go : (t : Bool) → is_kept (place_in x) ≡ t → (x ∈ all_places all) ⊎ (get_or (model_of final) x 0 ≡ get_or final x 0)
      go true e = inr (model_at final x ∙ rw e)
      go false e =
          let r = place_in x in
          let not_early = false_of_or (ltb (place_in x) 4) (eqb (place_in x) 18 || leb 68 (place_in x)) e in
          let not_later = false_of_or (eqb (place_in x) 18) (leb 68 (place_in x)) not_early.1 in
          let from : 4 ≤ place_in x = ltb-false (place_in x) 4 not_early.0 in
          let other : ¬ (place_in x ≡ 18) = eqb-false (place_in x) 18 not_later.0 in
          let below : place_in x < 68 = leb-false 68 (place_in x) not_later.1 in
          let positive : 1 ≤ x = omega (arith, below) in
          let k = (x - 1) / 92 in
          let r_is : place_in x ≡ (x - 1) % 92 = omega arith in
          of_register x ((x - 1) / 92) ((place_in x - 4) / 4) ((place_in x - 4) % 4)
          (omega (arith, count_entries final en.framed, h)) (omega arith) (omega arith) (λ z. other (omega arith)) (omega arith) e

  places_inside : All (λ i. i < length (model_of final)) (all_places all)
  places_inside =
      all_intro _ (all_places all) (λ x m.
      let (w, there, n) = all_places_elim all x m in
      let i = all_elim _ all (writes_in_lem final en.framed) there in
      omega (arith, n.place_is, n.in_dword, i.register.inside, i.in_sheet, i.from_1, length_blank 0 final))

  pub ends_as_sheet : state_of final (writes_of (parts_in final)) ≡ final
  unfolding state_of
  ends_as_sheet = ends_as_final final (all_places all) (model_of final) (length_blank 0 final) places_inside every_byte
