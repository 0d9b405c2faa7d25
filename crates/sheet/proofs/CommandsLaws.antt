-- No check and no register looks at a command word: sheets that differ in these alone have one number and the same registers. Rewriting one
-- function's command word is such a change, and changes that word alone. Assumes nothing.
use Rattle.std.specs.Prelude.{◌≡◌, Bool, true, false, cond, length, take, drop, set, eqb, leb, ltb}
use Rattle.std.proofs.Math.Path.{refl, ap₂}
use Rattle.std.proofs.Common.{sym, ap, ◌∙◌, arith, length-take, length-set, get_or-drop, get_or-take, ext_get_or, get_or-set_same, get_or-set_other, eqb-true, ltb-true, ltb-false, leb-true, leb-false}
use mathlib.Core.List.{List, [], ◌∷◌}
use Prim.Native.Nat.{ℕ, zero, suc, ◌+◌, ◌-◌, ◌/◌, ◌≤◌, ◌<◌}
use Rattle.std.proofs.Math.ListN.{get_or, get_or-eq_default}
use Rattle.std.proofs.lemmas.List.Edits.{sets}
use Rattle.std.proofs.Math.Seq.{length-sets}
use Rattle.std.proofs.lemmas.Bool.{eqb-false}
use Rattle.endian.specs.Endian.{be, le, le_bytes}
use Rattle.endian.specs.SetsLaws.{get_d_sets_before, get_d_sets_after}
use Rattle.endian.specs.EndianLaws.{be_agree, le_agree, le_sets, le_sets_before, le_sets_after, length_le_bytes}
use Rattle.records.specs.declared.Next.{Next}
use Rattle.records.specs.declared.Next.TheVariants.{End, Record, Broken}
use Rattle.records.specs.Records.{next_of}
use Rattle.records.specs.RecordsLaws.{fits_at, next_end, next_stray, next_record, next_broken}
use Rattle.sheet.specs.declared.Lookup.{Lookup}
use Rattle.sheet.specs.declared.Lookup.TheVariants.{Registers, Refused}
use Rattle.sheet_record.specs.Places.{id_at, registers_at, command_at, header_type_at, values_at, primary_at, secondary_at, subordinate_at, io_base_at}
use Rattle.sheet_record.specs.Places.{io_limit_at, low_base_at, low_limit_at, high_base_at, high_limit_at, upper_base_at, upper_limit_at, readbacks_at}
use Rattle.sheet_record.specs.Places.{record_size, stride}
use Rattle.sheet_record.specs.Entry.{dwords, header_of, slot_count, window_of, Entry, entry_of}
use Rattle.sheet.specs.Sheet.{is_framed, Framed, entries_from, entries_of, commands_of, from20, from21, from22, sheet_number, record_at}
use Rattle.sheet.specs.Sheet.{command_place}
use Rattle.sheet.specs.Lookup.{lookup_of, command_from, with_command}
use Rattle.sheet.specs.Spaces.{functions_from, nodes_from, registers_of, nodes_of}
use Rattle.sheet.specs.Commands.{InCommand, SameButCommands}
use Rattle.sheet.proofs.FrameLaws.{framed_end, framed_broken, framed_other, framed_on, framed_at, length_framed}
use Rattle.sheet.proofs.CheckLaws.{part_from, entries_on, entries_past, first_at, past_of_nil}
use Rattle.sheet.proofs.IndexLaws.{length_commands, command_index}
use Rattle.sheet.proofs.LookupLaws.{LookedUp, looked_up}
use Rattle.pools.specs.declared.Pool.{Pool}
use Rattle.pools.specs.declared.Pool.TheVariants.{Low, High, Io}
use Rattle.pools.specs.declared.Space.{Space}

-- ## One record: all of its part but the command word

module _ (p q : List ℕ) (h : (i : ℕ) → (i / 2 ≡ command_at / 2 → ⊥) → get_or p i 0 ≡ get_or q i 0) where
  be_same : (n i : ℕ) → i + n ≤ command_at → be n p i ≡ be n q i
  be_same n i l = be_agree n p q i i (λ k m. h (i + k) (λ e. omega arith))

  be_past : (n i : ℕ) → command_at + 2 ≤ i → be n p i ≡ be n q i
  be_past n i l = be_agree n p q i i (λ k m. h (i + k) (λ e. omega arith))

  le_past : (n i : ℕ) → command_at + 2 ≤ i → le n p i ≡ le n q i
  le_past n i l = le_agree n p q i i (λ k m. h (i + k) (λ e. omega arith))

  dwords_past : (read : List ℕ → ℕ → ℕ) → ((i : ℕ) → command_at + 2 ≤ i → read p i ≡ read q i) → (n i : ℕ) → command_at + 2 ≤ i
      → dwords read n p i ≡ dwords read n q i
  unfolding dwords
  dwords_past read same zero i l = refl
  dwords_past read same (suc n) i l = ap₂ ◌∷◌ (same i l) (dwords_past read same n (i + 4) (omega arith))

  byte_past : (i : ℕ) → command_at + 2 ≤ i → get_or p i 0 ≡ get_or q i 0
  byte_past i l = h i (λ e. omega arith)

  window_same : (w : Pool) → window_of w p ≡ window_of w q
  unfolding window_of
  window_same Low = cc (le_past 2 low_base_at (omega arith), le_past 2 low_limit_at (omega arith))
  window_same High =
      cc (
        le_past 2 high_base_at (omega arith),
        le_past 2 high_limit_at (omega arith),
        le_past 4 upper_base_at (omega arith),
        le_past 4 upper_limit_at (omega arith),
      )
  window_same Io = cc (byte_past io_base_at (omega arith), byte_past io_limit_at (omega arith))

  entry_same : entry_of p ≡ entry_of q
  unfolding entry_of
  entry_same =
      cc (
        be_same 2 id_at (omega arith),
        byte_past header_type_at (omega arith),
        dwords_past (le 4) (le_past 4) (slot_count (header_of p)) values_at (omega arith),
        dwords_past (be 4) (be_past 4) 6 readbacks_at (omega arith),
        byte_past primary_at (omega arith),
        byte_past secondary_at (omega arith),
        byte_past subordinate_at (omega arith),
        window_same Low,
        window_same High,
        window_same Io,
      )

-- ## The frame

next_same : (s t : List ℕ) (at : ℕ) → length t ≡ length s → be 2 t at ≡ be 2 s at → next_of (drop at t) ≡ next_of (drop at s)
next_same s t at l n = go (leb (length s) at) refl (eqb (length s) (at + 1)) refl (leb (be 2 s at) (length s - (at + 2))) refl
  where
    go : (a : Bool) → leb (length s) at ≡ a → (b : Bool) → eqb (length s) (at + 1) ≡ b → (c : Bool)
        → leb (be 2 s at) (length s - (at + 2)) ≡ c
        → next_of (drop at t) ≡ next_of (drop at s)
    go true x b y c z =
        let past : length s ≤ at = leb-true (length s) at x in
        next_end t at (omega arith) ∙ sym (next_end s at past)
    go false x true y c z =
        let stray : length s ≡ at + 1 = eqb-true (length s) (at + 1) y in
        next_stray t at (omega arith) ∙ sym (next_stray s at stray)
    go false x false y true z =
        let long : at + 2 ≤ length s = omega (arith, leb-false (length s) at x, eqb-false (length s) (at + 1) y) in
        let inside : be 2 s at ≤ length s - (at + 2) = leb-true (be 2 s at) (length s - (at + 2)) z in
        next_record t at (omega arith) (omega arith) ∙ ap Record n ∙ sym (next_record s at long inside)
    go false x false y false z =
        let long : at + 2 ≤ length s = omega (arith, leb-false (length s) at x, eqb-false (length s) (at + 1) y) in
        let short : length s - (at + 2) < be 2 s at = leb-false (be 2 s at) (length s - (at + 2)) z in
        next_broken t at (omega arith) (omega arith) ∙ sym (next_broken s at long short)

module _ {s t : List ℕ} (same : SameButCommands s t) where
  -- what stands at the place of record k
  next_at_record : (k at : ℕ) → at ≡ record_at k → next_of (drop at t) ≡ next_of (drop at s)
  next_at_record k at e =
      next_same s t at same.same_length (be_agree 2 t s at at (λ j l. same.same_bytes (at + j) (λ c. omega arith)))

  framed_from : (n k at : ℕ) → length s ≤ at + n → at ≡ record_at k → at ≤ length s → is_framed (drop at t) ≡ is_framed (drop at s)
  framed_from zero k at m e h =
      framed_end t at (next_end t at (omega (arith, same.same_length))) ∙ sym (framed_end s at (next_end s at (omega arith)))
  framed_from (suc n) k at m e h = go (next_of (drop at s)) refl (λ d. framed_from n (suc k) (at + stride) (omega arith) (omega arith) d)
    where
      ht : at ≤ length t
      ht = omega (arith, same.same_length)

      by_size : (j : ℕ) (b : Bool) → eqb j record_size ≡ b → next_of (drop at s) ≡ Record j → next_of (drop at t) ≡ Record j
          → (at + stride ≤ length s → is_framed (drop (at + stride) t) ≡ is_framed (drop (at + stride) s)) → is_framed (drop at t)
          ≡ is_framed (drop at s)
      by_size j true q x y on =
          let n90 = eqb-true j record_size q in
          framed_on t at j ht y n90 ∙ on (omega (arith, n90, fits_at s at j x)) ∙ sym (framed_on s at j h x n90)
      by_size j false q x y on =
          let other = eqb-false j record_size q in framed_other t at j ht y other ∙ sym (framed_other s at j h x other)

      go : (x : Next) → next_of (drop at s) ≡ x →
          (at + stride ≤ length s → is_framed (drop (at + stride) t) ≡ is_framed (drop (at + stride) s))
          → is_framed (drop at t) ≡ is_framed (drop at s)
      go End x on = framed_end t at (next_at_record k at e ∙ x) ∙ sym (framed_end s at x)
      go Broken x on = framed_broken t at (next_at_record k at e ∙ x) ∙ sym (framed_broken s at x)
      go (Record j) x on = by_size j (eqb j record_size) refl x (next_at_record k at e ∙ x) on

  -- ## The records

  part_same : (k at : ℕ) → at ≡ record_at k → (i : ℕ) → (i / 2 ≡ command_at / 2 → ⊥) → get_or (part_from t at) i 0 ≡ get_or (part_from s at) i 0
  part_same k at e i c = go (ltb i record_size) refl
    where
      size : at + stride - (at + 2) ≡ record_size
      size = omega arith

      go : (b : Bool) → ltb i record_size ≡ b → get_or (part_from t at) i 0 ≡ get_or (part_from s at) i 0
      go true l =
          let below : i < record_size = ltb-true i record_size l in
          rw (
            size,
            get_or-take record_size (drop (at + 2) t) i 0 below,
            get_or-take record_size (drop (at + 2) s) i 0 below,
            get_or-drop (at + 2)
                t i 0,
            get_or-drop (at + 2) s i 0,
          )
          (same.same_bytes (at + 2 + i) (λ d. c (omega arith)))
      go false l =
          let past : record_size ≤ i = ltb-false i record_size l in
          rw size (get_or-eq_default (take record_size (drop (at + 2) t)) 0 (omega (arith, length-take record_size (drop (at + 2) t)))
          ∙ sym (get_or-eq_default (take record_size (drop (at + 2) s)) 0 (omega (arith, length-take record_size (drop (at + 2) s)))))

  entries_from_lem : (k at : ℕ) (es : List Entry) → at ≡ record_at k → Framed at s → Framed at t → entries_from s at ≡ es → entries_from t at ≡ es
  entries_from_lem k at [] e f g q = entries_past t at (omega (arith, same.same_length, past_of_nil s at f q))
  entries_from_lem k at (x ∷ es) e f g q =
      let r = first_at s at x es f q in
      let h = framed_at t at g.sized (omega (arith, same.same_length, r.here.fits)) in
      let rest = entries_from_lem (suc k) (at + stride) es (omega arith) r.rest (record { inside = h.fits; sized = h.rest }) r.tail in
      entries_on t at h ∙ ap₂ ◌∷◌ (entry_same (part_from t at) (part_from s at) (part_same k at e) ∙ r.head) rest

  -- ## The sheet

  framed_same : 1 ≤ length s → is_framed (drop 1 t) ≡ is_framed (drop 1 s)
  framed_same h = framed_from (length s) 0 1 (omega arith) (omega arith) h

  framed_keeps : Framed 1 s → Framed 1 t
  framed_keeps f = record { inside = omega (arith, same.same_length, f.inside); sized = framed_same f.inside ∙ f.sized }

  entries_same : Framed 1 s → entries_of t ≡ entries_of s
  entries_same f = entries_from_lem 0 1 (entries_of s) (omega arith) f (framed_keeps f) refl

  pub registers_same : Framed 1 s → (space : Space) → registers_of space t ≡ registers_of space s
  registers_same f space = ap (functions_from space 1) (entries_same f)

  pub nodes_same : Framed 1 s → nodes_of t ≡ nodes_of s
  nodes_same f = ap (nodes_from 1) (entries_same f)

  pub number_same : sheet_number t ≡ sheet_number s
  unfolding sheet_number from21 from20
  number_same = go (eqb (length s) 0) refl
    where
      version : get_or t 0 0 ≡ get_or s 0 0
      version = same.same_bytes 0 (λ e. omega arith)

      records : (b : Bool) → is_framed (drop 1 s) ≡ b → 1 ≤ length s
          → cond (is_framed (drop 1 t)) (from22 (entries_of t)) 20 ≡ cond (is_framed (drop 1 s)) (from22 (entries_of s)) 20
      records true f h = rw (framed_same h, f) (ap from22 (entries_same (record { inside = h; sized = f })))
      records false f h = rw (framed_same h, f)

      go : (b : Bool) → eqb (length s) 0 ≡ b → cond (eqb (length t) 0) 20 (from21 t) ≡ cond (eqb (length s) 0) 20 (from21 s)
      go true z = rw (same.same_length, z)
      go false z =
          rw (same.same_length, z, version)
          (ap (λ (n : ℕ). cond (eqb (get_or s 0 0) 1) n 21) (records (is_framed (drop 1 s)) refl (omega (arith, eqb-false (length s) 0 z))))

-- ## One word rewritten

same_of_command : (s : List ℕ) (id command : ℕ) → SameButCommands s (with_command (lookup_of s id) s command)
same_of_command s id command = go (lookup_of s id) refl
  where
    stored : (a : ℕ) → LookedUp s id a → (i : ℕ) → (InCommand i → ⊥) → get_or (sets s (command_from a) (le_bytes 2 command)) i 0 ≡ get_or s i 0
    stored a l i c = by (ltb i (command_from a)) refl (ltb i (command_from a + 2)) refl
      where
        by : (b : Bool) → ltb i (command_from a) ≡ b → (d : Bool) → ltb i (command_from a + 2) ≡ d
            → get_or (sets s (command_from a) (le_bytes 2 command)) i 0 ≡ get_or s i 0
        by true q d r = get_d_sets_before s (command_from a) (le_bytes 2 command) i 0 (ltb-true i (command_from a) q)
        by false q true r =
            absurd (c (omega (arith, ltb-false i (command_from a) q, ltb-true i (command_from a + 2) r, l.place, l.found.place)))
        by false q false r =
            get_d_sets_after s (command_from a) (le_bytes 2 command) i 0
            (omega (arith, length_le_bytes 2 command, ltb-false i (command_from a + 2) r))

    go : (l : Lookup) → lookup_of s id ≡ l → SameButCommands s (with_command l s command)
    go (Refused n) e = record { same_length = refl; same_bytes = λ i c. refl }
    go (Registers a) e =
        record { same_length = length-sets s (command_from a) (le_bytes 2 command); same_bytes = stored a (looked_up s id a e) }

-- ## The command words themselves

-- rewriting one word sets it and leaves the others
pub commands_rewritten : (s : List ℕ) (id command a : ℕ) → command < 65536 → (l : lookup_of s id ≡ Registers a)
    → commands_of (with_command (lookup_of s id) s command) ≡ set (commands_of s) (looked_up s id a l).found.index command
commands_rewritten s id command a small l =
    ext_get_or 0 (commands_of t) (set (commands_of s) k command) same_count (λ j h. by j h (eqb j k) refl)
  where
    k : ℕ
    k = (looked_up s id a l).found.index

    t : List ℕ
    t = with_command (lookup_of s id) s command

    framed : Framed 1 s
    framed = (looked_up s id a l).checked.framed

    framed' : Framed 1 t
    framed' = framed_keeps (same_of_command s id command) framed

    place : a ≡ record_at k + (2 + registers_at)
    place = omega (arith, (looked_up s id a l).place, (looked_up s id a l).found.place)

    t_is : t ≡ sets s (command_place k) (le_bytes 2 command)
    t_is =
        let e : command_from a ≡ command_place k = omega (arith, place) in
        ap (λ (x : Lookup). with_command x s command) l ∙ ap (λ (i : ℕ). sets s i (le_bytes 2 command)) e

    count : length (commands_of t) ≡ length (commands_of s)
    count =
        omega (
          arith,
          length_commands t,
          length_commands s,
          length_framed t framed',
          length_framed s framed,
          (same_of_command s id command).same_length,
        )

    same_count : length (commands_of t) ≡ length (set (commands_of s) k command)
    same_count = count ∙ sym (length-set (commands_of s) k command)

    word : (j : ℕ) → j < length (commands_of t) → get_or (commands_of t) j 0
        ≡ le 2 (sets s (command_place k) (le_bytes 2 command)) (command_place j)
    word j h = command_index t j framed' h ∙ ap (λ (x : List ℕ). le 2 x (command_place j)) t_is

    by : (j : ℕ) → j < length (commands_of t) → (b : Bool) → eqb j k ≡ b → get_or (commands_of t) j 0 ≡ get_or (set (commands_of s) k command) j 0
    by j h true q =
        let e : j ≡ k = eqb-true j k q in
        let fits : command_place k + 2 ≤ length s = omega (arith, (looked_up s id a l).found.fits, (looked_up s id a l).found.place) in
        word j h
        ∙ ap (λ (i : ℕ). le 2 (sets s (command_place k) (le_bytes 2 command)) (command_place i)) e
        ∙ le_sets 2 s (command_place k) command fits small
        ∙ sym (get_or-set_same (commands_of s) k command 0 (omega (arith, count)))
        ∙ ap (λ (i : ℕ). get_or (set (commands_of s) k command) i 0) (sym e)
    by j h false q =
        let other : j ≡ k → ⊥ = eqb-false j k q in
        word j h ∙ kept (ltb j k) refl ∙ sym (command_index s j framed (omega (arith, count)))
        ∙ sym (get_or-set_other (commands_of s) k j command 0 other)
      where
        kept : (c : Bool) → ltb j k ≡ c → le 2 (sets s (command_place k) (le_bytes 2 command)) (command_place j) ≡ le 2 s (command_place j)
        kept true c = le_sets_before 2 s (command_place k) (le_bytes 2 command) (command_place j) (omega (arith, ltb-true j k c))
        kept false c =
            le_sets_after 2 s (command_place k) (le_bytes 2 command) (command_place j)
            (omega (arith, length_le_bytes 2 command, ltb-false j k c, eqb-false j k q))
