-- After any of a script's writes each address has its final owner or none: until the first command word nothing is enabled, and from then
-- on the registers are the sheet's but for command words, of which some are still 0. Assumes nothing.
use Rattle.std.specs.Prelude.{◌≡◌, refl, ◌⊎◌, Bool, false, cond, ltb, length}
use Rattle.std.proofs.Common.{sym, ap₂, ◌∙◌, inl, inr, true≢false, ltb-true, ltb-false}
use Rattle.std.proofs.Math.Path.{ap, subst}
use Rattle.std.proofs.Math.Bool.{true}
use mathlib.Core.List.Memᴰ
use mathlib.Core.List.{List, [], ◌∷◌, ◌++◌}
use Prim.Native.Nat.{ℕ, zero, suc, pred, ◌+◌, ◌-◌, ◌*◌, ◌≤◌, ◌<◌}
use native.Mathlib.Omega.{arith}
use Rattle.std.proofs.Math.ListN.{get_or, get_or-eq_default}
use Rattle.endian.specs.Endian.{le}
use Rattle.endian.specs.EndianLaws.{le_agree}
use Rattle.lists.specs.Lists.{◌∈◌, All}
use Rattle.lists.specs.ListLaws.{all_elim, all_append, all_left}
use Rattle.pools.specs.declared.Space.{Space}
use Rattle.walk.specs.Registers.{Registers, Node, root_of}
use Rattle.walk.specs.Tally.{tally_on}
use Rattle.walk.specs.Walk.{refused, no_owner, walk_from}
use Rattle.walk.specs.Good.{Host, Good}
use Rattle.walk.proofs.Good.{sound_of_good}
use Rattle.walk.proofs.Delivery.{outcome_of, outcome_from_first}
use Rattle.sheet_record.specs.Spaces.{space_bit, enables}
use Rattle.sheet_record.specs.SpacesLaws.{no_bit_of_zero}
use Rattle.sheet.specs.Sheet.{Framed, entries_of, commands_of, parts_in, command_place}
use Rattle.sheet.proofs.SheetLaws.{nodes_functions}
use Rattle.sheet.specs.Spaces.{registers_of, nodes_of, enabled_of}
use Rattle.sheet.specs.Commands.{place_in, InCommand, SameButCommands}
use Rattle.sheet.proofs.CommandsLaws.{registers_same, nodes_same}
use Rattle.sheet.proofs.IndexLaws.{length_entries, length_commands, command_index, bit_of_command}
use Rattle.plan_sheet.specs.Delivery.{sheet_outcome}
use Rattle.walk_written.specs.Partly.{final_owner_or_none, nothing_enabled}
use Rattle.script_writes.specs.declared.Pass.TheVariants.{Buses, Registers as Rest, Commands}
use Rattle.script_writes.specs.Writes.{Write, write_of, named, three_bytes, two_bytes, four_bytes, is_used, slot_writes, bar_writes, window_writes}
use Rattle.script_writes.specs.Writes.{writes_in, pass_writes, writes_of}
use Rattle.script_writes.specs.ScriptLaws.{IsRegister}
use Rattle.sheet_record.specs.Entry.{header_of, is_bridge, slot_count}
use Rattle.script_run.specs.Model.{is_kept, model_of, register_place}
use Rattle.script_run.proofs.Copying.{NamedAt, all_places, all_places_elim, all_places_intro}
use Rattle.script_run.proofs.Written.{enables_for, bridge_at, WriteIn, writes_in_lem}
use Rattle.script_run.proofs.StateLaws.{state_of, hit, hit_elim, length_state, state_named, state_blank, state_hit, state_final}
use Rattle.script_run.proofs.Nodes.{state_framed, same_count}
use Rattle.script_run.proofs.Ends.{Endable, every_byte}

-- ## A list cut in two

prefix : {A : Type 0} (xs ys done rest : List A) → xs ++ ys ≡ done ++ rest
    → ((tail : List A) × (xs ≡ done ++ tail)) ⊎ ((more : List A) × (done ≡ xs ++ more))
prefix [] ys done rest e = inr (done, refl)
prefix (x ∷ xs) ys [] rest e = inl (x ∷ xs, refl)
prefix {A} (x ∷ xs) ys (d ∷ done) rest e = go (prefix xs ys done rest (let later : xs ++ ys ≡ done ++ rest = cc in later))
  where
    head : x ≡ d
    head = cc

    go : ((tail : List A) × (xs ≡ done ++ tail)) ⊎ ((more : List A) × (done ≡ xs ++ more))
        → ((tail : List A) × (x ∷ xs ≡ d ∷ done ++ tail)) ⊎ ((more : List A) × (d ∷ done ≡ x ∷ xs ++ more))
    go (inl (tail, q)) = inl (tail, ap₂ ◌∷◌ head q)
    go (inr (more, q)) = inr (more, ap₂ ◌∷◌ (sym head) q)

-- ## Which writes are of command words

bars_other : (k : ℕ) (p : List ℕ) (n j : ℕ) → All (λ w. 5 ≤ w.offset) (bar_writes k p n j)
unfolding bar_writes
bars_other k p zero j = tt
bars_other k p (suc n) j = all_append _ (slot_writes k p j) (bar_writes k p n (j + 1)) (go (is_used p j)) (bars_other k p n (j + 1))
  where
    go : (t : Bool) → All (λ w. 5 ≤ w.offset) (cond t (write_of k p (0x10 + 4 * j) four_bytes ∷ []) [])
    go true = (omega arith, tt)
    go false = tt

buses_other : (k : ℕ) (ps : List (List ℕ)) → All (λ w. 5 ≤ w.offset) (pass_writes Buses k ps)
unfolding pass_writes
buses_other k [] = tt
buses_other k (p ∷ ps) = all_append _ (writes_in Buses k p) (pass_writes Buses (suc k) ps) (go (is_bridge (header_of p)))
    (buses_other (suc k) ps)
  where
    go : (t : Bool) → All (λ w. 5 ≤ w.offset) (cond t (write_of k p 0x18 three_bytes ∷ []) [])
    go true = (omega arith, tt)
    go false = tt

rest_other : (k : ℕ) (ps : List (List ℕ)) → All (λ w. 5 ≤ w.offset) (pass_writes Rest k ps)
unfolding pass_writes
rest_other k [] = tt
rest_other k (p ∷ ps) =
    all_append _ (writes_in Rest k p) (pass_writes Rest (suc k) ps)
    (all_append _ (bar_writes k p (slot_count (header_of p)) 0) _ (bars_other k p (slot_count (header_of p)) 0) (go (is_bridge (header_of p))))
    (rest_other (suc k) ps)
  where
    go : (t : Bool) → All (λ w. 5 ≤ w.offset) (cond t (window_writes k p) [])
    go true = (omega arith, (omega arith, (omega arith, (omega arith, (omega arith, tt)))))
    go false = tt

commands_own : (k : ℕ) (ps : List (List ℕ)) → All (λ w. (w.offset ≡ 0x04) × (w.enables ≡ two_bytes)) (pass_writes Commands k ps)
unfolding pass_writes
commands_own k [] = tt
commands_own k (p ∷ ps) = ((refl, refl), commands_own (suc k) ps)

-- ## Command words after some writes

module _ (final : List ℕ) (en : Endable final) (done : List Write) (rest : List Write) (at : writes_of (parts_in final) ≡ done ++ rest) where
  abbrev state : List ℕ
  state = state_of final done

  all_done : All (WriteIn final) done
  all_done = all_left _ done rest (subst (All (WriteIn final)) at (writes_in_lem final en.framed))

  framed : Framed 1 state
  framed = state_framed final en.framed done all_done

  command_register : IsRegister 0x04
  command_register = record { inside = omega arith; aligned = refl }

  -- written, it is the sheet's
  command_hit : (i : ℕ) → hit (i + 1) 0x04 done ≡ true → le 2 state (command_place i) ≡ le 2 final (command_place i)
  command_hit i e = le_agree 2 state final (command_place i) (command_place i) (λ j l. byte j l)
    where
      at_place : (j : ℕ) → register_place (i + 1) 0x04 + j ≡ command_place i + j
      at_place j = omega arith

      one : (j : ℕ) → j < 2 → named (enables_for (bridge_at final (i + 1 - 1)) 0x04) j ≡ true
          → get_or state (command_place i + j) 0 ≡ get_or final (command_place i + j) 0
      one j l n =
          subst (λ (x : ℕ). get_or state x 0 ≡ get_or final x 0) (at_place j)
          (state_hit final done all_done (i + 1) 0x04 (omega arith) command_register e j (omega arith) n)

      byte : (j : ℕ) → j < 2 → get_or state (command_place i + j) 0 ≡ get_or final (command_place i + j) 0
      byte zero l = one 0 l refl
      byte (suc zero) l = one 1 l refl
      byte (suc (suc j)) l = absurd (omega arith)

  -- not written, it is 0
  command_blank : (i : ℕ) → hit (i + 1) 0x04 done ≡ false → le 2 state (command_place i) ≡ 0
  unfolding le
  command_blank i e =
      let z : command_place i ≡ register_place (i + 1) 0x04 + 0 = omega arith in
      let s : command_place i + 1 ≡ register_place (i + 1) 0x04 + 1 = omega arith in
      let p0 : place_in (register_place (i + 1) 0x04 + 0) ≡ 8 = omega arith in
      let p1 : place_in (register_place (i + 1) 0x04 + 1) ≡ 9 = omega arith in
      let b0 = state_blank final done all_done (i + 1) 0x04 (omega arith) command_register e 0 (omega arith) (ap is_kept p0) in
      let b1 = state_blank final done all_done (i + 1) 0x04 (omega arith) command_register e 1 (omega arith) (ap is_kept p1) in
      let c0 : get_or state (command_place i) 0 ≡ 0 = ap (λ (x : ℕ). get_or state x 0) z ∙ b0 in
      let c1 : get_or state (command_place i + 1) 0 ≡ 0 = ap (λ (x : ℕ). get_or state x 0) s ∙ b1 in
      omega (arith, c0, c1)

  same_words : length (commands_of state) ≡ length (commands_of final)
  same_words =
      omega (
        arith,
        length_commands state,
        length_commands final,
        length_entries state,
        length_entries final,
        same_count final en.framed done all_done,
      )

  -- the sheet's, or 0
  word : (i : ℕ) → (get_or (commands_of state) i 0 ≡ get_or (commands_of final) i 0) ⊎ (get_or (commands_of state) i 0 ≡ 0)
  word i = go (ltb i (length (commands_of state))) refl (hit (i + 1) 0x04 done) refl
    where
      go : (t : Bool) → ltb i (length (commands_of state)) ≡ t → (w : Bool) → hit (i + 1) 0x04 done ≡ w
          → (get_or (commands_of state) i 0 ≡ get_or (commands_of final) i 0) ⊎ (get_or (commands_of state) i 0 ≡ 0)
      go true e true q =
          let l = ltb-true i (length (commands_of state)) e in
          let l' : i < length (commands_of final) = omega (arith, l, same_words) in
          inl (command_index state i framed l ∙ command_hit i q ∙ sym (command_index final i en.framed l'))
      go true e false q =
          let l = ltb-true i (length (commands_of state)) e in
          inr (command_index state i framed l ∙ command_blank i q)
      go false e w q =
          let l : length (commands_of state) ≤ i = ltb-false i (length (commands_of state)) e in
          let l' : length (commands_of final) ≤ i = omega (arith, l, same_words) in
          inl (get_or-eq_default (commands_of state) 0 l ∙ sym (get_or-eq_default (commands_of final) 0 l'))

  enabled_is : (s : List ℕ) (sp : Space) (n : ℕ) → enabled_of sp s n ≡ enables sp (get_or (commands_of s) (pred n) 0)
  enabled_is s sp n = bit_of_command (space_bit sp) s n

  enables_zero : (sp : Space) → enables sp 0 ≡ false
  enables_zero sp = no_bit_of_zero (space_bit sp)

  -- no more is enabled than on the sheet
  fewer : (sp : Space) (n : ℕ) → enabled_of sp state n ≡ true → enabled_of sp final n ≡ true
  fewer sp n e = go (word (pred n))
    where
      go : (get_or (commands_of state) (pred n) 0 ≡ get_or (commands_of final) (pred n) 0)
          ⊎ (get_or (commands_of state) (pred n) 0 ≡ 0)
          → enabled_of sp final n ≡ true
      go (inl same) = enabled_is final sp n ∙ ap (enables sp) (sym same) ∙ sym (enabled_is state sp n) ∙ e
      go (inr z) =
          absurd (true≢false (sym e ∙ enabled_is state sp n ∙ ap (enables sp) z ∙ enables_zero sp))

  -- ## Before the first command word

  -- nothing is enabled, and nobody has any address
  before : All (λ w. 5 ≤ w.offset) done → (sp : Space) (address : ℕ) → sheet_outcome sp state address ≡ refused no_owner
  before other sp address =
      ap (λ (enabled : ℕ → Bool). walk_from (tally_on enabled (registers_of sp state) address) (root_of (nodes_of state)) 0) (λ i n. off n i)
      ∙ nothing_enabled (registers_of sp state) address (root_of (nodes_of state))
    where
      quiet : (i : ℕ) → hit (i + 1) 0x04 done ≡ false
      quiet i = go (hit (i + 1) 0x04 done) refl
        where
          go : (t : Bool) → hit (i + 1) 0x04 done ≡ t → t ≡ false
          go true e =
              let (w, there, number_is, offset_is) = hit_elim (i + 1) 0x04 done e in
              absurd (omega (arith, all_elim _ done other there, offset_is))
          go false e = refl

      blank_word : (i : ℕ) → get_or (commands_of state) i 0 ≡ 0
      blank_word i = by (ltb i (length (commands_of state))) refl
        where
          by : (t : Bool) → ltb i (length (commands_of state)) ≡ t → get_or (commands_of state) i 0 ≡ 0
          by true e = command_index state i framed (ltb-true i (length (commands_of state)) e) ∙ command_blank i (quiet i)
          by false e =
              let l : length (commands_of state) ≤ i = ltb-false i (length (commands_of state)) e in
              get_or-eq_default (commands_of state) 0 l

      off : (n : ℕ) → enabled_of sp state n ≡ false
      off n = enabled_is state sp n ∙ ap (enables sp) (blank_word (pred n)) ∙ enables_zero sp

  -- ## From the first command word on

  module _ (more : List Write)
      (done_is : done ≡ (pass_writes Buses 1 (parts_in final) ++ pass_writes Rest 1 (parts_in final)) ++ more) where
    -- whatever is named outside command words is written
    early : (x : ℕ) → ¬ InCommand x → x ∈ all_places (writes_of (parts_in final)) → x ∈ all_places done
    unfolding writes_of
    early x out m =
        let ps = parts_in final in
        let front = pass_writes Buses 1 ps ++ pass_writes Rest 1 ps in
        let (w, there, n) = all_places_elim (writes_of ps) x m in
        go w n (Memᴰ.append_cases (pass_writes Buses 1 ps ++ pass_writes Rest 1 ps) there)
      where
        go : (w : Write) → NamedAt (register_place w.number w.offset) w.enables x
            → (w ∈ pass_writes Buses 1 (parts_in final) ++ pass_writes Rest 1 (parts_in final)) ⊎ (w ∈ pass_writes Commands 1 (parts_in final))
            → x ∈ all_places done
        go w n (inl front) =
            let there : w ∈ done = subst (λ (ws : List Write). w ∈ ws) (sym done_is) (Memᴰ.append_left more front) in
            subst (λ (y : ℕ). y ∈ all_places done) (sym n.place_is) (all_places_intro done w there n.byte n.in_dword n.is_named)
        go w n (inr command) =
            let own = all_elim _ (pass_writes Commands 1 (parts_in final)) (commands_own 1 (parts_in final)) command in
            let low : n.byte < 2 = two n.byte n.in_dword (ap (λ (e : ℕ). named e n.byte) (sym own.1) ∙ n.is_named) in
            absurd (out (omega (arith, n.place_is, own.0, low)))
          where
            two : (i : ℕ) → i < 4 → named two_bytes i ≡ true → i < 2
            two zero l e = omega arith
            two (suc zero) l e = omega arith
            two (suc (suc zero)) l e = absurd (true≢false (sym e))
            two (suc (suc (suc zero))) l e = absurd (true≢false (sym e))
            two (suc (suc (suc (suc i)))) l e = absurd (omega arith)

    same : SameButCommands final state
    same = record { same_length = length_state final done all_done; same_bytes = byte }
      where
        byte : (x : ℕ) → ¬ InCommand x → get_or state x 0 ≡ get_or final x 0
        byte x out = by (ltb x (length final)) refl
          where
            go : (x ∈ all_places (writes_of (parts_in final))) ⊎ (get_or (model_of final) x 0 ≡ get_or final x 0) → get_or state x 0 ≡ get_or final x 0
            go (inl m) = state_named final done all_done x (early x out m)
            go (inr e) = state_final final done all_done x e

            by : (t : Bool) → ltb x (length final) ≡ t → get_or state x 0 ≡ get_or final x 0
            by true e = go (every_byte final en x (ltb-true x (length final) e))
            by false e =
                let l : length final ≤ x = ltb-false x (length final) e in
                let l' : length state ≤ x = omega (arith, l, length_state final done all_done) in
                get_or-eq_default state 0 l' ∙ sym (get_or-eq_default final 0 l)

    after : {host : Host} (sp : Space) → Good host (registers_of sp final) → (address : ℕ)
        → (sheet_outcome sp state address ≡ sheet_outcome sp final address) ⊎ (sheet_outcome sp state address ≡ refused no_owner)
    after {host} sp good address =
        go (final_owner_or_none (sound_of_good good) (enabled_of sp state) (enabled_of sp final) (fewer sp) address)
      where
        outcome_final : (enabled : ℕ → Bool)
            → walk_from (tally_on enabled (registers_of sp final) address) (root_of (nodes_of final)) 0
            ≡ outcome_of host enabled (registers_of sp final) address
        outcome_final enabled =
            ap (λ (ms : List Node). walk_from (tally_on enabled (registers_of sp final) address) (root_of ms) 0)
            (sym (nodes_functions sp 1 (entries_of final)))
            ∙ outcome_from_first (registers_of sp final) good.tree enabled address

        outcome_state : sheet_outcome sp state address ≡ outcome_of host (enabled_of sp state) (registers_of sp final) address
        outcome_state =
            ap₂ (λ (fs : List Registers) (ms : List Node). walk_from (tally_on (enabled_of sp state) fs address) (root_of ms) 0)
            (registers_same same en.framed sp) (nodes_same same en.framed)
            ∙ outcome_final (enabled_of sp state)

        go : (outcome_of host (enabled_of sp state) (registers_of sp final) address
            ≡ outcome_of host (enabled_of sp final) (registers_of sp final) address)
            ⊎ (outcome_of host (enabled_of sp state) (registers_of sp final) address ≡ refused no_owner)
            → (sheet_outcome sp state address ≡ sheet_outcome sp final address) ⊎ (sheet_outcome sp state address ≡ refused no_owner)
        go (inl e) = inl (outcome_state ∙ e ∙ sym (outcome_final (enabled_of sp final)))
        go (inr e) = inr (outcome_state ∙ e)

  -- ## Either way

  pub owner_or_none : {host : Host} (sp : Space) → Good host (registers_of sp final) → (address : ℕ)
      → (sheet_outcome sp state address ≡ sheet_outcome sp final address) ⊎ (sheet_outcome sp state address ≡ refused no_owner)
  unfolding writes_of
  owner_or_none sp good address =
      go (prefix (pass_writes Buses 1 (parts_in final) ++ pass_writes Rest 1 (parts_in final))
      (pass_writes Commands 1 (parts_in final)) done rest at)
    where
      front : All (λ w. 5 ≤ w.offset) (pass_writes Buses 1 (parts_in final) ++ pass_writes Rest 1 (parts_in final))
      front =
          all_append _ (pass_writes Buses 1 (parts_in final)) (pass_writes Rest 1 (parts_in final)) (buses_other 1 (parts_in final))
          (rest_other 1 (parts_in final))

      go : ((tail : List Write) × (pass_writes Buses 1 (parts_in final) ++ pass_writes Rest 1 (parts_in final) ≡ done ++ tail))
          ⊎ ((more : List Write) × (done ≡ (pass_writes Buses 1 (parts_in final) ++ pass_writes Rest 1 (parts_in final)) ++ more))
          → (sheet_outcome sp state address ≡ sheet_outcome sp final address) ⊎ (sheet_outcome sp state address ≡ refused no_owner)
      go (inl (tail, e)) = inr (before (all_left _ done tail (subst (All (λ w. 5 ≤ w.offset)) e front)) sp address)
      go (inr (more, e)) = after more e sp good address
