-- The registers after some of a script's writes: what is named is as on the sheet, what is not is as in the model. Assumes nothing.
use Rattle.std.specs.Prelude.{◌≡◌, refl, Bool, true, false, cond, ◌&&◌, List, [], ◌∷◌, ◌++◌, ℕ, zero, suc, ◌+◌, ◌-◌, ◌≤◌, ◌<◌, eqb, length, get_or}
use Rattle.std.proofs.Common.{sym, ap, subst, ◌∙◌, inl, inr, true≢false, add-zero, arith, eqb-true, eq-eqb}
use Rattle.std.proofs.Math.Bool.{and-eq-true_iff}
use Rattle.lists.specs.Lists.{◌∈◌, All, any}
use Rattle.lists.specs.ListLaws.{all_elim, all_intro, member_of_some, some_of_member}
use Rattle.lists.specs.KeepLaws.{any_of_some, some_of_any}
use Rattle.sheet.specs.Commands.{place_in}
use Rattle.walk_written.specs.Copied.{copied, length_copied, copied_final, copied_other, copied_append}
use Rattle.script_writes.specs.Writes.{Write, named}
use Rattle.script_writes.specs.ScriptLaws.{IsRegister}
use Rattle.script_run.specs.Model.{is_kept, blank_from, model_of, register_place}
use Rattle.script_run.proofs.Copying.{all_places, all_places_elim, all_places_intro, all_places_append}
use Rattle.script_run.proofs.Written.{enables_for, bridge_at, WriteIn}

-- ## The model, byte by byte

pub length_blank : (i : ℕ) (s : List ℕ) → length (blank_from i s) ≡ length s
unfolding blank_from
length_blank i [] = refl
length_blank i (x ∷ s) = ap suc (length_blank (suc i) s)

blank_at : (i : ℕ) (s : List ℕ) (j : ℕ) → get_or (blank_from i s) j 0 ≡ cond (is_kept (place_in (i + j))) (get_or s j 0) 0
unfolding blank_from
blank_at i [] j = go (is_kept (place_in (i + j)))
  where
    go : (t : Bool) → ◌≡◌ {A = ℕ} 0 (cond t 0 0)
    go true = refl
    go false = refl
blank_at i (x ∷ s) zero = ap (λ (n : ℕ). cond (is_kept (place_in n)) x 0) (sym (add-zero i))
blank_at i (x ∷ s) (suc j) =
    let n : suc i + j ≡ i + suc j = omega arith in
    blank_at (suc i) s j ∙ ap (λ (n : ℕ). cond (is_kept (place_in n)) (get_or s j 0) 0) n

pub model_at : (s : List ℕ) (j : ℕ) → get_or (model_of s) j 0 ≡ cond (is_kept (place_in j)) (get_or s j 0) 0
model_at s j =
    let n : 0 + j ≡ j = omega arith in
    blank_at 0 s j ∙ ap (λ (n : ℕ). cond (is_kept (place_in n)) (get_or s j 0) 0) n

-- ## After some writes

unfoldable pub state_of : List ℕ → List Write → List ℕ
state_of final done = copied final (all_places done) (model_of final)

pub state_append : (final : List ℕ) (done more : List Write) → state_of final (done ++ more)
    ≡ copied final (all_places more) (state_of final done)
unfolding state_of
state_append final done more =
    ap (λ (is : List ℕ). copied final is (model_of final)) (all_places_append done more)
    ∙ copied_append final (all_places done) (all_places more) (model_of final)

-- a write of this register is among them
unfoldable pub hit : ℕ → ℕ → List Write → Bool
hit number offset ws = any (λ w. eqb w.number number && eqb w.offset offset) ws

pub hit_elim : (number offset : ℕ) (ws : List Write) → hit number offset ws ≡ true
    → (w : Write) × (w ∈ ws) × (w.number ≡ number) × (w.offset ≡ offset)
unfolding hit
hit_elim number offset ws e =
    let (w, m, t) = member_of_some _ ws (some_of_any (λ w. eqb w.number number && eqb w.offset offset) ws e) in
    let both = (and-eq-true_iff (eqb w.number number) (eqb w.offset offset)).0 t in
    (w, m, eqb-true w.number number both.0, eqb-true w.offset offset both.1)

pub hit_intro : (ws : List Write) (w : Write) → w ∈ ws → hit w.number w.offset ws ≡ true
unfolding hit
hit_intro ws w m =
    any_of_some (λ v. eqb v.number w.number && eqb v.offset w.offset) ws
    (some_of_member _ ws m
    ((and-eq-true_iff (eqb w.number w.number) (eqb w.offset w.offset)).1
    (eq-eqb w.number w.number refl, eq-eqb w.offset w.offset refl)))

module _ (final : List ℕ) (done : List Write) (all : All (WriteIn final) done) where
  pub length_state : length (state_of final done) ≡ length final
  unfolding state_of
  length_state = length_copied final (all_places done) (model_of final) ∙ length_blank 0 final

  places_inside : All (λ i. i < length (model_of final)) (all_places done)
  places_inside =
      all_intro _ (all_places done) (λ x m.
      let (w, there, n) = all_places_elim done x m in
      let i = all_elim _ done all there in
      omega (arith, n.place_is, n.in_dword, i.register.inside, i.in_sheet, i.from_1, length_blank 0 final))

  -- what was named is final, and so is what the model has of the sheet
  pub state_named : (x : ℕ) → x ∈ all_places done → get_or (state_of final done) x 0 ≡ get_or final x 0
  unfolding state_of
  state_named x m = copied_final final (all_places done) (model_of final) places_inside x (inl m)

  pub state_final : (x : ℕ) → get_or (model_of final) x 0 ≡ get_or final x 0 → get_or (state_of final done) x 0 ≡ get_or final x 0
  unfolding state_of
  state_final x e = copied_final final (all_places done) (model_of final) places_inside x (inr e)

  pub state_kept : (x : ℕ) → is_kept (place_in x) ≡ true → get_or (state_of final done) x 0 ≡ get_or final x 0
  unfolding state_of
  state_kept x e = copied_final final (all_places done) (model_of final) places_inside x (inr (model_at final x ∙ rw e))

  -- ## A register

  module _ (number offset : ℕ) (from_1 : 1 ≤ number) (r : IsRegister offset) where
    -- no other write reaches it
    not_named : hit number offset done ≡ false → (i : ℕ) → i < 4 → ¬ (register_place number offset + i ∈ all_places done)
    not_named e i h m =
        let (w, there, n) = all_places_elim done (register_place number offset + i) m in
        let a = all_elim _ done all there in
        let same_number : w.number ≡ number =
        omega (arith, n.place_is, n.in_dword, h, a.register.inside, r.inside, a.from_1, from_1) in
        let same_offset : w.offset ≡ offset =
        omega (arith, same_number, n.place_is, n.in_dword, h, a.register.aligned, r.aligned) in
        true≢false (sym (subst (λ (k : ℕ). hit k offset done ≡ true) same_number
        (subst (λ (o : ℕ). hit w.number o done ≡ true) same_offset (hit_intro done w there))) ∙ e)

    pub state_blank : hit number offset done ≡ false → (i : ℕ) → i < 4 → is_kept (place_in (register_place number offset + i)) ≡ false
        → get_or (state_of final done) (register_place number offset + i) 0 ≡ 0
    unfolding state_of
    state_blank e i h k =
        copied_other final (all_places done) (model_of final) (register_place number offset + i) (not_named e i h)
        ∙ model_at final (register_place number offset + i) ∙ rw k

    pub state_hit : hit number offset done ≡ true → (i : ℕ) → i < 4 → named (enables_for (bridge_at final (number - 1)) offset) i ≡ true
        → get_or (state_of final done) (register_place number offset + i) 0 ≡ get_or final (register_place number offset + i) 0
    state_hit e i h n =
        let (w, there, same_number, same_offset) = hit_elim number offset done e in
        let a = all_elim _ done all there in
        let enables : w.enables ≡ enables_for (bridge_at final (number - 1)) offset =
        a.enables_are ∙ ap (λ (k : ℕ). enables_for (bridge_at final (k - 1)) w.offset) same_number
        ∙ ap (enables_for (bridge_at final (number - 1))) same_offset in
        let m = all_places_intro done w there i h (ap (λ (x : ℕ). named x i) enables ∙ n) in
        let place : register_place w.number w.offset + i ≡ register_place number offset + i = omega (arith, same_number, same_offset) in
        state_named (register_place number offset + i) (subst (λ (x : ℕ). x ∈ all_places done) place m)
