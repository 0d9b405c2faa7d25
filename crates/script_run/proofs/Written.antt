-- Every write of a framed sheet's script is one of a register of one of its records, with the enables that its offset has, and carries the
-- bytes that stand there. Assumes nothing.
use Rattle.std.specs.Prelude.{◌≡◌, refl, Bool, true, false, cond, ◌&&◌, List, [], ◌∷◌, ◌++◌, eqb, length, get_or}
use Rattle.std.proofs.Common.{sym, ap, subst, ◌∙◌, add-zero, ne_eqb}
use mathlib.Core.List.Memᴰ
use Prim.Native.Nat.{ℕ, zero, suc, ◌+◌, ◌-◌, ◌*◌, ◌≤◌, ◌<◌}
use native.Mathlib.Omega.{arith}
use Rattle.lists.specs.Lists.{◌∈◌, All}
use Rattle.lists.specs.ListLaws.{all_append}
use Rattle.sheet_record.specs.Entry.{header_of, is_bridge, slot_count}
use Rattle.sheet.specs.Sheet.{Framed, parts_in, part_at, sheet_length}
use Rattle.sheet.proofs.FrameLaws.{length_framed, part_index}
use Rattle.script_writes.specs.declared.Pass.{Pass}
use Rattle.script_writes.specs.declared.Pass.TheVariants.{Buses, Registers, Commands}
use Rattle.script_writes.specs.Writes.{Write, write_of, three_bytes, two_bytes, four_bytes, is_used, slot_writes, bar_writes, window_writes}
use Rattle.script_writes.specs.Writes.{writes_in, pass_writes, writes_of}
use Rattle.script_writes.specs.ScriptLaws.{IsRegister}

-- which bytes of the register at an offset are named, of a bridge or not
abbrev pub enables_for : Bool → ℕ → ℕ
enables_for bridge offset =
    cond (eqb offset 0x04) two_bytes (cond (bridge && eqb offset 0x18) three_bytes (cond (bridge && eqb offset 0x1c) two_bytes four_bytes))

abbrev pub bridge_at : List ℕ → ℕ → Bool
bridge_at s k = is_bridge (header_of (part_at s k))

pub record WriteIn (final : List ℕ) (w : Write) : Type 0 where
  pub from_1 : 1 ≤ w.number
  pub in_sheet : sheet_length w.number ≤ length final
  pub register : IsRegister w.offset
  pub enables_are : w.enables ≡ enables_for (bridge_at final (w.number - 1)) w.offset
  pub write_is : w ≡ write_of w.number (part_at final (w.number - 1)) w.offset w.enables

module _ (final : List ℕ) (k : ℕ) (p : List ℕ) (part_is : p ≡ part_at final k) (inside : sheet_length (suc k) ≤ length final) where
  one_write : (offset enables : ℕ) → IsRegister offset → enables ≡ enables_for (is_bridge (header_of p)) offset
      → WriteIn final (write_of (suc k) p offset enables)
  one_write offset enables r e =
      let n : suc k - 1 ≡ k = omega arith in
      record {
        from_1 = omega arith;
        in_sheet = inside;
        register = r;
        enables_are = e ∙ ap (λ (x : List ℕ). enables_for (is_bridge (header_of x)) offset) (part_is ∙ ap (part_at final) (sym n));
        write_is = ap (λ (x : List ℕ). write_of (suc k) x offset enables) (part_is ∙ ap (part_at final) (sym n));
      }

  bar_enables : (b : Bool) (j : ℕ) → j < cond b 2 6 → four_bytes ≡ enables_for b (0x10 + 4 * j)
  bar_enables true j h =
      rw (
        ne_eqb (0x10 + 4 * j) 0x04 (λ e. omega arith),
        ne_eqb (0x10 + 4 * j) 0x18 (λ e. omega arith),
        ne_eqb (0x10 + 4 * j) 0x1c (λ e. omega arith),
      )
  bar_enables false j h = rw (ne_eqb (0x10 + 4 * j) 0x04 (λ e. omega arith))

  slot_below : (b : Bool) (j : ℕ) → j < cond b 2 6 → j < 6
  slot_below true j h = omega arith
  slot_below false j h = omega arith

  bars_in_lem : (n j : ℕ) → j + n ≤ slot_count (header_of p) → All (WriteIn final) (bar_writes (suc k) p n j)
  unfolding bar_writes
  bars_in_lem zero j h = tt
  bars_in_lem (suc n) j h =
      all_append _ (slot_writes (suc k) p j) (bar_writes (suc k) p n (j + 1)) (go (is_used p j)) (bars_in_lem n (j + 1) (omega arith))
    where
      below : j < slot_count (header_of p)
      below = omega arith

      register : IsRegister (0x10 + 4 * j)
      register = let six = slot_below (is_bridge (header_of p)) j below in record { inside = omega arith; aligned = omega arith }

      go : (t : Bool) → All (WriteIn final) (cond t (write_of (suc k) p (0x10 + 4 * j) four_bytes ∷ []) [])
      go true = (one_write (0x10 + 4 * j) four_bytes register (bar_enables (is_bridge (header_of p)) j below), tt)
      go false = tt

  record_in_lem : (pass : Pass) → All (WriteIn final) (writes_in pass (suc k) p)
  record_in_lem Buses = go (is_bridge (header_of p)) refl
    where
      go : (b : Bool) → is_bridge (header_of p) ≡ b → All (WriteIn final) (cond b (write_of (suc k) p 0x18 three_bytes ∷ []) [])
      go true e = (one_write 0x18 three_bytes (record { inside = omega arith; aligned = refl }) (rw e), tt)
      go false e = tt
  record_in_lem Registers =
      all_append _ (bar_writes (suc k) p (slot_count (header_of p)) 0) _ (bars_in_lem (slot_count (header_of p)) 0 (omega arith))
      (go (is_bridge (header_of p)) refl)
    where
      go : (b : Bool) → is_bridge (header_of p) ≡ b → All (WriteIn final) (cond b (window_writes (suc k) p) [])
      go true e =
          let io = one_write 0x1c two_bytes (record { inside = omega arith; aligned = refl }) (rw e) in
          let low = one_write 0x20 four_bytes (record { inside = omega arith; aligned = refl }) (rw e) in
          let high = one_write 0x24 four_bytes (record { inside = omega arith; aligned = refl }) (rw e) in
          let base = one_write 0x28 four_bytes (record { inside = omega arith; aligned = refl }) (rw e) in
          let limit = one_write 0x2c four_bytes (record { inside = omega arith; aligned = refl }) (rw e) in
          (io, (low, (high, (base, (limit, tt)))))
      go false e = tt
  record_in_lem Commands = (one_write 0x04 two_bytes (record { inside = omega arith; aligned = refl }) refl, tt)

-- ## All records

-- the parts from index k on
pub record PartsFrom (final : List ℕ) (k : ℕ) (ps : List (List ℕ)) : Type 0 where
  pub part_is : (j : ℕ) → j < length ps → get_or ps j [] ≡ part_at final (k + j)
  pub inside : sheet_length (k + length ps) ≤ length final

rest_from : {final : List ℕ} {k : ℕ} {p : List ℕ} {ps : List (List ℕ)} → PartsFrom final k (p ∷ ps) → PartsFrom final (suc k) ps
rest_from {final} {k} f =
    record {
      part_is = λ j h. let n : k + suc j ≡ suc k + j = omega arith in f.part_is (suc j) (omega arith) ∙ ap (part_at final) n;
      inside = omega (arith, f.inside);
    }

pass_in : (final : List ℕ) (pass : Pass) (k : ℕ) (ps : List (List ℕ)) → PartsFrom final k ps
    → All (WriteIn final) (pass_writes pass (suc k) ps)
unfolding pass_writes
pass_in final pass k [] f = tt
pass_in final pass k (p ∷ ps) f =
    all_append _ (writes_in pass (suc k) p) (pass_writes pass (suc (suc k)) ps)
    (record_in_lem final k p (f.part_is 0 (omega arith) ∙ ap (part_at final) (add-zero k)) (omega (arith, f.inside)) pass)
    (pass_in final pass (suc k) ps (rest_from f))

parts_from : (final : List ℕ) → Framed 1 final → PartsFrom final 0 (parts_in final)
parts_from final f =
    record {
      part_is = λ j h. let n : 0 + j ≡ j = omega arith in part_index final j f h ∙ ap (part_at final) (sym n);
      inside = omega (arith, length_framed final f);
    }

pub writes_in_lem : (final : List ℕ) → Framed 1 final → All (WriteIn final) (writes_of (parts_in final))
unfolding writes_of
writes_in_lem final f =
    let ps = parts_in final in
    let from = parts_from final f in
    all_append _ (pass_writes Buses 1 ps ++ pass_writes Registers 1 ps) (pass_writes Commands 1 ps)
    (all_append _ (pass_writes Buses 1 ps) (pass_writes Registers 1 ps) (pass_in final Buses 0 ps from) (pass_in final Registers 0 ps from))
    (pass_in final Commands 0 ps from)

-- a record's own are among them
pub pass_member : (pass : Pass) (k : ℕ) (ps : List (List ℕ)) (j : ℕ) (w : Write) → j < length ps → w ∈ writes_in pass (k + j) (get_or ps j [])
    → w ∈ pass_writes pass k ps
unfolding pass_writes
pass_member pass k [] j w h m = absurd (omega arith)
pass_member pass k (p ∷ ps) zero w h m =
    Memᴰ.append_left (pass_writes pass (suc k) ps) (subst (λ (n : ℕ). w ∈ writes_in pass n p) (add-zero k) m)
pass_member pass k (p ∷ ps) (suc j) w h m =
    let n : k + suc j ≡ suc k + j = omega arith in
    Memᴰ.append_right (writes_in pass k p)
    (pass_member pass (suc k) ps j w (omega arith) (subst (λ (x : ℕ). w ∈ writes_in pass x (get_or ps j [])) n m))
