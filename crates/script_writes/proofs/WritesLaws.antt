-- A record's writes, slot by slot; and that their number is the same whatever the record's number. Assumes nothing.
use Rattle.std.specs.Prelude.{◌≡◌, refl, Bool, true, false, cond, List, [], ◌∷◌, ◌++◌, length}
use Rattle.std.proofs.Math.Path.{sym, ap}
use Rattle.std.proofs.Common.{ap₂, ◌∙◌, append_assoc, append-nil, length-append}
use Prim.Native.Nat.{ℕ, zero, suc, ◌+◌, ◌-◌, ◌*◌, ◌≤◌}
use Rattle.std.proofs.Math.Nat.{add-zero}
use native.Mathlib.Omega.{arith}
use Rattle.sheet_record.specs.Entry.{header_of, is_bridge, slot_count}
use Rattle.script_writes.specs.declared.Pass.{Pass}
use Rattle.script_writes.specs.declared.Pass.TheVariants.{Buses, Registers, Commands}
use Rattle.script_writes.specs.Writes.{write_of, three_bytes, four_bytes, is_used, slot_writes, bar_writes, window_writes}
use Rattle.script_writes.specs.Writes.{writes_in, pass_writes}

module _ (k : ℕ) (p : List ℕ) where
  bars_split : (m n j : ℕ) → bar_writes k p (m + n) j ≡ bar_writes k p m j ++ bar_writes k p n (j + m)
  unfolding bar_writes
  bars_split zero n j =
      let z : 0 + n ≡ n = omega arith in
      rw (z, add-zero j)
  bars_split (suc m) n j =
      let s : suc m + n ≡ suc (m + n) = omega arith in
      let t : j + 1 + m ≡ j + suc m = omega arith in
      rw s (ap (slot_writes k p j ++◌) (bars_split m n (j + 1) ∙ ap (λ (i : ℕ). bar_writes k p m (j + 1) ++ bar_writes k p n i) t)
      ∙ sym (append_assoc (slot_writes k p j) (bar_writes k p m (j + 1)) (bar_writes k p n (j + suc m))))

  -- one slot more
  pub bars_snoc : (n : ℕ) → bar_writes k p (n + 1) 0 ≡ bar_writes k p n 0 ++ slot_writes k p n
  unfolding bar_writes
  bars_snoc n =
      let z : 0 + n ≡ n = omega arith in
      bars_split n 1 0 ∙ rw z (ap (bar_writes k p n 0 ++◌) (append-nil (slot_writes k p n)))

  -- the first slots have no more than all
  pub bars_le : (m n : ℕ) → m ≤ n → length (bar_writes k p m 0) ≤ length (bar_writes k p n 0)
  bars_le m n h =
      let s : n ≡ m + (n - m) = omega arith in
      let e = ap (λ (i : ℕ). length (bar_writes k p i 0)) s ∙ ap length (bars_split m (n - m) 0)
      ∙ length-append (bar_writes k p m 0) (bar_writes k p (n - m) (0 + m)) in
      omega (arith, e)

-- ## Their number

length_slot : (k i : ℕ) (p : List ℕ) (j : ℕ) → length (slot_writes k p j) ≡ length (slot_writes i p j)
length_slot k i p j = go (is_used p j)
  where
    go : (t : Bool) → length (cond t (write_of k p (16 + 4 * j) four_bytes ∷ []) [])
        ≡ length (cond t (write_of i p (16 + 4 * j) four_bytes ∷ []) [])
    go true = refl
    go false = refl

length_bars : (k i : ℕ) (p : List ℕ) (n j : ℕ) → length (bar_writes k p n j) ≡ length (bar_writes i p n j)
unfolding bar_writes
length_bars k i p zero j = refl
length_bars k i p (suc n) j =
    length-append (slot_writes k p j) (bar_writes k p n (j + 1))
    ∙ ap₂ ◌+◌ (length_slot k i p j) (length_bars k i p n (j + 1))
    ∙ sym (length-append (slot_writes i p j) (bar_writes i p n (j + 1)))

pub length_of_number : (pass : Pass) (k i : ℕ) (p : List ℕ) → length (writes_in pass k p) ≡ length (writes_in pass i p)
length_of_number Buses k i p = go (is_bridge (header_of p))
  where
    go : (t : Bool) → length (cond t (write_of k p 0x18 three_bytes ∷ []) []) ≡ length (cond t (write_of i p 0x18 three_bytes ∷ []) [])
    go true = refl
    go false = refl
length_of_number Registers k i p =
    length-append (bar_writes k p (slot_count (header_of p)) 0) _
    ∙ ap₂ ◌+◌ (length_bars k i p (slot_count (header_of p)) 0) (go (is_bridge (header_of p)))
    ∙ sym (length-append (bar_writes i p (slot_count (header_of p)) 0) _)
  where
    go : (t : Bool) → length (cond t (window_writes k p) []) ≡ length (cond t (window_writes i p) [])
    go true = refl
    go false = refl
length_of_number Commands k i p = refl

pub slot_count_le : (header : ℕ) → slot_count header ≤ 6
slot_count_le header = go (is_bridge header)
  where
    go : (t : Bool) → cond t 2 6 ≤ 6
    go true = omega arith
    go false = omega arith

-- ## Records one after the other

pub pass_append : (pass : Pass) (k : ℕ) (ps qs : List (List ℕ))
    → pass_writes pass k (ps ++ qs) ≡ pass_writes pass k ps ++ pass_writes pass (k + length ps) qs
unfolding pass_writes
pass_append pass k [] qs = ap (λ (n : ℕ). pass_writes pass n qs) (sym (add-zero k))
pass_append pass k (p ∷ ps) qs =
    let s : suc k + length ps ≡ k + suc (length ps) = omega arith in
    ap (writes_in pass k p ++◌) (pass_append pass (suc k) ps qs ∙ ap (λ (n : ℕ). pass_writes pass (suc k) ps ++ pass_writes pass n qs) s)
    ∙ sym (append_assoc (writes_in pass k p) (pass_writes pass (suc k) ps) (pass_writes pass (k + suc (length ps)) qs))

pub pass_snoc : (pass : Pass) (k : ℕ) (ps : List (List ℕ)) (p : List ℕ)
    → pass_writes pass k (ps ++ (p ∷ [])) ≡ pass_writes pass k ps ++ writes_in pass (k + length ps) p
unfolding pass_writes
pass_snoc pass k ps p =
    pass_append pass k ps (p ∷ []) ∙ ap (pass_writes pass k ps ++◌) (append-nil (writes_in pass (k + length ps) p))
