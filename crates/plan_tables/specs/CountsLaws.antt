-- The pass that counts bus numbers: it starts, a function is one turn, and at the end all are counted. Assumes nothing.
use Rattle.std.specs.Prelude.{◌≡◌, refl, List, [], ◌∷◌, ℕ, suc, ◌+◌, ◌*◌, ◌%◌, ◌≤◌, ◌<◌, length, get_or, take, drop}
use Rattle.std.proofs.Common.{sym, ◌∙◌, ⊎_elim, add-zero, add-one}
use Rattle.std.proofs.Math.Path.{ap}
use native.Mathlib.Omega.{arith}
use Rattle.std.proofs.lemmas.List.Edits.{sets}
use Rattle.std.proofs.Math.Seq.{take-length}
use Rattle.arith.specs.Order.{eq_or_ne}
use Rattle.endian.specs.SetsLaws.{get_d_sets_before, get_d_sets_at}
use Rattle.plan_rule.specs.Records.{Function}
use Rattle.plan_rule.proofs.RecordLaws.{IsAt}
use Rattle.plan_rule.specs.Numbering.{weight, own_spare, bridges, over}
use Rattle.plan_rule.proofs.NumberingLaws.{bridges_take_suc, over_host, over_record}
use Rattle.plan_sizing.specs.Functions.{functions_in, function_at}
use Rattle.plan_sizing.specs.FunctionsLaws.{length_functions, functions_at_lem}
use Rattle.plan_tables.specs.Counts.{spare_of, weight_of, CountedAt, Counted, AllCounted, Counting}

mod_again : (a b : ℕ) → (a % 256 + b) % 256 ≡ (a + b) % 256
mod_again a b = omega arith

-- ---- two numbers stored

module _ (c : List ℕ) (k x y : ℕ) (room : 2 * k + 2 ≤ length c) where
  stored_first : get_or (sets c (2 * k) (x ∷ y ∷ [])) (2 * k) 0 ≡ x
  stored_first =
      ap (λ (j : ℕ). get_or (sets c (2 * k) (x ∷ y ∷ [])) j 0) (sym (add-zero (2 * k)))
      ∙ get_d_sets_at c (2 * k) (x ∷ y ∷ []) 0 0 (omega arith) (omega arith)

  stored_second : get_or (sets c (2 * k) (x ∷ y ∷ [])) (2 * k + 1) 0 ≡ y
  stored_second = get_d_sets_at c (2 * k) (x ∷ y ∷ []) 1 0 (omega arith) (omega arith)

module _ (fs : List Function) (c : List ℕ) where
  counted_start : {c' : List ℕ} → c' ≡ sets c 0 (0 ∷ 0 ∷ []) → 2 ≤ length c → Counted fs c' 0
  unfolding bridges
  counted_start e room k l =
      let z : k ≡ 0 = omega arith in
      rw (z, e)
      (record {
        taken_is = stored_first c 0 0 0 (omega arith);
        over_is = stored_second c 0 0 0 (omega arith) ∙ ap (λ (n : ℕ). n % 256) (sym (over_host fs));
      })

  counted_next : {c' : List ℕ} {x y : ℕ} (i : ℕ) → Counted fs c i → c' ≡ sets c (2 * (i + 1)) (x ∷ y ∷ []) → 2 * (i + 1) + 2 ≤ length c
      → x ≡ bridges (take (i + 1) fs) % 256 → y ≡ over fs (i + 1) % 256 → Counted fs c' (i + 1)
  counted_next {c'} {x} {y} i h e room p q k l = rw e (⊎_elim here before (eq_or_ne k (i + 1)))
    where
      here : k ≡ i + 1 → CountedAt fs (sets c (2 * (i + 1)) (x ∷ y ∷ [])) k
      here z =
          rw z
          (record {
            taken_is = stored_first c (i + 1) x y room ∙ p;
            over_is = stored_second c (i + 1) x y room ∙ q;
          })

      before : (k ≡ i + 1 → ⊥) → CountedAt fs (sets c (2 * (i + 1)) (x ∷ y ∷ [])) k
      before n =
          record {
            taken_is = get_d_sets_before c (2 * (i + 1)) (x ∷ y ∷ []) (2 * k) 0 (omega arith) ∙ (h k (omega arith)).taken_is;
            over_is = get_d_sets_before c (2 * (i + 1)) (x ∷ y ∷ []) (2 * k + 1) 0 (omega arith) ∙ (h k (omega arith)).over_is;
          }

-- ---- in the words of the code

pub counting_start : (ps hs ss c : List ℕ) {c' : List ℕ} → c' ≡ sets c 0 (0 ∷ 0 ∷ []) → 2 ≤ length c
    → Counting (functions_in ps hs ss) c' 0 0
unfolding bridges
counting_start ps hs ss c e room = record { counted = counted_start (functions_in ps hs ss) c e room; taken = refl }

module _ (ps hs ss : List ℕ) {c : List ℕ} {i t : ℕ} (s : Counting (functions_in ps hs ss) c i t) (earlier : get_or ps i 0 ≤ i)
    (inside : i < length ps) where
  abbrev fs : List Function
  fs = functions_in ps hs ss

  abbrev f : Function
  f = function_at ps hs ss i

  at : IsAt fs i f
  at = functions_at_lem ps hs ss i inside

  -- o is what was read of the parent, w and z what the function's head says
  pub counting_turn : {c' : List ℕ} (o w z : ℕ) → o ≡ get_or c (2 * get_or ps i 0 + 1) 0 → w ≡ weight_of (get_or hs i 0)
      → z ≡ spare_of (get_or hs i 0)
      → c' ≡ sets c (2 * (i + 1)) ((t + w) % 256 ∷ (o + z) % 256 ∷ []) → 2 * (i + 1) + 2 ≤ length c → Counting fs c' (i + 1) (t + w)
  counting_turn o w z read weighs spares e room =
      record {
        counted = counted_next fs c i s.counted e room (ap (λ (n : ℕ). n % 256) more) over_more;
        taken = more;
      }
    where
      more : t + w ≡ bridges (take (i + 1) fs)
      more =
          ap (λ (n : ℕ). t + n) weighs ∙ ap (λ (n : ℕ). n + weight f) s.taken
          ∙ sym (bridges_take_suc i fs f (drop (suc i) fs) at)
          ∙ ap (λ (n : ℕ). bridges (take n fs)) (sym (add-one i))

      over_more : (o + z) % 256 ≡ over fs (i + 1) % 256
      over_more =
          ap (λ (n : ℕ). (o + n) % 256) spares
          ∙ ap (λ (n : ℕ). (n + own_spare f) % 256) (read ∙ (s.counted f.parent earlier).over_is)
          ∙ mod_again (over fs f.parent) (own_spare f)
          ∙ ap (λ (n : ℕ). n % 256) (sym (over_record fs i f (drop (suc i) fs) at earlier))
          ∙ ap (λ (n : ℕ). over fs n % 256) (sym (add-one i))

pub counting_end : (ps hs ss : List ℕ) {c : List ℕ} {i t : ℕ} → Counting (functions_in ps hs ss) c i t → i ≡ length ps
    → AllCounted (functions_in ps hs ss) c (length ps) t
counting_end ps hs ss {c} {i} {t} s e =
    let fs = functions_in ps hs ss in
    let all : i ≡ length fs = e ∙ sym (length_functions ps hs ss) in
    record {
      counted = rw e at s.counted;
      all = s.taken ∙ ap (λ (n : ℕ). bridges (take n fs)) all ∙ ap bridges (take-length fs);
    }
