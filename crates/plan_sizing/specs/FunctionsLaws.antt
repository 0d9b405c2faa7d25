-- The laws of the functions that arrays say: by index, and the sizes of their BARs. Assumes nothing.
use Rattle.std.specs.Prelude.{◌≡◌, refl, List, [], ◌∷◌, ℕ, zero, suc, ◌+◌, ◌*◌, ◌≤◌, ◌<◌, length, get_or, take, drop}
use Rattle.std.proofs.Common.{ap, ap₂, ◌∙◌, arith, add-one, drop-drop, drop-cons, get_or-drop}
use Rattle.std.proofs.Math.Numerals.{add-two, add-three, add-four, add_five}
pub use Rattle.plan_bars.specs.BarsLaws.{AllSized, bars_from_sized}
use Rattle.plan_rule.specs.Records.{Function, Sized}
use Rattle.plan_rule.proofs.RecordLaws.{IsAt}
use Rattle.plan_sizing.specs.Functions.{function_in, functions_in, set_at, function_at}

-- ## Sizes are powers of two

pub functions_sized : (ps hs ss : List ℕ) → Sized (functions_in ps hs ss)
unfolding functions_in
functions_sized [] hs ss = tt
functions_sized (p ∷ ps) hs ss = (bars_from_sized 0 _, functions_sized ps (drop 1 hs) (drop 6 ss))

-- ## By index

pub length_functions : (ps hs ss : List ℕ) → length (functions_in ps hs ss) ≡ length ps
unfolding functions_in
length_functions [] hs ss = refl
length_functions (p ∷ ps) hs ss = ap suc (length_functions ps (drop 1 hs) (drop 6 ss))

-- the functions after the first, by index
function_at_suc : (p : ℕ) (ps hs ss : List ℕ) (i : ℕ) → function_at ps (drop 1 hs) (drop 6 ss) i ≡ function_at (p ∷ ps) hs ss (suc i)
function_at_suc p ps hs ss i = ap₂ (λ (x : ℕ) (set : List ℕ). function_in (get_or ps i 0) x set) header set
  where
    header : get_or (drop 1 hs) i 0 ≡ get_or hs (suc i) 0
    header = let e : 1 + i ≡ suc i = omega arith in get_or-drop 1 hs i 0 ∙ ap (λ (k : ℕ). get_or hs k 0) e

    set : set_at (drop 6 ss) i ≡ set_at ss (suc i)
    set = let e : 6 + 6 * i ≡ 6 * suc i = omega arith in ap (take 6) (drop-drop (6 * i) 6 ss ∙ ap (λ (k : ℕ). drop k ss) e)

pub functions_at_lem : (ps hs ss : List ℕ) (i : ℕ) → i < length ps → IsAt (functions_in ps hs ss) i (function_at ps hs ss i)
unfolding functions_in
functions_at_lem [] hs ss i h = absurd (omega arith)
functions_at_lem (p ∷ ps) hs ss zero h = refl
functions_at_lem (p ∷ ps) hs ss (suc i) h =
    functions_at_lem ps (drop 1 hs) (drop 6 ss) i (omega arith)
    ∙ ap (λ (f : Function). f ∷ drop (suc i) (functions_in ps (drop 1 hs) (drop 6 ss))) (function_at_suc p ps hs ss i)

-- ## A set, in the words of the code

pub set_at_lem : (ss : List ℕ) (at : ℕ) → at + 6 ≤ length ss
    → take 6 (drop at ss) ≡ get_or ss at 0 ∷ get_or ss (at + 1) 0 ∷ get_or ss (at + 2) 0 ∷ get_or ss (at + 3) 0 ∷ get_or ss (at + 4) 0 ∷ get_or ss
    (at + 5) 0 ∷ []
set_at_lem ss at h =
    let e0 : at < length ss = omega arith in
    let e1 : suc at < length ss = omega arith in
    let e2 : suc (suc at) < length ss = omega arith in
    let e3 : suc (suc (suc at)) < length ss = omega arith in
    let e4 : suc (suc (suc (suc at))) < length ss = omega arith in
    let e5 : suc (suc (suc (suc (suc at)))) < length ss = omega arith in
    rw (
      add-one at,
      add-two at,
      add-three at,
      add-four at,
      add_five at,
      drop-cons ss at 0 e0,
      drop-cons ss (suc at) 0 e1,
      drop-cons ss (suc (suc at)) 0 e2,
      drop-cons ss (suc (suc (suc at))) 0 e3,
      drop-cons ss (suc (suc (suc (suc at)))) 0 e4,
      drop-cons ss (suc (suc (suc (suc (suc at))))) 0 e5,
    )
