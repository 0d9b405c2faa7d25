-- The laws of the numbers that records take, and of the spares still to come. Assumes nothing.
use Rattle.std.specs.Prelude.{◌≡◌, refl, Bool, true, false, cond, ℕ, zero, suc, ◌+◌, ◌≤◌, ◌<◌, length, get_or, take, drop}
use Rattle.std.proofs.Common.{sym, ap, ◌∙◌, arith, length-append}
use mathlib.Core.List.{List, [], ◌∷◌, ◌++◌, cons≢nil, head-eq_of_cons-eq}
use Rattle.plan_rule.specs.Records.{Function}
use Rattle.plan_rule.specs.Numbering.{weight, own_spare, bridges, bridge_count, spare_count, overs_from, over}

pub bridges_take_suc : (i : ℕ) (l : List Function) (f : Function) (fs : List Function) → drop i l ≡ f ∷ fs
    → bridges (take (suc i) l) ≡ bridges (take i l) + weight f
unfolding bridges
bridges_take_suc zero [] f fs e = absurd (cons≢nil (sym e))
bridges_take_suc zero (g ∷ l) f fs e = let h : g ≡ f = head-eq_of_cons-eq e in rw h (omega arith)
bridges_take_suc (suc i) [] f fs e = absurd (cons≢nil (sym e))
bridges_take_suc (suc i) (g ∷ l) f fs e = omega (arith, bridges_take_suc i l f fs e)

pub bridges_split : (i : ℕ) (l : List Function) → bridges l ≡ bridges (take i l) + bridges (drop i l)
unfolding bridges
bridges_split zero l = omega arith
bridges_split (suc i) [] = refl
bridges_split (suc i) (g ∷ l) = omega (arith, bridges_split i l)

pub bridges_take_mono : (i j : ℕ) (l : List Function) → i ≤ j → bridges (take i l) ≤ bridges (take j l)
unfolding bridges
bridges_take_mono zero j l h = omega arith
bridges_take_mono (suc i) zero l h = absurd (omega arith)
bridges_take_mono (suc i) (suc j) [] h = omega arith
bridges_take_mono (suc i) (suc j) (g ∷ l) h = let k : i ≤ j = omega arith in omega (arith, bridges_take_mono i j l k)

-- bridges and spare buses
pub bridges_and_spares : (fs : List Function) → bridges fs ≡ bridge_count fs + spare_count fs
unfolding bridges bridge_count spare_count
bridges_and_spares [] = refl
bridges_and_spares (f ∷ fs) = go f.bridge (bridges_and_spares fs)
  where
    go : (t : Bool) → bridges fs ≡ bridge_count fs + spare_count fs
        → cond t (suc f.spare_buses) 0 + bridges fs ≡ cond t 1 0 + bridge_count fs + (cond t f.spare_buses 0 + spare_count fs)
    go true e = omega arith
    go false e = omega arith

none_taken : (n : ℕ) → bridges (take n []) ≡ 0
unfolding bridges
none_taken zero = refl
none_taken (suc n) = refl

pub bridges_take_add : (a m : ℕ) (l : List Function) → bridges (take (a + m) l) ≡ bridges (take a l) + bridges (take m (drop a l))
unfolding bridges
bridges_take_add zero m l = let e : 0 + m ≡ m = omega arith in rw e (omega arith)
bridges_take_add (suc a) m [] = let e : suc a + m ≡ suc (a + m) = omega arith in rw e (omega (arith, none_taken m))
bridges_take_add (suc a) m (g ∷ l) =
    let e : suc a + m ≡ suc (a + m) = omega arith in
    rw e (omega (arith, bridges_take_add a m l))

pub weight_own : (f : Function) → own_spare f ≤ weight f
weight_own f = go f.bridge
  where
    go : (b : Bool) → cond b f.spare_buses 0 ≤ cond b (suc f.spare_buses) 0
    go true = omega arith
    go false = omega arith

pub weight_bridge : (f : Function) → f.bridge ≡ true → weight f ≡ suc (own_spare f)
weight_bridge f e = rw e

get_d_left : (acc more : List ℕ) (i : ℕ) → i < length acc → get_or (acc ++ more) i 0 ≡ get_or acc i 0
get_d_left [] more i h = absurd (omega arith)
get_d_left (x ∷ acc) more zero h = refl
get_d_left (x ∷ acc) more (suc i) h = get_d_left acc more i (omega arith)

get_d_end : (acc : List ℕ) (v : ℕ) → get_or (acc ++ (v ∷ [])) (length acc) 0 ≡ v
get_d_end [] v = refl
get_d_end (x ∷ acc) v = get_d_end acc v

overs_stable : (fs : List Function) (acc : List ℕ) (i : ℕ) → i < length acc → get_or (overs_from acc fs) i 0 ≡ get_or acc i 0
unfolding overs_from
overs_stable [] acc i h = refl
overs_stable (f ∷ fs) acc i h =
    let v = get_or acc f.parent 0 + own_spare f in
    overs_stable fs (acc ++ (v ∷ [])) i (omega (arith, length-append acc (v ∷ []))) ∙ get_d_left acc (v ∷ []) i h

overs_record : (all : List Function) (acc : List ℕ) (n i : ℕ) (f : Function) (fs : List Function) → length acc ≡ suc n → drop i all ≡ f ∷ fs
    → f.parent ≤ n + i
    → get_or (overs_from acc all) (suc (n + i)) 0 ≡ get_or (overs_from acc all) f.parent 0 + own_spare f
unfolding overs_from
overs_record [] acc n zero f fs l e p = absurd (cons≢nil (sym e))
overs_record [] acc n (suc i) f fs l e p = absurd (cons≢nil (sym e))
overs_record (g ∷ all) acc n zero f fs l e p =
    let same : g ≡ f = head-eq_of_cons-eq e in
    let v = get_or acc g.parent 0 + own_spare g in
    let long = length-append acc (v ∷ []) in
    let here : suc (n + 0) ≡ length acc = omega (arith, l) in
    rw here
    (overs_stable all (acc ++ (v ∷ [])) (length acc) (omega (arith, long))
    ∙ get_d_end acc v
    ∙ ap (λ (h : Function). get_or acc h.parent 0 + own_spare h) same
    ∙ ap (λ (k : ℕ). k + own_spare f)
    (sym (overs_stable all (acc ++ (v ∷ [])) f.parent (omega (arith, long, p, l))
    ∙ get_d_left acc (v ∷ []) f.parent (omega (arith, p, l)))))
overs_record (g ∷ all) acc n (suc i) f fs l e p =
    let v = get_or acc g.parent 0 + own_spare g in
    let move : suc n + i ≡ n + suc i = omega arith in
    rw (← move) (overs_record all (acc ++ (v ∷ [])) (suc n) i f fs (omega (arith, l, length-append acc (v ∷ []))) e (omega (arith, p)))

-- none at the host, and at a record those of its parent and its own
pub over_host : (fs : List Function) → over fs 0 ≡ 0
unfolding over
over_host fs = overs_stable fs (0 ∷ []) 0 (omega arith)

pub over_record : (all : List Function) (i : ℕ) (f : Function) (fs : List Function) → drop i all ≡ f ∷ fs → f.parent ≤ i → over all (suc i)
    ≡ over all f.parent + own_spare f
unfolding over
over_record all i f fs e p =
    let s : suc (0 + i) ≡ suc i = omega arith in
    ap (λ (k : ℕ). get_or (overs_from (0 ∷ []) all) k 0) (sym s) ∙ overs_record all (0 ∷ []) 0 i f fs refl e (omega (arith, p))
