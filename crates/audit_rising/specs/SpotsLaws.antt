-- Where all of them rise, no two ranges of one bus and one space overlap, and no two bridges of one bus share a bus. Assumes nothing.
use Rattle.std.specs.Prelude.{◌≡◌, refl, ◌⊎◌, Bool, true, false, ◌&&◌, ℕ, suc, ◌+◌, ◌*◌, ◌%◌, ◌≤◌, eqb, leb, ltb}
use Rattle.std.proofs.Common.{sym, ap, inl, inr, arith, eqb-true, leb-true, le-ltb}
use Rattle.std.proofs.Math.Bool.{and-false, and-eq-true_iff}
use Rattle.std.proofs.lemmas.Bool.{false≢true, lt-leb}
use mathlib.Core.List.Memᴰ
use mathlib.Core.List.{List, [], ◌∷◌, ◌++◌, map, flat_map}
use Rattle.lists.specs.Lists.{◌∈◌, All, Pairwise, one_if, any}
use Rattle.lists.specs.ListLaws.{all_imp, all_elim, all_intro, all_left, all_right, flat_intro}
use Rattle.lists.specs.KeepLaws.{none_of_all}
use Rattle.walk.specs.Ranges.{Range, Pool, buses, low, high, io}
use Rattle.sheet_record.specs.Entry.{Entry, bus, bridges}
use Rattle.sheet_ranges.specs.Ranges.{ranges_of, pool_number, space_number, overlap}
use Rattle.audit_rule.specs.Audit.{any_pair, any_overlap, overlap_on_bus, buses_shared, not_disjoint}
use Rattle.audit_rule.proofs.PairLaws.{none_of_pairwise}
use Rattle.audit_rising.specs.Rising.{Spot, spot, Clear}
use Rattle.audit_rising.specs.Spots.{sided, spot_of, spots_of, buses_of}

-- ## Two ranges

module _ (a b c d : ℕ) where
  -- from a to b and from c to d
  below : b ≤ c → (ltb a d && ltb c b) ≡ false
  below h = rw (le-ltb c b h) (and-false (ltb a d))

  above : d ≤ a → (ltb a d && ltb c b) ≡ false
  above h = rw (le-ltb a d h)

  either : (b ≤ c) ⊎ (d ≤ a) → (ltb a d && ltb c b) ≡ false
  either (inl h) = below h
  either (inr h) = above h

  apart : (p q : Pool) → sided (record { pool = p; start = a; stop = b }) ≡ true → sided (record { pool = q; start = c; stop = d }) ≡ true
      → (pool_number p ≡ pool_number q → (b ≤ c) ⊎ (d ≤ a)) → (eqb (space_number p) (space_number q) && (ltb a d && ltb c b)) ≡ false
  apart buses buses x y h = either (h refl)
  apart buses low x y h = refl
  apart buses high x y h = refl
  apart buses io x y h = refl
  apart low buses x y h = refl
  apart low low x y h = either (h refl)
  apart low high x y h = below (omega (arith, leb-true b 4294967296 ((and-eq-true_iff _ _).0 x).0, leb-true 4294967296 c y))
  apart low io x y h = refl
  apart high buses x y h = refl
  apart high low x y h = above (omega (arith, leb-true 4294967296 a x, leb-true d 4294967296 ((and-eq-true_iff _ _).0 y).0))
  apart high high x y h = either (h refl)
  apart high io x y h = refl
  apart io buses x y h = refl
  apart io low x y h = refl
  apart io high x y h = refl
  apart io io x y h = either (h refl)

clear_apart : (b : ℕ) (r s : Range) → Clear (spot_of b r) (spot_of b s) → overlap r s ≡ false
clear_apart b r s c =
    apart r.start r.stop s.start s.stop r.pool s.pool c.0 c.1
    (λ e. c.2 (ap (λ (n : ℕ). n % 3 * 256 + b) e))

-- ## 52

-- what rises behind a function's own ranges
pub record Behind (b : ℕ) (rs : List Range) (ys : List Spot) : Type 0 where
  pub own : Pairwise (λ r s. overlap r s ≡ false) rs
  pub across : All (λ r. All (Clear (spot_of b r)) ys) rs
  pub rest : Pairwise Clear ys

behind : (b : ℕ) (rs : List Range) (ys : List Spot) → Pairwise Clear (map (spot_of b) rs ++ ys) → Behind b rs ys
behind b [] ys p = record { own = tt; across = tt; rest = p }
behind b (r ∷ rs) ys p =
    let q = behind b rs ys p.1 in
    record {
      own = (apart_from rs (all_left (Clear (spot_of b r)) (map (spot_of b) rs) ys p.0), q.own);
      across = (all_right (Clear (spot_of b r)) (map (spot_of b) rs) ys p.0, q.across);
      rest = q.rest;
    }
  where
    apart_from : (ss : List Range) → All (Clear (spot_of b r)) (map (spot_of b) ss) → All (λ s. overlap r s ≡ false) ss
    apart_from [] h = tt
    apart_from (s ∷ ss) h = (clear_apart b r s h.0, apart_from ss h.1)

pub disjoint_of_clear : (es : List Entry) → Pairwise Clear (flat_map spots_of es) → not_disjoint es ≡ false
unfolding not_disjoint flat_map
disjoint_of_clear [] p = refl
disjoint_of_clear (e ∷ es) p =
    let h = behind (bus e) (ranges_of e) (flat_map spots_of es) p in
    rw (
      none_of_pairwise overlap (ranges_of e) h.own,
      none_of_all (overlap_on_bus e) es (all_intro _ es (λ c m. beside h c m (eqb (bus e) (bus c)) refl)),
    )
    (disjoint_of_clear es h.rest)
  where
    beside : Behind (bus e) (ranges_of e) (flat_map spots_of es) → (c : Entry) → c ∈ es → (b : Bool) → eqb (bus e) (bus c) ≡ b
        → (b && any_overlap (ranges_of e) (ranges_of c)) ≡ false
    beside h c m false q = refl
    beside h c m true q =
        let same : bus c ≡ bus e = sym (eqb-true (bus e) (bus c) q) in
        none_of_all (λ r. any (overlap r) (ranges_of c)) (ranges_of e) (all_imp _ _ (ranges_of e) h.across (λ r clear.
        none_of_all (overlap r) (ranges_of c) (all_intro _ (ranges_of c) (λ s n.
        clear_apart (bus e) r s
        (rw same at (all_elim (Clear (spot_of (bus e) r)) (flat_map spots_of es) clear
        (flat_intro spots_of es m (Memᴰ.map (spot_of (bus c)) n))))))))

-- ## 50

abbrev bus_spot : Entry → Spot
bus_spot e = spot (bus e) e.secondary e.subordinate true

-- two bridges
buses_apart : (e f : Entry) → Clear (bus_spot e) (bus_spot f) → (b : Bool) → eqb (bus e) (bus f) ≡ b
    → (b && (leb e.secondary f.subordinate && leb f.secondary e.subordinate)) ≡ false
buses_apart e f c false q = refl
buses_apart e f c true q =
    go (c.2 (eqb-true (bus e) (bus f) q))
  where
    go : (suc e.subordinate ≤ f.secondary) ⊎ (suc f.subordinate ≤ e.secondary)
        → (leb e.secondary f.subordinate && leb f.secondary e.subordinate) ≡ false
    go (inl h) = rw (lt-leb f.secondary e.subordinate h) (and-false (leb e.secondary f.subordinate))
    go (inr h) = rw (lt-leb e.secondary f.subordinate h)

-- a function with all that is behind it
module _ (e : Entry) (es : List Entry) where
  bridge_first : (b : Bool) → Pairwise Clear (one_if b (bus_spot e) ++ flat_map buses_of es)
      → (b ≡ true → All (Clear (bus_spot e)) (flat_map buses_of es)) × Pairwise Clear (flat_map buses_of es)
  bridge_first true p = (λ q. p.0, p.1)
  bridge_first false p = (λ q. absurd (false≢true q), p)

  no_bus_shared : (bridges e ≡ true → All (Clear (bus_spot e)) (flat_map buses_of es)) → (f : Entry) → f ∈ es → buses_shared e f ≡ false
  no_bus_shared h f m = go (bridges e) (bridges f) refl refl
    where
      go : (b d : Bool) → bridges e ≡ b → bridges f ≡ d
          → (b && (d && (eqb (bus e) (bus f) && (leb e.secondary f.subordinate && leb f.secondary e.subordinate)))) ≡ false
      go false d p q = refl
      go true false p q = refl
      go true true p q =
          let own : bus_spot f ∈ buses_of f = rw q (Memᴰ.head refl) in
          buses_apart e f (all_elim (Clear (bus_spot e)) (flat_map buses_of es) (h p) (flat_intro buses_of es m own)) (eqb (bus e) (bus f)) refl

pub shared_none : (es : List Entry) → Pairwise Clear (flat_map buses_of es) → any_pair buses_shared es ≡ false
unfolding any_pair flat_map
shared_none [] p = refl
shared_none (e ∷ es) p =
    let h = bridge_first e es (bridges e) p in
    rw (none_of_all (buses_shared e) es (all_intro _ es (λ f m. no_bus_shared e es h.0 f m))) (shared_none es h.1)
