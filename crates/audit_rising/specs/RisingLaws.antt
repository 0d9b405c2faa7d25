-- Each two ranges that rise are clear of each other. Assumes nothing.
use Rattle.std.specs.Prelude.{◌≡◌, refl, Bool, true, false, ◌||◌, List, [], ◌∷◌, ℕ, ◌+◌, ◌≤◌, ◌<◌, length, get_or, set, eqb, leb, ltb}
use Rattle.std.proofs.Common.{inl, arith, add-one, get_or-set_same, get_or-set_other, eqb-true, leb-false, ltb-false}
use Rattle.std.proofs.lemmas.Bool.{eqb-false}
use Rattle.arith.specs.BoolLaws.{false_of_or}
use Rattle.lists.specs.Lists.{All, Pairwise}
use Rattle.lists.specs.ListLaws.{all_imp}
use Rattle.audit_rising.specs.Rising.{Spot, spot, Fits, Rising, Takes, Clear}

-- what is taken under a key only grows
grows : (t : List ℕ) (x : Spot) → Fits t x → (k b : ℕ) → b ≤ get_or t k 0 → b ≤ get_or (set t x.key x.stop) k 0
grows t x f k b h = go (eqb k x.key) refl
  where
    go : (c : Bool) → eqb k x.key ≡ c → b ≤ get_or (set t x.key x.stop) k 0
    go true e =
        let same : k ≡ x.key = eqb-true k x.key e in
        let old : b ≤ get_or t x.key 0 = rw same at h in
        rw same (omega (arith, old, f.above, f.some, get_or-set_same t x.key x.stop 0 f.in_table))
    go false e = rw (get_or-set_other t x.key k x.stop 0 (eqb-false k x.key e)) h

-- all that rise from a table start at or above what is taken there
rising_above : (t : List ℕ) (xs : List Spot) → Rising t xs → (k b : ℕ) → b ≤ get_or t k 0
    → All (λ y. (y.told ≡ true) × (k ≡ y.key → b ≤ y.start)) xs
rising_above t [] r k b h = tt
rising_above t (x ∷ xs) r k b h = (
  (r.0.is_told, λ e. let old : b ≤ get_or t x.key 0 = rw e at h in omega (arith, old, r.0.above)),
  rising_above (set t x.key x.stop) xs r.1 k b (grows t x r.0 k b h),
)

pub rising_clear : (t : List ℕ) (xs : List Spot) → Rising t xs → Pairwise Clear xs
rising_clear t [] r = tt
rising_clear t (x ∷ xs) r =
    let f = r.0 in
    let taken : x.stop ≤ get_or (set t x.key x.stop) x.key 0 =
    omega (arith, get_or-set_same t x.key x.stop 0 f.in_table) in (
      all_imp _ (Clear x) xs (rising_above (set t x.key x.stop) xs r.1 x.key x.stop taken)
          (λ y p. (f.is_told, p.0, λ e. inl (p.1 e))),
      rising_clear (set t x.key x.stop) xs r.1,
    )

-- ## One range taken, in the words of the code

module _ (t : List ℕ) (key first last limit : ℕ) (e : ((ltb first (get_or t key 0) || ltb last first) || leb limit last) ≡ false) where
  tests : (ltb first (get_or t key 0) ≡ false) × (ltb last first ≡ false) × (leb limit last ≡ false)
  tests =
      let two = false_of_or (ltb first (get_or t key 0) || ltb last first) (leb limit last) e in
      let one = false_of_or (ltb first (get_or t key 0)) (ltb last first) two.0 in
      (one.0, one.1, two.1)

  pub last_below_lem : last < limit
  last_below_lem = leb-false limit last tests.2

  pub takes_one : key < length t → Takes t (spot key first last true ∷ []) (set t key (last + 1))
  takes_one h ys r = (
    record {
      in_table = h;
      above = ltb-false first (get_or t key 0) tests.0;
      some = omega (arith, ltb-false last first tests.1);
      is_told = refl;
    },
    rw (← add-one last) r,
  )
