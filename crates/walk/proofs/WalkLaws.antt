-- Laws of the walk: where bus numbers rise the bound on the number of buses does not matter, and the walk is told by its trail. Assumes
-- nothing.
use Rattle.std.specs.Prelude.{◌≡◌, ◌⊎◌, List, [], ◌∷◌, length}
use Rattle.std.proofs.Math.Path.{refl, ap, fun_ext}
use Rattle.std.proofs.Common.{sym, ap₂, subst, ◌∙◌, inl, inr, suc-ne-zero, arith}
use Prim.Native.Nat.{ℕ, zero, suc, ◌+◌, ◌≤◌, ◌<◌}
use Rattle.walk.specs.Registers.{bar, window}
use Rattle.walk.specs.Tally.{Tally, none, one, several}
use Rattle.walk.specs.Walk.{delivered, refused, no_owner, settle, walk_over, walk_from, Rising, Trail}

module _ {tally : ℕ → Tally} (rising : Rising tally) where
  -- two bounds that both leave a bus for each number from here on give one walk
  pub walk_enough : (n m bus crossed : ℕ) → bus < 256 → 256 ≤ n + bus → 256 ≤ m + bus → walk_over n tally bus crossed
      ≡ walk_over m tally bus crossed
  unfolding walk_over
  walk_enough zero m bus crossed h enough_n enough_m = absurd (omega arith)
  walk_enough (suc n) zero bus crossed h enough_n enough_m = absurd (omega arith)
  walk_enough (suc n) (suc m) bus crossed h enough_n enough_m = go (tally bus) refl (λ b. walk_enough n m b (crossed + 1))
    where
      go : (t : Tally) → tally bus ≡ t
          → ((b : ℕ) → b < 256 → 256 ≤ n + b → 256 ≤ m + b → walk_over n tally b (crossed + 1) ≡ walk_over m tally b (crossed + 1))
          → settle t crossed (λ b. walk_over n tally b (crossed + 1)) ≡ settle t crossed (λ b. walk_over m tally b (crossed + 1))
      go none e next = refl
      go several e next = refl
      go (one (bar k)) e next = refl
      go (one (window k b)) e next = let up = rising.rises bus k b e in next b up.1 (omega arith) (omega arith)

  pub walk_fuel : (n bus crossed : ℕ) → bus < 256 → 256 ≤ n + bus → walk_over n tally bus crossed ≡ walk_from tally bus crossed
  unfolding walk_from
  walk_fuel n bus crossed h enough = walk_enough n 256 bus crossed h enough (omega arith)

  -- over a variable: at the numeral the whole recursion would be unrolled
  over_step : (n bus crossed : ℕ) (t : Tally) → 256 ≤ suc n + bus → tally bus ≡ t
      → walk_over (suc n) tally bus crossed ≡ settle t crossed (λ b. walk_from tally b (crossed + 1))
  unfolding walk_over
  over_step n bus crossed t h e = ap (λ (q : Tally). settle q crossed (λ b. walk_over n tally b (crossed + 1))) e ∙ go t e
    where
      go : (q : Tally) → tally bus ≡ q
          → settle q crossed (λ b. walk_over n tally b (crossed + 1)) ≡ settle q crossed (λ b. walk_from tally b (crossed + 1))
      go none e = refl
      go several e = refl
      go (one (bar k)) e = refl
      go (one (window k b)) e = let up = rising.rises bus k b e in walk_fuel n b (crossed + 1) up.1 (omega arith)

  -- the equation that hides the bound
  pub walk_step : (bus crossed : ℕ) (t : Tally) → bus < 256 → tally bus ≡ t
      → walk_from tally bus crossed ≡ settle t crossed (λ b. walk_from tally b (crossed + 1))
  walk_step bus crossed t h e = sym (walk_fuel (suc 256) bus crossed h (omega arith)) ∙ over_step 256 bus crossed t (omega arith) e

-- A BAR's claim ends the walk, on any bus.
over_bar : (n : ℕ) (tally : ℕ → Tally) (bus crossed x : ℕ) → tally bus ≡ one (bar x) → walk_over (suc n) tally bus crossed
    ≡ delivered x crossed
unfolding walk_over
over_bar n tally bus crossed x e = rw e

pub walk_bar : (tally : ℕ → Tally) (bus crossed x : ℕ) → tally bus ≡ one (bar x) → walk_from tally bus crossed ≡ delivered x crossed
unfolding walk_from
walk_bar tally bus crossed x e = over_bar 255 tally bus crossed x e

-- Without a claim it is refused, on any bus.
over_none : (n : ℕ) (tally : ℕ → Tally) (bus crossed : ℕ) → tally bus ≡ none → walk_over (suc n) tally bus crossed ≡ refused no_owner
unfolding walk_over
over_none n tally bus crossed e = rw e

pub walk_none : (tally : ℕ → Tally) (bus crossed : ℕ) → tally bus ≡ none → walk_from tally bus crossed ≡ refused no_owner
unfolding walk_from
walk_none tally bus crossed e = over_none 255 tally bus crossed e

-- A delivered walk has left a trail, of as many bridges as it reports.
pub trail_of_delivered : (tally : ℕ → Tally) (n bus crossed number count : ℕ) → walk_over n tally bus crossed ≡ delivered number count
    → (ns : List ℕ) × Trail tally bus ns number × (count ≡ crossed + length ns)
unfolding walk_over Trail
trail_of_delivered tally zero bus crossed number count e = absurd (suc-ne-zero 0 (cc))
trail_of_delivered tally (suc n) bus crossed number count e =
    go (tally bus) refl e (λ b. trail_of_delivered tally n b (crossed + 1) number count)
  where
    go : (t : Tally) → tally bus ≡ t → settle t crossed (λ b. walk_over n tally b (crossed + 1)) ≡ delivered number count
        → ((b : ℕ) → walk_over n tally b (crossed + 1) ≡ delivered number count
        → (ns : List ℕ) × Trail tally b ns number × (count ≡ crossed + 1 + length ns))
        → (ns : List ℕ) × Trail tally bus ns number × (count ≡ crossed + length ns)
    go none q e next = absurd (suc-ne-zero 0 (cc))
    go several q e next = absurd (suc-ne-zero 0 (cc))
    go (one (bar x)) q e next =
        let same_number : x ≡ number = cc in
        let same_count : crossed ≡ count = cc in
        ([], q ∙ ap (λ (y : ℕ). one (bar y)) same_number, omega arith)
    go (one (window x b)) q e next = let (ns, trail, count_is) = next b e in (x ∷ ns, (b, q, trail), omega arith)

-- And a trail is walked to its end, where bus numbers rise.
pub walk_of_trail : {tally : ℕ → Tally} → Rising tally → (bus crossed : ℕ) (ns : List ℕ) (number : ℕ) → Trail tally bus ns number
    → walk_from tally bus crossed ≡ delivered number (crossed + length ns)
unfolding Trail
walk_of_trail rising bus crossed [] number t = walk_bar _ bus crossed number t ∙ ap (delivered number) (omega arith)
walk_of_trail rising bus crossed (n ∷ ns) number (b, e, t) =
    let up = rising.rises bus n b e in
    walk_step rising bus crossed _ (omega arith) e ∙ walk_of_trail rising b (crossed + 1) ns number t ∙ ap (delivered number) (omega arith)

pub trail_unique : (tally : ℕ → Tally) (bus : ℕ) (ns ms : List ℕ) (x y : ℕ) → Trail tally bus ns x → Trail tally bus ms y
    → (ns ≡ ms) × (x ≡ y)
unfolding Trail
trail_unique tally bus [] [] x y t u = (refl, cc)
trail_unique tally bus [] (m ∷ ms) x y t (c, q, u) = absurd (suc-ne-zero 0 (cc))
trail_unique tally bus (n ∷ ns) [] x y (b, e, t) u = absurd (suc-ne-zero 0 (cc))
trail_unique tally bus (n ∷ ns) (m ∷ ms) x y (b, e, t) (c, q, u) =
    let same_bridge : n ≡ m = cc in
    let same_bus : c ≡ b = cc in
    let (rest, number) = trail_unique tally b ns ms x y t (rw same_bus at u) in
    (ap₂ ◌∷◌ same_bridge rest, number)

-- A refused walk has one of document 01's two numbers, and 41 only where some bus has several claims.
pub refused_elim : (tally : ℕ → Tally) (n bus crossed number : ℕ) → walk_over n tally bus crossed ≡ refused number
    → (number ≡ no_owner) ⊎ ((b : ℕ) × (tally b ≡ several))
unfolding walk_over
refused_elim tally zero bus crossed number e = inl (cc)
refused_elim tally (suc n) bus crossed number e = go (tally bus) refl e (λ b. refused_elim tally n b (crossed + 1) number)
  where
    go : (t : Tally) → tally bus ≡ t → settle t crossed (λ b. walk_over n tally b (crossed + 1)) ≡ refused number
        → ((b : ℕ) → walk_over n tally b (crossed + 1) ≡ refused number → (number ≡ no_owner) ⊎ ((c : ℕ) × (tally c ≡ several)))
        → (number ≡ no_owner) ⊎ ((c : ℕ) × (tally c ≡ several))
    go none q e next = inl (cc)
    go several q e next = inr (bus, q)
    go (one (bar x)) q e next = absurd (suc-ne-zero 0 (cc))
    go (one (window x b)) q e next = next b e

-- Tallies that agree on every bus give one walk.
pub walk_agree : (t s : ℕ → Tally) → ((bus : ℕ) → t bus ≡ s bus) → (bus crossed : ℕ) → walk_from t bus crossed ≡ walk_from s bus crossed
walk_agree t s h bus crossed = ap (λ (q : ℕ → Tally). walk_from q bus crossed) (fun_ext h)

-- and one trail
pub trail_agree : (t s : ℕ → Tally) → ((bus : ℕ) → t bus ≡ s bus)
    → (bus : ℕ) (ns : List ℕ) (number : ℕ) → Trail t bus ns number → Trail s bus ns number
trail_agree t s h bus ns number trail = subst (λ (q : ℕ → Tally). Trail q bus ns number) (fun_ext h) trail
