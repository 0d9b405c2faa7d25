-- The laws of the walk that sizes: a function of another bus ends the walk over this one, a function of this bus is one turn, and the
-- records below a bridge are the run that follows it. Assumes nothing.
use Rattle.std.specs.Prelude.{◌≡◌, ◌⊎◌, Bool, ◌&&◌, List, [], ◌∷◌, length, drop}
use Rattle.std.proofs.Math.Path.{refl, sym, ap, subst}
use Rattle.std.proofs.Common.{ap₂, subst₂, ◌∙◌, inl, inr, ⊎_elim, true≢false, add-zero, drop-drop, eqb-true, leb-true, leb-false, le-leb}
use Rattle.std.proofs.Math.Bool.{true, false, cond}
use Rattle.std.proofs.lemmas.Bool.{false≢true, lt-leb}
use Prim.Native.Nat.{ℕ, suc, ◌+◌, ◌≤◌, ◌<◌}
use native.Mathlib.Omega.{arith}
use Rattle.std.proofs.Math.Dec.{leb, ltb}
use Rattle.std.proofs.Math.ListN.{length-drop}
use Rattle.arith.specs.BoolLaws.{true_or_false, both_of_and}
use Rattle.lists.specs.Lists.{keep, front}
use Rattle.lists.specs.ListLaws.{all_drop}
use Rattle.lists.specs.KeepLaws.{front_yes, front_no, length_front_le}
use Rattle.plan_rule.specs.Pools.{Pool}
use Rattle.plan_rule.specs.Records.{Host, Function, DepthFirst, parents_after, only_host, Sized, Lawful, run}
use Rattle.plan_rule.specs.Layout.{select, largest_align}
use Rattle.plan_rule.specs.Pieces.{own_pieces, pieces}
use Rattle.plan_rule.proofs.PieceLaws.{BarsSized, pieces_shaped, select_closed}
use Rattle.plan_rule.proofs.RecordLaws.{IsAt, Subset, parent_cases, parent_new, parent_kept, depth_first_mono, false_of_not}
use Rattle.plan_rule.specs.Sizing.{nothing, extend, with_bars, with_window, with_spare, spared, Laid, laid_from, bus_laid, bars_laid}
use Rattle.plan_rule.specs.Sizing.{window_laid, function_laid}
use Rattle.plan_rule.specs.Sizing.{root_laid, ends_past}
use Rattle.plan_rule.proofs.ExtentLaws.{extend_end, extend_align, extend_nil, extend_append}
use Rattle.plan_rule.proofs.ExtentLaws.{extend_own, select_skip, select_own}
use Rattle.plan_rule.proofs.ExtentLaws.{select_past_run, length_run_run}
use Rattle.plan_rule.specs.Refusals.{out_of_pool}
use Rattle.plan_rule.proofs.RefusalLaws.{out_of_pool_end}

pub laid_ext : (l m : Laid) → l.next ≡ m.next → ((q : Pool) → l.extent q ≡ m.extent q) → l ≡ m
laid_ext l m e h = λ i. record { next = e i; extent = λ q. h q i }

-- The walk over bus b stands at index i: whatever comes next hangs below b or above it
pub record Ready (fs : List Function) (b i : ℕ) : Type 0 where
  pub allowed : ℕ → Bool
  pub ordered : DepthFirst allowed (suc i) (drop i fs)
  pub below : (j : ℕ) → allowed j ≡ true → j ≤ b
  pub earlier : b ≤ i

pub ready_start : (fs : List Function) → Lawful fs → Ready fs 0 0
ready_start fs lawful =
    record { allowed = only_host; ordered = lawful.ordered; below = λ j e. omega (arith, eqb-true j 0 e); earlier = omega arith }

-- With the run below c done, where b < c and nothing between them may be a parent
past_run : (b c : ℕ) → b < c → (ok : ℕ → Bool) (k : ℕ) (fs : List Function) → c ≤ k → DepthFirst ok k fs
    → ((j : ℕ) → ok j ≡ true → (j ≤ b) ⊎ (c ≤ j))
    → (s : ℕ → Bool) × DepthFirst s (k + length (run c fs)) (drop (length (run c fs)) fs) × ((j : ℕ) → s j ≡ true → j ≤ b)
unfolding front
past_run b c l ok k [] m d h = (λ j. false, tt, λ j e. absurd (false≢true e))
past_run b c l ok k (f ∷ fs) m d h =
    ⊎_elim (under (past_run b c l (parents_after ok k f) (suc k) fs (omega arith) d.1 after)) past (true_or_false (leb c f.parent))
  where
    Goal : ℕ → List Function → Type 0
    Goal n gs = (s : ℕ → Bool) × DepthFirst s n gs × ((j : ℕ) → s j ≡ true → j ≤ b)

    after : (j : ℕ) → parents_after ok k f j ≡ true → (j ≤ b) ⊎ (c ≤ j)
    after j e = ⊎_elim (λ g. inr (omega (arith, g.0))) (λ g. h j g.0) (parent_cases ok k f j e)

    under : Goal (suc k + length (run c fs)) (drop (length (run c fs)) fs) → leb c f.parent ≡ true
        → Goal (k + length (run c (f ∷ fs))) (drop (length (run c (f ∷ fs))) (f ∷ fs))
    under ih e = rw e (subst (λ (n : ℕ). Goal n (drop (length (run c fs)) fs)) (omega arith) ih)

    past : leb c f.parent ≡ false → Goal (k + length (run c (f ∷ fs))) (drop (length (run c (f ∷ fs))) (f ∷ fs))
    past e = rw (e, add-zero k) (
      kept,
      (up, depth_first_mono (parents_after ok k f) (parents_after kept k f) (suc k) fs same d.1),
      λ j g. leb-true j b
          (both_of_and (ok j) (leb j b) g).1,
    )
      where
        kept : ℕ → Bool
        kept j = ok j && leb j b

        parent_le : f.parent ≤ b
        parent_le = ⊎_elim (λ (p : f.parent ≤ b). p) (λ (p : c ≤ f.parent). absurd (omega (arith, leb-false c f.parent e)))
            (h f.parent d.0)

        up : kept f.parent ≡ true
        up = rw d.0 (le-leb f.parent b parent_le)

        same : Subset (parents_after ok k f) (parents_after kept k f)
        same j g =
            ⊎_elim
            (λ t. parent_new kept k f j t.0 t.1)
            (λ t. parent_kept kept k f j (rw t.0 (le-leb j b (omega (arith, t.1, parent_le)))) t.1)
            (parent_cases ok k f j g)

module _ (fs : List Function) (f : Function) (l : Laid) where
  pub function_laid_leaf : f.bridge ≡ false → function_laid fs f l ≡ bars_laid f l
  unfolding function_laid
  function_laid_leaf e = rw e

  pub function_laid_bridge : f.bridge ≡ true
      → function_laid fs f l ≡ window_laid (bars_laid f l) (spared f.spare_low (bus_laid fs (suc l.next) (laid_from (suc l.next))))
  unfolding function_laid
  function_laid_bridge e = rw e

  function_extent : (q : Pool)
      → cond f.bridge
      (with_window q (with_bars q (l.extent q) f.bars)
      (with_spare q f.spare_low (extend nothing (select (suc l.next) q (pieces (suc (suc l.next)) (drop (suc l.next) fs))))))
      (with_bars q (l.extent q) f.bars)
      ≡ (function_laid fs f l).extent q
  unfolding function_laid bus_laid
  function_extent q = go f.bridge
    where
      go : (t : Bool)
          → cond t
          (with_window q (with_bars q (l.extent q) f.bars)
          (with_spare q f.spare_low (extend nothing (select (suc l.next) q (pieces (suc (suc l.next)) (drop (suc l.next) fs))))))
          (with_bars q (l.extent q) f.bars)
          ≡ (cond t (window_laid (bars_laid f l) (spared f.spare_low (bus_laid fs (suc l.next) (laid_from (suc l.next)))))
          (bars_laid f l)).extent q
      go true = refl
      go false = refl

module _ (fs : List Function) (lawful : Lawful fs) where
  -- Nothing is left
  pub bus_laid_end : (b : ℕ) (l : Laid) → drop l.next fs ≡ [] → bus_laid fs b l ≡ l
  unfolding bus_laid pieces front keep extend
  bus_laid_end b l e = laid_ext (bus_laid fs b l) l (rw e (add-zero l.next)) (λ q. rw e)

  sized_at : (i : ℕ) (f : Function) → IsAt fs i f → Sized (f ∷ drop (suc i) fs)
  sized_at i f e = subst Sized e (all_drop BarsSized i fs lawful.sized)

  ordered_at : (b i : ℕ) (f : Function) → IsAt fs i f → (r : Ready fs b i) → DepthFirst r.allowed (suc i) (f ∷ drop (suc i) fs)
  ordered_at b i f e r = subst (DepthFirst r.allowed (suc i)) e r.ordered

  -- The next record is of this bus or of one above
  parent_le : (b i : ℕ) (f : Function) → Ready fs b i → IsAt fs i f → f.parent ≤ b
  parent_le b i f r e = r.below f.parent (ordered_at b i f e r).0

  -- Where it is not of this bus, the walk over this bus has ended
  pub bus_laid_stop : (b : ℕ) (l : Laid) (f : Function) → Ready fs b l.next → IsAt fs l.next f → (f.parent ≡ b → ⊥)
      → bus_laid fs b l ≡ l
  unfolding bus_laid
  bus_laid_stop b l f r e n = laid_ext (bus_laid fs b l) l next extents
    where
      i : ℕ
      i = l.next

      rest : List Function
      rest = drop (suc i) fs

      above : f.parent < b
      above = omega (arith, parent_le b l.next f r e)

      closed : parents_after r.allowed (suc i) f b ≡ false
      closed =
          false_of_not (parents_after r.allowed (suc i) f b)
          (λ g. ⊎_elim (λ t. omega (arith, t.0, r.earlier)) (λ t. omega (arith, t.1, above)) (parent_cases r.allowed (suc i) f b g))

      next : i + length (run b (drop i fs)) ≡ i
      next =
          ap (λ (g : List Function). i + length (run b g)) e
          ∙ ap (λ (g : List Function). i + length g) (front_no (λ g. leb b g.parent) f rest (lt-leb b f.parent above))
          ∙ add-zero i

      extents : (q : Pool) → extend (l.extent q) (select b q (pieces (suc i) (drop i fs))) ≡ l.extent q
      extents q =
          ap (λ (g : List Function). extend (l.extent q) (select b q (pieces (suc i) g))) e
          ∙ ap (extend (l.extent q))
          (select_skip b q (suc i) f rest (sized_at i f e).0 n
          ∙ select_closed (parents_after r.allowed (suc i) f) (suc (suc i)) rest (ordered_at b i f e r).1 (sized_at i f e).1 b q
          (omega (arith, r.earlier))
          closed)
          ∙ extend_nil (l.extent q)

  -- Where the walk stands after one function
  next_leaf : (l : Laid) (f : Function) → f.bridge ≡ false → (function_laid fs f l).next ≡ suc l.next
  next_leaf l f e = ap (λ (x : Laid). x.next) (function_laid_leaf fs f l e)

  next_bridge : (l : Laid) (f : Function) → f.bridge ≡ true
      → (function_laid fs f l).next ≡ suc l.next + length (run (suc l.next) (drop (suc l.next) fs))
  unfolding bus_laid
  next_bridge l f e = ap (λ (x : Laid). x.next) (function_laid_bridge fs f l e)

  -- A function of this bus is one turn of the walk
  pub bus_laid_child : (b : ℕ) (l : Laid) (f : Function) → Ready fs b l.next → IsAt fs l.next f → f.parent ≡ b
      → bus_laid fs b l ≡ bus_laid fs b (function_laid fs f l)
  unfolding bus_laid
  bus_laid_child b l f r e p = subst (λ (x : ℕ). bus_laid fs x l ≡ bus_laid fs x (function_laid fs f l)) p turn
    where
      i : ℕ
      i = l.next

      c : ℕ
      c = f.parent

      rest : List Function
      rest = drop (suc i) fs

      n : ℕ
      n = (function_laid fs f l).next

      c_le : c ≤ i
      c_le = omega (arith, parent_le b l.next f r e, r.earlier)

      -- The records that the turn passes have nothing more on this bus
      passed : (q : Pool) → select c q (pieces (suc (suc i)) rest) ≡ select c q (pieces (suc n) (drop n fs))
      passed q = ⊎_elim bridge leaf (true_or_false f.bridge)
        where
          leaf : f.bridge ≡ false → select c q (pieces (suc (suc i)) rest) ≡ select c q (pieces (suc n) (drop n fs))
          leaf g = ap (λ (x : ℕ). select c q (pieces (suc x) (drop x fs))) (sym (next_leaf l f g))

          bridge : f.bridge ≡ true → select c q (pieces (suc (suc i)) rest) ≡ select c q (pieces (suc n) (drop n fs))
          bridge g =
              let m : ℕ = length (run (suc i) rest) in
              select_past_run c (suc i) q (suc (suc i)) rest (sized_at i f e).1 (omega (arith, c_le))
              ∙ ap₂ (λ (x : ℕ) (gs : List Function). select c q (pieces x gs)) (omega arith) (drop-drop m (suc i) fs)
              ∙ ap (λ (x : ℕ). select c q (pieces (suc x) (drop x fs))) (sym (next_bridge l f g))

      counted : i + length (run c (drop i fs)) ≡ n + length (run c (drop n fs))
      counted =
          ap (λ (g : List Function). i + length (run c g)) e
          ∙ ap (λ (g : List Function). i + length g) (front_yes (λ g. leb c g.parent) f rest (le-leb c c (omega arith)))
          ∙ omega (arith, ⊎_elim bridge leaf (true_or_false f.bridge))
        where
          Rest : Type 0
          Rest = suc i + length (run c rest) ≡ n + length (run c (drop n fs))

          leaf : f.bridge ≡ false → Rest
          leaf g = ap (λ (x : ℕ). x + length (run c (drop x fs))) (sym (next_leaf l f g))

          bridge : f.bridge ≡ true → Rest
          bridge g =
              let m : ℕ = length (run (suc i) rest) in
              let runs : length (run c rest) ≡ m + length (run c (drop m rest)) = length_run_run c (suc i) rest (omega (arith, c_le)) in
              let same : length (run c (drop m rest)) ≡ length (run c (drop (suc i + m) fs)) =
              ap (λ (gs : List Function). length (run c gs)) (drop-drop m (suc i) fs) in
              let all : suc i + length (run c rest) ≡ suc i + m + length (run c (drop (suc i + m) fs)) = omega arith in
              all ∙ ap (λ (x : ℕ). x + length (run c (drop x fs))) (sym (next_bridge l f g))

      extents : (q : Pool) → extend (l.extent q) (select c q (pieces (suc i) (drop i fs)))
          ≡ extend ((function_laid fs f l).extent q) (select c q (pieces (suc n) (drop n fs)))
      extents q =
          let rests = pieces (suc (suc i)) rest in
          ap (λ (g : List Function). extend (l.extent q) (select c q (pieces (suc i) g))) e
          ∙ ap (extend (l.extent q)) (select_own q (suc i) f rest)
          ∙ extend_append (l.extent q) (select c q (own_pieces (suc i) f rests)) (select c q rests)
          ∙ ap₂ extend
          (extend_own (suc i) f rests (pieces_shaped (suc (suc i)) rest (sized_at i f e).1) q (l.extent q) ∙ function_extent fs f l q)
          (passed q)

      turn : bus_laid fs c l ≡ bus_laid fs c (function_laid fs f l)
      turn = laid_ext (bus_laid fs c l) (bus_laid fs c (function_laid fs f l)) counted extents

  -- The walk over a bridge's own bus starts right after it
  pub ready_below : (b i : ℕ) (f : Function) → Ready fs b i → IsAt fs i f → Ready fs (suc i) (suc i)
  ready_below b i f r e =
      record {
        allowed = parents_after r.allowed (suc i) f;
        ordered = (ordered_at b i f e r).1;
        below =
            λ j g. ⊎_elim (λ t. omega (arith, t.0)) (λ t. omega (arith, r.below j t.0, r.earlier))
            (parent_cases r.allowed (suc i) f j g);
        earlier = omega arith;
      }

  -- And the walk over this bus goes on after the turn
  pub ready_next : (b : ℕ) (l : Laid) (f : Function) → Ready fs b l.next → IsAt fs l.next f → f.parent ≡ b
      → Ready fs b (function_laid fs f l).next
  ready_next b l f r e p = ⊎_elim bridge leaf (true_or_false f.bridge)
    where
      i : ℕ
      i = l.next

      after : ℕ → Bool
      after = parents_after r.allowed (suc i) f

      split : (j : ℕ) → after j ≡ true → (j ≤ b) ⊎ (suc i ≤ j)
      split j h = ⊎_elim (λ t. inr (omega (arith, t.0))) (λ t. inl (r.below j t.0)) (parent_cases r.allowed (suc i) f j h)

      leaf : f.bridge ≡ false → Ready fs b (function_laid fs f l).next
      leaf g =
          rw (next_leaf l f g)
          (record {
            allowed = after;
            ordered = (ordered_at b i f e r).1;
            below =
                λ j h.
                ⊎_elim (λ t. absurd (true≢false (sym t.1 ∙ g))) (λ t. r.below j t.0) (parent_cases r.allowed (suc i) f j h);
            earlier = omega (arith, r.earlier);
          })

      bridge : f.bridge ≡ true → Ready fs b (function_laid fs f l).next
      bridge g =
          let m : ℕ = length (run (suc i) (drop (suc i) fs)) in
          let done = past_run b (suc i) (omega (arith, r.earlier)) after (suc (suc i)) (drop (suc i) fs) (omega arith)
          (ordered_at b i f e r).1 split in
          rw (next_bridge l f g)
          (record {
            allowed = done.0;
            ordered = subst₂ (DepthFirst done.0) (omega arith) (drop-drop m (suc i) fs) done.1;
            below = done.2;
            earlier = omega (arith, r.earlier);
          })

  pub next_lt : (l : Laid) (f : Function) → l.next < (function_laid fs f l).next
  next_lt l f =
      ⊎_elim
      (λ e. omega (arith, next_bridge l f e))
      (λ e. omega (arith, next_leaf l f e))
      (true_or_false f.bridge)

  pub next_le : (b : ℕ) (l : Laid) → l.next ≤ length fs → (bus_laid fs b l).next ≤ length fs
  unfolding bus_laid
  next_le b l h = omega (arith, length_front_le (λ f. leb b f.parent) (drop l.next fs), length-drop l.next fs)

  pub function_next_le : (l : Laid) (f : Function) → l.next < length fs → (function_laid fs f l).next ≤ length fs
  function_next_le l f h =
      ⊎_elim
      (λ e. rw (function_laid_bridge fs f l e) (next_le (suc l.next) (laid_from (suc l.next)) h))
      (λ e. omega (arith, next_leaf l f e))
      (true_or_false f.bridge)

  -- A pool runs out exactly when the walk over the root bus, from the pools' bases, ends past it
  pub out_of_pool_laid : (h : Host) (q : Pool) → out_of_pool h fs q ≡ ends_past (h.last q) ((bus_laid fs 0 (root_laid h)).extent q)
  unfolding bus_laid
  out_of_pool_laid h q =
      let content = select 0 q (pieces 1 fs) in
      let x = extend ((root_laid h).extent q) content in
      let align : x.align ≡ largest_align content = extend_align ((root_laid h).extent q) content ∙ omega arith in
      out_of_pool_end h fs lawful q ∙ sym
      (ap₂ (λ (a n : ℕ). ltb 0 a && ltb (suc (h.last q)) n) align (extend_end ((root_laid h).extent q) content))
