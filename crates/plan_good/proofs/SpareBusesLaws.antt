-- On a lawful board a bridge's spare buses are the last numbers up to its subordinate, and no bridge has one of them; where there are no
-- spares, the subordinate is the greatest number at or below. Assumes nothing.
use Rattle.std.specs.Prelude.{◌≡◌, ◌⊎◌, Bool, true, false, cond, List, [], ◌∷◌, ℕ, zero, suc, ◌+◌, ◌-◌, ◌≤◌, ◌<◌, leb, get_or, take, drop}
use Rattle.std.proofs.Math.Path.{refl, sym, ap}
use Rattle.std.proofs.Common.{subst, ◌∙◌, inl, inr, ⊎_elim, arith, drop-cons, get_or-drop, leb-true, leb-false}
use Rattle.std.proofs.Math.ListN.{length, length-drop}
use Rattle.arith.specs.Order.{le_or_lt, eq_or_ne}
use Rattle.arith.specs.BoolLaws.{true_or_false}
use Rattle.lists.specs.Lists.{front}
use Rattle.lists.specs.KeepLaws.{length_front_le}
use Rattle.plan_rule.specs.Records.{Function, Lawful, run}
use Rattle.plan_rule.proofs.RecordLaws.{IsAt}
use Rattle.plan_rule.specs.Preorder.{no_function, parent_of}
use Rattle.plan_rule.proofs.Preorder.{AtOrAbove, at_or_above_trans, depth_first_iff, at, above}
use Rattle.plan_rule.proofs.AboveLaws.{parent_at, parent_before}
use Rattle.plan_rule.specs.Numbering.{weight, own_spare, bridges, over, bus_number, last_below, subordinate_of}
use Rattle.plan_rule.proofs.NumberingLaws.{bridges_take_suc, bridges_take_mono, weight_own, weight_bridge, over_record}
use Rattle.plan_rule.proofs.Numbered.{Rises, bridge_rises, spares_fit, over_le, subordinate_after}
use Rattle.plan_rule.proofs.NoSpares.{NoSpares, bus_number_counted, subordinate_counted}
use Rattle.plan_good.specs.SpareBuses.{BridgeAt, SparesLast, GreatestBelow}

-- ---- the longest front that passes a test: its elements pass, the next does not

in_front : (p : Function → Bool) (l : List Function) (m : ℕ) → m < length (front p l) → p (get_or l m no_function) ≡ true
unfolding front
in_front p [] m h = absurd (omega arith)
in_front p (g ∷ l) m h = go (p g) refl m h (in_front p l)
  where
    go : (t : Bool) → p g ≡ t → (n : ℕ) → n < length (cond t (g ∷ front p l) [])
        → ((k : ℕ) → k < length (front p l) → p (get_or l k no_function) ≡ true) → p (get_or (g ∷ l) n no_function) ≡ true
    go true e zero s later = e
    go true e (suc n) s later = later n (omega (arith, s))
    go false e n s later = absurd (omega (arith, s))

past_front : (p : Function → Bool) (l : List Function) → length (front p l) < length l
    → p (get_or l (length (front p l)) no_function) ≡ false
unfolding front
past_front p [] h = absurd (omega arith)
past_front p (g ∷ l) h = go (p g) refl h (past_front p l)
  where
    go : (t : Bool) → p g ≡ t → length (cond t (g ∷ front p l) []) < suc (length l)
        → (length (front p l) < length l → p (get_or l (length (front p l)) no_function) ≡ false)
        → p (get_or (g ∷ l) (length (cond t (g ∷ front p l) [])) no_function) ≡ false
    go true e s later = later (omega (arith, s))
    go false e s later = e

module _ (fs : List Function) (lawful : Lawful fs) where
  -- ---- records at or below another

  at_index : (j : ℕ) → j < length fs → IsAt fs j (get_or fs j no_function)
  at_index j l = drop-cons fs j no_function l

  parent_le : (k : ℕ) → parent_of fs k ≤ k
  parent_le zero = omega arith
  parent_le (suc j) = omega (arith, parent_before lawful j)

  at_or_above_le : {p k : ℕ} → AtOrAbove fs p k → p ≤ k
  at_or_above_le (at e) = omega arith
  at_or_above_le (above {k} q) = omega (arith, at_or_above_le q, parent_le k)

  cases : {p k : ℕ} → AtOrAbove fs p k → (p ≡ k) ⊎ AtOrAbove fs p (parent_of fs k)
  cases (at e) = inl e
  cases (above q) = inr q

  -- what is above a record's parent is at or above the record before it
  step_back : (p j : ℕ) → j < length fs → AtOrAbove fs p (parent_of fs (suc j)) → AtOrAbove fs p j
  step_back p j l q = at_or_above_trans q ((depth_first_iff fs).0 lawful.ordered j l).before

  -- the spares still to come grow on the way down
  over_parent : (k : ℕ) → k ≤ length fs → over fs (parent_of fs k) ≤ over fs k
  over_parent zero l = omega arith
  over_parent (suc j) l =
      omega (arith, over_record fs j (get_or fs j no_function) (drop (suc j) fs) (at_index j (omega arith)) (parent_before lawful j))

  over_grows : {p k : ℕ} → AtOrAbove fs p k → k ≤ length fs → over fs p ≤ over fs k
  over_grows {p} {k} (at e) l = subst (λ (n : ℕ). over fs p ≤ over fs n) e (omega arith)
  over_grows (above {k} q) l = omega (arith, over_grows q (omega (arith, parent_le k)), over_parent k l)

  -- ---- the run below record i + 1

  module _ (i : ℕ) where
    abbrev end : ℕ
    end = suc i + length (run (suc i) (drop (suc i) fs))

    end_le : suc i ≤ length fs → end ≤ length fs
    end_le l = omega (arith, length_front_le (λ g. leb (suc i) g.parent) (drop (suc i) fs), length-drop (suc i) fs)

    run_parent : (j : ℕ) → suc i ≤ j → j < end → suc i ≤ parent_of fs (suc j)
    run_parent j l h =
        let m = j - suc i in
        let there : suc i + m ≡ j = omega arith in
        let inside : m < length (run (suc i) (drop (suc i) fs)) = omega arith in
        let passes = in_front (λ g. leb (suc i) g.parent) (drop (suc i) fs) m inside in
        let same : get_or (drop (suc i) fs) m no_function ≡ get_or fs j no_function =
        get_or-drop (suc i) fs m no_function ∙ ap (λ (k : ℕ). get_or fs k no_function) there in
        leb-true (suc i) (parent_of fs (suc j)) (ap (λ (g : Function). leb (suc i) g.parent) (sym same) ∙ passes)

    end_parent : end < length fs → parent_of fs (suc end) ≤ i
    end_parent l =
        let m = length (run (suc i) (drop (suc i) fs)) in
        let fails = past_front (λ g. leb (suc i) g.parent) (drop (suc i) fs) (omega (arith, length-drop (suc i) fs)) in
        let far = leb-false (suc i) (parent_of fs (suc end))
        (ap (λ (g : Function). leb (suc i) g.parent) (sym (get_or-drop (suc i) fs m no_function)) ∙ fails) in
        omega (arith, far)

    -- the records of the run are below it
    below_in_run : (n k : ℕ) → k < n → suc i ≤ k → k ≤ end → AtOrAbove fs (suc i) k
    below_in_run zero k h l m = absurd (omega arith)
    below_in_run (suc n) zero h l m = absurd (omega arith)
    below_in_run (suc n) (suc j) h l m =
        ⊎_elim (λ (e : suc i ≡ suc j). at e)
        (λ ne.
        let up : suc i ≤ j = omega arith in
        let before = parent_before lawful j in
        above (below_in_run n (parent_of fs (suc j)) (omega (arith, before)) (run_parent j up (omega arith)) (omega (arith, before))))
        (eq_or_ne (suc i) (suc j))

    -- past it come only records below those before i + 1, or past the run
    past_run : (m p : ℕ) → end < m → m ≤ length fs → AtOrAbove fs p m → (p ≤ i) ⊎ (end < p)
    past_run zero p h l a = absurd (omega arith)
    past_run (suc j) p h l a =
        ⊎_elim (λ (e : p ≡ suc j). inr (omega arith))
        (λ q. ⊎_elim
        (λ (e : end ≡ j). inl (omega (arith, at_or_above_le q, ap (λ (k : ℕ). parent_of fs (suc k)) e, end_parent (omega arith))))
        (λ ne. past_run j p (omega arith) (omega arith) (step_back p j (omega arith) q))
        (eq_or_ne end j))
        (cases a)

    -- who is before i + 1 and above a later record is above i + 1
    above_here : (m p : ℕ) → suc i ≤ m → m ≤ length fs → p ≤ i → AtOrAbove fs p m → AtOrAbove fs p (suc i)
    above_here zero p h l b a = absurd (omega arith)
    above_here (suc j) p h l b a =
        ⊎_elim (λ (e : suc j ≡ suc i). subst (AtOrAbove fs p) e a)
        (λ ne. ⊎_elim (λ (e : p ≡ suc j). absurd (omega arith))
        (λ q. above_here j p (omega arith) (omega arith) b (step_back p j (omega arith) q)) (cases a))
        (eq_or_ne (suc j) (suc i))

-- ---- a bridge's numbers

module _ (first : ℕ) (fs : List Function) (lawful : Lawful fs) where
  bus_is : (k : ℕ) → bus_number first fs k ≡ first + (bridges (take k fs) - over fs k)
  unfolding bus_number
  bus_is k = refl

  module _ (i : ℕ) (f : Function) (b : BridgeAt fs i f) where
    abbrev end_here : ℕ
    end_here = end fs lawful i

    inside : suc i ≤ length fs
    inside = omega (arith, length-drop i fs, ap length b.stands)

    own : own_spare f ≡ f.spare_buses
    own = let e = b.is_bridge_lem in rw e

    earlier : f.parent ≤ i
    earlier = omega (arith, parent_at i fs f (drop (suc i) fs) b.stands, parent_before lawful i)

    subordinate_is : subordinate_of first fs (suc i) ≡ first + (bridges (take end_here fs) - over fs f.parent)
    unfolding subordinate_of last_below
    subordinate_is =
        ap (λ (p : ℕ). first + (bridges (take end_here fs) - over fs p)) (parent_at i fs f (drop (suc i) fs) b.stands)

    over_here : over fs (suc i) ≡ over fs f.parent + f.spare_buses
    over_here = over_record fs i f (drop (suc i) fs) b.stands earlier ∙ ap (λ (n : ℕ). over fs f.parent + n) own

    -- what is taken up to here covers the spares to come
    over_covered : over fs (suc i) ≤ bridges (take (suc i) fs)
    over_covered = over_le first fs lawful (suc i) inside

    taken_to_end : bridges (take (suc i) fs) ≤ bridges (take end_here fs)
    taken_to_end = bridges_take_mono (suc i) end_here fs (omega arith)

    -- a record of the run, or the bridge itself: its number comes before the spares
    number_before : (k : ℕ) → suc i ≤ k → k ≤ end_here → bus_number first fs k + f.spare_buses ≤ subordinate_of first fs (suc i)
    number_before k l m =
        let most : end_here ≤ length fs = end_le fs lawful i inside in
        omega (
          arith,
          bus_is k,
          subordinate_is,
          over_here,
          over_covered,
          taken_to_end,
          bridges_take_mono k end_here fs m,
          over_le first fs lawful k (omega arith),
          over_grows fs lawful (below_in_run fs lawful i (suc k) k (omega arith) l m) (omega arith),
        )

    -- past the run: of its parent fewer spares are to come than numbers were taken since
    taken_since : (n j : ℕ) → j < n → end_here ≤ j → j < length fs
        → bridges (take end_here fs) + over fs (parent_of fs (suc j)) ≤ bridges (take j fs) + over fs f.parent
    taken_since zero j h l m = absurd (omega arith)
    taken_since (suc n) j h l m =
        ⊎_elim (λ (le : parent_of fs (suc j) ≤ i). from_above le)
        (λ lt. from_later (parent_of fs (suc j)) refl lt (λ k. taken_since n k))
        (⊎_elim (λ (e : end_here ≡ j). inl (subst (λ (k : ℕ). parent_of fs (suc k) ≤ i) e (end_parent fs lawful i (omega arith))))
        (λ ne.
        let p = parent_of fs (suc j) in
        past_run fs lawful i j p (omega arith) (omega arith) (step_back fs lawful p j m (at refl)))
        (eq_or_ne end_here j))
      where
        from_above : parent_of fs (suc j) ≤ i
            → bridges (take end_here fs) + over fs (parent_of fs (suc j)) ≤ bridges (take j fs) + over fs f.parent
        from_above le =
            let p = parent_of fs (suc j) in
            let up = above_here fs lawful i j p (omega arith) (omega arith) le (step_back fs lawful p j m (at refl)) in
            let grown : over fs p ≤ over fs (parent_of fs (suc i)) =
            ⊎_elim (λ (e : p ≡ suc i). absurd (omega arith))
            (λ q. over_grows fs lawful q (omega (arith, parent_le fs lawful (suc i), inside))) (cases fs lawful up) in
            omega (
              arith,
              grown,
              ap (over fs) (parent_at i fs f (drop (suc i) fs) b.stands),
              bridges_take_mono end_here j fs l,
            )

        from_later : (p : ℕ) → parent_of fs (suc j) ≡ p → end_here < p
            → ((k : ℕ) → k < n → end_here ≤ k → k < length fs
            → bridges (take end_here fs) + over fs (parent_of fs (suc k)) ≤ bridges (take k fs) + over fs f.parent)
            → bridges (take end_here fs) + over fs (parent_of fs (suc j)) ≤ bridges (take j fs) + over fs f.parent
        from_later zero e lt before = absurd (omega arith)
        from_later (suc k) e lt before =
            let up : suc k ≤ j = omega (arith, e, parent_before lawful j) in
            let g = get_or fs k no_function in
            let stands : IsAt fs k g = at_index fs lawful k (omega arith) in
            omega (
              arith,
              ap (over fs) e,
              before k (omega arith) (omega arith) (omega arith),
              over_record fs k g (drop (suc k) fs) stands (parent_before lawful k),
              bridges_take_suc k fs g (drop (suc k) fs) stands,
              weight_own g,
              bridges_take_mono (suc k) j fs up,
            )

    number_past : (j : ℕ) (g : Function) → BridgeAt fs j g → end_here ≤ j → subordinate_of first fs (suc i) < bus_number first fs (suc j)
    number_past j g c l =
        let there : j < length fs = omega (arith, length-drop j fs, ap length c.stands) in
        let p = parent_at j fs g (drop (suc j) fs) c.stands in
        omega (
          arith,
          subordinate_is,
          bus_is (suc j),
          taken_since (suc j) j (omega arith) l there,
          ap (over fs) p,
          over_record fs j g (drop (suc j) fs) c.stands (omega (arith, p, parent_before lawful j)),
          bridges_take_suc j fs g (drop (suc j) fs) c.stands,
          weight_bridge g c.is_bridge_lem,
          (spares_fit first fs lawful j g (drop (suc j) fs) c.stands).1,
        )

    no_bridge_there : (j : ℕ) (g : Function) → BridgeAt fs j g
        → (bus_number first fs (suc j) + f.spare_buses ≤ subordinate_of first fs (suc i))
        ⊎ (subordinate_of first fs (suc i) < bus_number first fs (suc j))
    no_bridge_there j g c =
        ⊎_elim (λ (l : suc i ≤ suc j).
        ⊎_elim (λ (m : suc j ≤ end_here). inl (number_before (suc j) l m)) (λ m. inr (number_past j g c (omega arith)))
        (le_or_lt (suc j) end_here))
        (λ (l : suc j < suc i).
        let rises : Rises first fs (suc i) = bridge_rises first fs lawful i f (drop (suc i) fs) b.stands b.is_bridge_lem in
        inl (omega (arith, rises (suc j) l, number_before (suc i) (omega arith) (omega arith))))
        (le_or_lt (suc i) (suc j))

    -- who is below it stands in its run
    in_run : (j : ℕ) → j < length fs → AtOrAbove fs (suc i) (suc j) → suc j ≤ end_here
    in_run j l a =
        ⊎_elim (λ m. m)
        (λ m. absurd (⊎_elim (λ (x : suc i ≤ i). omega arith) (λ (x : end_here < suc i). omega arith)
        (past_run fs lawful i (suc j) (suc i) m (omega arith) a)))
        (le_or_lt (suc j) end_here)

    -- a child's run ends in its own
    child_end : (j : ℕ) (g : Function) → BridgeAt fs j g → g.parent ≡ suc i → end fs lawful j ≤ end_here
    child_end j g c e =
        let there : j < length fs = omega (arith, length-drop j fs, ap length c.stands) in
        let p = parent_at j fs g (drop (suc j) fs) c.stands in
        let up = parent_before lawful j in
        let mine : suc j ≤ end_here = in_run j there (above (at (sym e ∙ sym p))) in
        let most = end_le fs lawful j there in
        ⊎_elim (λ m. m)
        (λ m. absurd (omega (
          arith,
          e,
          p,
          up,
          end_parent fs lawful i (omega (arith, most)),
          run_parent fs lawful j end_here mine m,
        )))
        (le_or_lt (end fs lawful j) end_here)

  pub spares_last : (i : ℕ) (f : Function) → BridgeAt fs i f → SparesLast first fs i f
  spares_last i f b =
      record {
        after_all_below = subordinate_after first fs lawful i f b.stands b.is_bridge_lem;
        children_before = λ j g c e.
            omega (
              arith,
              subordinate_is i f b,
              subordinate_is j g c,
              ap (over fs) e,
              over_here i f b,
              over_covered i f b,
              bridges_take_mono (suc i) (end fs lawful j) fs (omega (arith, e, earlier j g c)),
              bridges_take_mono (end fs lawful j) (end fs lawful i) fs (child_end i f b j g c e),
            );
        no_bridge_there = no_bridge_there i f b;
      }

  -- ---- without spares

  module _ (none : NoSpares fs) (i : ℕ) (f : Function) (b : BridgeAt fs i f) where
    -- the last bridge among the records up to m
    record LastBridge (m : ℕ) : Type 0 where
      index : ℕ
      function : Function
      bridge : BridgeAt fs index function
      from_here : i ≤ index
      before : index < m
      all_taken : bridges (take (suc index) fs) ≡ bridges (take m fs)

    last_bridge : (m : ℕ) → suc i ≤ m → m ≤ length fs → LastBridge m
    last_bridge zero h l = absurd (omega arith)
    last_bridge (suc j) h l =
        ⊎_elim
        (λ (e : i ≡ j).
        record {
          index = i;
          function = f;
          bridge = b;
          from_here = omega arith;
          before = omega arith;
          all_taken = ap (λ (k : ℕ). bridges (take (suc k) fs)) e;
        })
        (λ ne. ⊎_elim here (λ leaf. later leaf (last_bridge j (omega arith) (omega arith))) (true_or_false g.bridge))
        (eq_or_ne i j)
      where
        g : Function
        g = get_or fs j no_function

        stands : IsAt fs j g
        stands = at_index fs lawful j (omega arith)

        here : g.bridge ≡ true → LastBridge (suc j)
        here is =
            record {
              index = j;
              function = g;
              bridge = record { stands = stands; is_bridge_lem = is };
              from_here = omega arith;
              before = omega arith;
              all_taken = refl;
            }

        later : g.bridge ≡ false → LastBridge j → LastBridge (suc j)
        later leaf x =
            let weighs : weight g ≡ 0 = rw leaf in
            record {
              index = x.index;
              function = x.function;
              bridge = x.bridge;
              from_here = x.from_here;
              before = omega (arith, x.before);
              all_taken = x.all_taken ∙ omega (arith, bridges_take_suc j fs g (drop (suc j) fs) stands, weighs);
            }

    pub greatest_below : GreatestBelow first fs (suc i) (subordinate_of first fs (suc i))
    unfolding last_below
    greatest_below =
        let most = end_le fs lawful i (inside i f b) in
        let x = last_bridge (end fs lawful i) (omega arith) most in
        record {
          at_most = λ j g c a.
              let there : j < length fs = omega (arith, length-drop j fs, ap length c.stands) in
              omega (arith, number_before i f b (suc j) (at_or_above_le fs lawful a) (in_run i f b j there a));
          reached = record {
            index = x.index;
            function = x.function;
            bridge = x.bridge;
            at_or_below =
                below_in_run fs lawful i (suc (suc x.index)) (suc x.index) (omega arith) (omega (arith, x.from_here))
                (omega (arith, x.before));
            number_is =
                bus_number_counted fs none first (suc x.index)
                ∙ ap (λ (n : ℕ). first + n) x.all_taken
                ∙ sym (subordinate_counted fs none first (suc i));
          };
        }
