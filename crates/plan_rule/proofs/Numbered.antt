-- The bus numbers of a lawful board: each bridge's bus, secondary and subordinate rise in that order, its range lies in its parent's and
-- apart from its siblings', and different parents have different bus numbers. Assumes nothing.
use Rattle.std.specs.Prelude.{◌≡◌, ◌⊎◌, Bool, cond, get_or, take, drop}
use Rattle.std.proofs.Math.Path.{refl, sym, ap, ap₂, subst}
use Rattle.std.proofs.Common.{◌∙◌, drop-cons}
use Rattle.std.proofs.Math.Logic.{inl, inr, ⊎_elim}
use Rattle.std.proofs.Math.Bool.{true, false, true≢false}
use mathlib.Core.List.{List, [], ◌∷◌, cons≢nil, head-eq_of_cons-eq}
use Prim.Native.Nat.{ℕ, zero, suc, ◌+◌, ◌-◌, ◌≤◌, ◌<◌}
use native.Mathlib.Omega.{arith}
use Rattle.std.proofs.Math.Dec.{leb}
use Rattle.std.proofs.Math.ListN.{length}
use borrow.Author.Tests.{eqb-true, leb-true, leb-false}
use Rattle.arith.specs.Order.{le_or_lt, eq_or_ne}
use Rattle.lists.specs.Lists.{All, Some, Pairwise, front}
use Rattle.lists.specs.ListLaws.{all_imp, all_imp₂, all_and, drop_suc}
use Rattle.lists.specs.KeepLaws.{front_yes, front_no, take_front}
use Rattle.plan_rule.specs.Records.{Function, DepthFirst, parents_after, only_host, Lawful, run}
use Rattle.plan_rule.specs.Preorder.{no_function}
use Rattle.plan_rule.specs.Pieces.{pieces}
use Rattle.plan_rule.proofs.PieceLaws.{pieces_parent}
use Rattle.plan_rule.proofs.RecordLaws.{parent_cases, false_of_not, IsAt, ordered_from}
use Rattle.plan_rule.specs.Sizing.{laid_from, bus_laid}
use Rattle.plan_rule.specs.Numbering.{own_spare, bridges, over, bus_number, last_below, subordinate_of, Numbered}
use Rattle.plan_rule.specs.Numbering.{numbered_from, numbered}
use Rattle.plan_rule.proofs.NumberingLaws.{bridges_take_suc, bridges_split, bridges_take_mono, weight_own, weight_bridge, over_host}
use Rattle.plan_rule.proofs.NumberingLaws.{bridges_take_add, over_record}

-- A bridge's numbers, none above `most`
pub record Range (most : ℕ) (x : Numbered) : Type 0 where
  pub bus_first : x.bus < x.secondary
  pub not_empty : x.secondary ≤ x.subordinate
  pub spares_in_lem : x.secondary + x.spares ≤ x.subordinate
  pub in_host : x.subordinate ≤ most

-- y is the bridge just above x
pub record Under (x y : Numbered) : Type 0 where
  pub above : y.number ≡ x.parent
  pub bridge : y.bridge ≡ true
  pub bus_is : x.bus ≡ y.secondary
  pub range_in_lem : x.bridge ≡ true → x.subordinate ≤ y.subordinate
  pub spares_after : x.bridge ≡ true → x.subordinate + y.spares ≤ y.subordinate

pub bus_number_host : (first : ℕ) (fs : List Function) → bus_number first fs 0 ≡ first
unfolding bus_number bridges
bus_number_host first fs = omega arith

-- The bus below record b has a number above that of every earlier record's
abbrev pub Rises : ℕ → List Function → ℕ → Type 0
Rises first fs b = (a : ℕ) → a < b → bus_number first fs a < bus_number first fs b

pub rises_unique : (first : ℕ) (fs : List Function) (a b : ℕ) → Rises first fs a → Rises first fs b
    → bus_number first fs a ≡ bus_number first fs b → a ≡ b
rises_unique first fs a b h g e =
    ⊎_elim
    (λ i. i)
    (λ n.
    ⊎_elim
    (λ (l : a ≤ b). let m : a < b = omega arith in absurd (omega (arith, g a m)))
    (λ (l : b < a). absurd (omega (arith, h b l)))
    (le_or_lt a b))
    (eq_or_ne a b)

abbrev pub SiblingsApart : Numbered → Numbered → Type 0
SiblingsApart x y = x.bridge ≡ true → y.bridge ≡ true → x.parent ≡ y.parent → x.subordinate < y.secondary

pub record WellNumbered (first : ℕ) (fs : List Function) : Type 0 where
  pub ranged : All (λ x. x.bridge ≡ true → Range (first + bridges fs) x) (numbered first fs)
  pub nested : All (λ x. ((x.parent ≡ 0) × (x.bus ≡ first)) ⊎ Some (Under x) (numbered first fs)) (numbered first fs)
  pub apart : Pairwise SiblingsApart (numbered first fs)
  pub rising : Pairwise (λ x y. y.bridge ≡ true → x.secondary < y.secondary) (numbered first fs)
  pub one_parent : All (λ x. All (λ y. x.bus ≡ y.bus → x.parent ≡ y.parent) (numbered first fs)) (numbered first fs)

-- Suffixes: record i + 1 of the board is the first of `fs`
at_index : (i : ℕ) (l : List Function) (f : Function) (fs : List Function) → drop i l ≡ f ∷ fs → get_or l i no_function ≡ f
at_index zero [] f fs e = absurd (cons≢nil (sym e))
at_index zero (g ∷ l) f fs e = head-eq_of_cons-eq e
at_index (suc i) [] f fs e = absurd (cons≢nil (sym e))
at_index (suc i) (g ∷ l) f fs e = at_index i l f fs e

past_end : (i j : ℕ) (l : List Function) → drop i l ≡ [] → i ≤ j → drop j l ≡ []
past_end zero zero [] e h = refl
past_end zero (suc j) [] e h = refl
past_end (suc i) zero [] e h = refl
past_end (suc i) (suc j) [] e h = refl
past_end zero j (x ∷ l) e h = absurd (cons≢nil e)
past_end (suc i) zero (x ∷ l) e h = absurd (omega arith)
past_end (suc i) (suc j) (x ∷ l) e h = past_end i j l e (omega arith)

module _ (first : ℕ) (all : List Function) where
  abbrev B : ℕ → ℕ
  B = bus_number first all

  abbrev T : ℕ → ℕ
  T i = bridges (take i all)

  abbrev A : ℕ → ℕ
  A = over all

  abbrev rows : ℕ → List Function → List Numbered
  rows i fs = numbered_from first all (suc i) fs

  -- the last record of the run below b, where i records went before and fs are left
  abbrev end_of : ℕ → ℕ → List Function → ℕ
  end_of b i fs = i + length (run b fs)

  bus_is : (k : ℕ) → B k ≡ first + (T k - A k)
  unfolding bus_number
  bus_is k = refl

  subordinate_is : (i : ℕ) (f : Function) (fs : List Function) → drop i all ≡ f ∷ fs
      → subordinate_of first all (suc i) ≡ first + (T (end_of (suc i) (suc i) fs) - A f.parent)
  unfolding subordinate_of last_below
  subordinate_is i f fs e =
      ap₂ (λ (l : List Function) (g : Function). first + (T (suc i + length (run (suc i) l)) - A g.parent)) (drop_suc i all f fs e)
      (at_index i all f fs e)

  -- Those that may be parents: their spares to come fit in what was taken, and grow along them
  pub record Chain (ok : ℕ → Bool) (i : ℕ) : Type 0 where
    pub earlier : (j : ℕ) → ok j ≡ true → j ≤ i
    pub fits : (j : ℕ) → ok j ≡ true → A j ≤ T j
    pub grows : (j m : ℕ) → ok j ≡ true → ok m ≡ true → j ≤ m → A j ≤ A m
    pub last_fits : A i ≤ T i
    pub under_last : (j : ℕ) → ok j ≡ true → A j ≤ A i

  chain_start : Chain only_host 0
  chain_start =
      record {
        earlier = λ j e. omega (arith, eqb-true j 0 e);
        fits = λ j e. subst (λ (k : ℕ). A k ≤ T k) (sym (eqb-true j 0 e)) (omega (arith, over_host all));
        grows = λ j m e g h. subst (λ (k : ℕ). A k ≤ A m) (sym (eqb-true j 0 e)) (omega (arith, over_host all));
        last_fits = omega (arith, over_host all);
        under_last = λ j e. subst (λ (k : ℕ). A k ≤ A 0) (sym (eqb-true j 0 e)) (omega arith);
      }

  module _ (ok : ℕ → Bool) (i : ℕ) (f : Function) (fs : List Function) (e : drop i all ≡ f ∷ fs) (up : ok f.parent ≡ true)
      (c : Chain ok i) where
    at_record : A (suc i) ≡ A f.parent + own_spare f
    at_record = over_record all i f fs e (c.earlier f.parent up)

    parent_fits : A f.parent ≤ T i
    parent_fits = omega (arith, c.fits f.parent up, bridges_take_mono f.parent i all (c.earlier f.parent up))

    new_fits : A (suc i) ≤ T (suc i)
    new_fits = omega (arith, parent_fits, at_record, bridges_take_suc i all f fs e, weight_own f)

    chain_step : Chain (parents_after ok (suc i) f) (suc i)
    chain_step = record { earlier = earlier'; fits = fits'; grows = grows'; last_fits = new_fits; under_last = under' }
      where
        earlier' : (j : ℕ) → parents_after ok (suc i) f j ≡ true → j ≤ suc i
        earlier' j g = ⊎_elim (λ t. omega (arith, t.0)) (λ t. omega (arith, c.earlier j t.0)) (parent_cases ok (suc i) f j g)

        fits' : (j : ℕ) → parents_after ok (suc i) f j ≡ true → A j ≤ T j
        fits' j g = ⊎_elim (λ t. subst (λ (k : ℕ). A k ≤ T k) (sym t.0) new_fits) (λ t. c.fits j t.0) (parent_cases ok (suc i) f j g)

        under' : (j : ℕ) → parents_after ok (suc i) f j ≡ true → A j ≤ A (suc i)
        under' j g =
            ⊎_elim (λ t. subst (λ (k : ℕ). A k ≤ A (suc i)) (sym t.0) (omega arith))
            (λ t. omega (arith, c.grows j f.parent t.0 up t.1, at_record)) (parent_cases ok (suc i) f j g)

        grows' : (j m : ℕ) → parents_after ok (suc i) f j ≡ true → parents_after ok (suc i) f m ≡ true → j ≤ m → A j ≤ A m
        grows' j m g h l =
            ⊎_elim (λ t. subst (λ (k : ℕ). A j ≤ A k) (sym t.0) (under' j g))
            (λ t. ⊎_elim (λ s. absurd (omega (arith, s.0, c.earlier m t.0, l))) (λ s. c.grows j m s.0 t.0 l)
            (parent_cases ok (suc i) f j g))
            (parent_cases ok (suc i) f m h)

    -- the next number comes after the spares of the bridges that end here
    bus_step : f.bridge ≡ true → B (suc i) ≡ suc (first + (T i - A f.parent))
    bus_step b = bus_is (suc i) ∙ omega (arith, parent_fits, at_record, bridges_take_suc i all f fs e, weight_bridge f b)

    bus_mono : B i ≤ first + (T i - A f.parent)
    bus_mono = omega (arith, bus_is i, parent_fits, c.last_fits, c.under_last f.parent up)

    bus_on : B i ≤ B (suc i)
    bus_on = omega (arith, bus_is (suc i), bus_mono, at_record, bridges_take_suc i all f fs e, weight_own f, parent_fits)

    bus_first : f.bridge ≡ true → B f.parent < B (suc i)
    bus_first b =
        omega (
          arith,
          bus_is f.parent,
          bus_step b,
          bridges_take_mono f.parent i all (c.earlier f.parent up),
          c.fits f.parent up,
        )

    not_empty : B (suc i) ≤ subordinate_of first all (suc i)
    not_empty =
        omega (
          arith,
          bus_is (suc i),
          subordinate_is i f fs e,
          new_fits,
          at_record,
          bridges_take_mono (suc i) (end_of (suc i) (suc i) fs) all
              (omega arith),
        )

    spares_in_lem : B (suc i) + own_spare f ≤ subordinate_of first all (suc i)
    spares_in_lem =
        omega (
          arith,
          bus_is (suc i),
          subordinate_is i f fs e,
          new_fits,
          at_record,
          bridges_take_mono (suc i) (end_of (suc i) (suc i) fs) all (omega arith),
        )

    in_host : subordinate_of first all (suc i) ≤ first + bridges all
    in_host = omega (arith, subordinate_is i f fs e, bridges_split (end_of (suc i) (suc i) fs) all)

  -- Up to here each record's number has a greater one after it
  abbrev Rising : ℕ → Type 0
  Rising i = (a b : ℕ) → a ≤ b → b ≤ i → B a ≤ B b

  rising_step : (i : ℕ) → Rising i → B i ≤ B (suc i) → Rising (suc i)
  rising_step i h s a b l m =
      ⊎_elim
      (λ (e : b ≡ suc i).
      ⊎_elim (λ (g : a ≡ suc i). subst (λ (k : ℕ). B a ≤ B k) (g ∙ sym e) (omega arith))
      (λ n. let le : a ≤ i = omega arith in subst (λ (k : ℕ). B a ≤ B k) (sym e) (omega (arith, h a i le (omega arith), s)))
      (eq_or_ne a (suc i)))
      (λ n. h a b l (omega arith))
      (eq_or_ne b (suc i))

  -- every bridge's number is above every earlier record's
  bridges_rise : (ok : ℕ → Bool) (i : ℕ) (fs : List Function) → drop i all ≡ fs → DepthFirst ok (suc i) fs → Chain ok i → Rising i
      → (j : ℕ) (g : Function) (gs : List Function) → drop j all ≡ g ∷ gs → i ≤ j → g.bridge ≡ true → Rises first all (suc j)
  bridges_rise ok i [] e d c r j g gs q l b = absurd (cons≢nil (sym q ∙ past_end i j all e l))
  bridges_rise ok i (f ∷ fs) e d c r j g gs q l b = go (eq_or_ne i j)
      (bridges_rise (parents_after ok (suc i) f) (suc i) fs (drop_suc i all f fs e) d.1 (chain_step ok i f fs e d.0 c)
      (rising_step i r (bus_on ok i f fs e d.0 c)) j g gs q)
    where
      here : (x : ℕ) → x ≡ j → drop x all ≡ f ∷ fs → f ≡ g
      here x same h = head-eq_of_cons-eq (sym h ∙ ap (λ (k : ℕ). drop k all) same ∙ q)

      go : (i ≡ j) ⊎ (i ≡ j → ⊥) → (suc i ≤ j → g.bridge ≡ true → Rises first all (suc j)) → Rises first all (suc j)
      go (inl same) later =
          subst (λ (k : ℕ). Rises first all (suc k)) same
          (λ a m. let le : a ≤ i = omega arith in
          let bridge : f.bridge ≡ true = ap (λ (h : Function). h.bridge) (here i same e) ∙ b in
          omega (arith, r a i le (omega arith), bus_step ok i f fs e d.0 c bridge, bus_mono ok i f fs e d.0 c))
      go (inr n) later = later (omega arith) b

  -- the spares to come, of a record and of its parent, fit in the numbers taken
  fits_from : (ok : ℕ → Bool) (i : ℕ) (fs : List Function) → drop i all ≡ fs → DepthFirst ok (suc i) fs → Chain ok i
      → (j : ℕ) (g : Function) (gs : List Function) → drop j all ≡ g ∷ gs → i ≤ j → (A (suc j) ≤ T (suc j)) × (A g.parent ≤ T j)
  fits_from ok i [] e d c j g gs q l = absurd (cons≢nil (sym q ∙ past_end i j all e l))
  fits_from ok i (f ∷ fs) e d c j g gs q l = go (eq_or_ne i j)
      (fits_from (parents_after ok (suc i) f) (suc i) fs (drop_suc i all f fs e) d.1 (chain_step ok i f fs e d.0 c) j g gs q)
    where
      here : (x : ℕ) → x ≡ j → drop x all ≡ f ∷ fs → f ≡ g
      here x same h = head-eq_of_cons-eq (sym h ∙ ap (λ (k : ℕ). drop k all) same ∙ q)

      go : (i ≡ j) ⊎ (i ≡ j → ⊥) → (suc i ≤ j → (A (suc j) ≤ T (suc j)) × (A g.parent ≤ T j))
          → (A (suc j) ≤ T (suc j)) × (A g.parent ≤ T j)
      go (inl same) later = (
        subst (λ (k : ℕ). A (suc k) ≤ T (suc k)) same (new_fits ok i f fs e d.0 c),
        subst (λ (k : ℕ). A g.parent ≤ T k) same
            (subst (λ (h : Function). A h.parent ≤ T i) (here i same e) (parent_fits ok i f fs e d.0 c)),
      )
      go (inr n) later = later (omega arith)

  -- ## Row by row

  rows_parent : (P : ℕ → Type 0) (i : ℕ) (fs : List Function) → All (λ f. P f.parent) fs → All (λ x. P x.parent) (rows i fs)
  unfolding numbered_from
  rows_parent P i [] h = tt
  rows_parent P i (f ∷ fs) h = (h.0, rows_parent P (suc i) fs h.1)

  rows_bus : (i : ℕ) (fs : List Function) → All (λ x. x.bus ≡ B x.parent) (rows i fs)
  unfolding numbered_from
  rows_bus i [] = tt
  rows_bus i (f ∷ fs) = (refl, rows_bus (suc i) fs)

  range_of_rows : (ok : ℕ → Bool) (i : ℕ) (fs : List Function) → drop i all ≡ fs → DepthFirst ok (suc i) fs → Chain ok i
      → All (λ x. x.bridge ≡ true → Range (first + bridges all) x) (rows i fs)
  unfolding numbered_from
  range_of_rows ok i [] e d c = tt
  range_of_rows ok i (f ∷ fs) e d c = (
    λ b. record {
      bus_first = bus_first ok i f fs e d.0 c b;
      not_empty = not_empty ok i f fs e d.0 c;
      spares_in_lem = spares_in_lem ok i f fs e d.0 c;
      in_host = in_host ok i f fs e d.0 c;
    },
    range_of_rows (parents_after ok (suc i) f) (suc i) fs (drop_suc i all f fs e) d.1 (chain_step ok i f fs e d.0 c),
  )

  later_rows : (ok : ℕ → Bool) (i : ℕ) (fs : List Function) → drop i all ≡ fs → DepthFirst ok (suc i) fs → Chain ok i
      → All (λ y. y.bridge ≡ true → B i < y.secondary) (rows i fs)
  unfolding numbered_from
  later_rows ok i [] e d c = tt
  later_rows ok i (f ∷ fs) e d c = (
    λ b. omega (arith, bus_step ok i f fs e d.0 c b, bus_mono ok i f fs e d.0 c),
    all_imp _ _ (rows (suc i) fs)
        (later_rows (parents_after ok (suc i) f) (suc i) fs (drop_suc i all f fs e) d.1 (chain_step ok i f fs e d.0 c))
        (λ y g b. omega (arith, g b, bus_on ok i f fs e d.0 c)),
  )

  rising_rows : (ok : ℕ → Bool) (i : ℕ) (fs : List Function) → drop i all ≡ fs → DepthFirst ok (suc i) fs → Chain ok i
      → Pairwise (λ x y. y.bridge ≡ true → x.secondary < y.secondary) (rows i fs)
  unfolding numbered_from
  rising_rows ok i [] e d c = tt
  rising_rows ok i (f ∷ fs) e d c =
      let n = drop_suc i all f fs e in
      let next = chain_step ok i f fs e d.0 c in
      (later_rows (parents_after ok (suc i) f) (suc i) fs n d.1 next, rising_rows (parents_after ok (suc i) f) (suc i) fs n d.1 next)

  PastRun : ℕ → ℕ → Numbered → Type 0
  PastRun b m y = y.parent < b → y.bridge ≡ true → first + (T m - A y.parent) < y.secondary

  after_rows : (b m i : ℕ) (ok : ℕ → Bool) (fs : List Function) → drop i all ≡ fs → DepthFirst ok (suc i) fs → Chain ok i → m ≤ i
      → All (PastRun b m) (rows i fs)
  unfolding numbered_from PastRun
  after_rows b m i ok [] e d c l = tt
  after_rows b m i ok (f ∷ fs) e d c l = (
    λ p x. omega (arith, bus_step ok i f fs e d.0 c x, bridges_take_mono m i all l),
    after_rows b m (suc i) (parents_after ok (suc i) f) fs (drop_suc i all f fs e) d.1 (chain_step ok i f fs e d.0 c) (omega arith),
  )

  end_under : (b i : ℕ) (f : Function) (fs : List Function) → leb b f.parent ≡ true → end_of b i (f ∷ fs) ≡ end_of b (suc i) fs
  end_under b i f fs g = omega (arith, ap (λ (l : List Function). length l) (front_yes (λ h. leb b h.parent) f fs g))

  end_past : (b i : ℕ) (f : Function) (fs : List Function) → leb b f.parent ≡ false → end_of b i (f ∷ fs) ≡ i
  end_past b i f fs g = omega (arith, ap (λ (l : List Function). length l) (front_no (λ h. leb b h.parent) f fs g))

  past_run : (b : ℕ) (ok : ℕ → Bool) (i : ℕ) (fs : List Function) → drop i all ≡ fs → DepthFirst ok (suc i) fs → Chain ok i
      → All (PastRun b (end_of b i fs)) (rows i fs)
  unfolding numbered_from PastRun
  past_run b ok i [] e d c = tt
  past_run b ok i (f ∷ fs) e d c = go (leb b f.parent) refl (past_run b (parents_after ok (suc i) f) (suc i) fs (drop_suc i all f fs e)
      d.1 (chain_step ok i f fs e d.0 c))
    where
      go : (t : Bool) → leb b f.parent ≡ t → All (PastRun b (end_of b (suc i) fs)) (rows (suc i) fs)
          → All (PastRun b (end_of b i (f ∷ fs))) (rows i (f ∷ fs))
      go true g later = (
        λ l. absurd (omega (arith, leb-true b f.parent g)),
        subst (λ (k : ℕ). All (PastRun b k) (rows (suc i) fs)) (sym (end_under b i f fs g)) later,
      )
      go false g later =
          subst (λ (k : ℕ). All (PastRun b k) (rows i (f ∷ fs))) (sym (end_past b i f fs g))
          (after_rows b i i ok (f ∷ fs) e d c (omega arith))

  apart_rows : (ok : ℕ → Bool) (i : ℕ) (fs : List Function) → drop i all ≡ fs → DepthFirst ok (suc i) fs → Chain ok i
      → Pairwise SiblingsApart (rows i fs)
  unfolding numbered_from PastRun
  apart_rows ok i [] e d c = tt
  apart_rows ok i (f ∷ fs) e d c =
      let n = drop_suc i all f fs e in
      let next = chain_step ok i f fs e d.0 c in (
        all_imp _ _ (rows (suc i) fs) (past_run (suc i) (parents_after ok (suc i) f) (suc i) fs n d.1 next)
            (λ y h b x p. omega (arith, h (omega (arith, p, c.earlier f.parent d.0)) x, ap A p, subordinate_is i f fs e)),
        apart_rows (parents_after ok (suc i) f) (suc i) fs n d.1 next,
      )

  run_le : (b c : ℕ) → b ≤ c → (fs : List Function) → length (run c fs) ≤ length (run b fs)
  unfolding front
  run_le b c h [] = omega arith
  run_le b c h (f ∷ fs) = go (leb c f.parent) refl (leb b f.parent) refl (run_le b c h fs)
    where
      go : (s : Bool) → leb c f.parent ≡ s → (t : Bool) → leb b f.parent ≡ t → length (run c fs) ≤ length (run b fs)
          → length (cond s (f ∷ run c fs) []) ≤ length (cond t (f ∷ run b fs) [])
      go true e true g l = omega (arith, l)
      go true e false g l = absurd (omega (arith, leb-true c f.parent e, leb-false b f.parent g))
      go false e t g l = omega arith

  -- a child of b has its last number at most where b's run ends, less the spares of b and above
  Ends : ℕ → ℕ → Numbered → Type 0
  Ends b m x = x.parent ≡ b → x.subordinate ≤ first + (T m - A b)

  no_child : (b m : ℕ) (ok : ℕ → Bool) (i : ℕ) (fs : List Function) → DepthFirst ok (suc i) fs → ok b ≡ false → b ≤ i
      → All (Ends b m) (rows i fs)
  unfolding numbered_from Ends
  no_child b m ok i [] d e l = tt
  no_child b m ok i (f ∷ fs) d e l =
      (λ p. absurd (true≢false (sym d.0 ∙ ap ok p ∙ e)), no_child b m (parents_after ok (suc i) f) (suc i) fs d.1 still (omega arith))
    where
      still : parents_after ok (suc i) f b ≡ false
      still = false_of_not _ (λ g. ⊎_elim (λ t. omega (arith, t.0, l)) (λ t. true≢false (sym t.0 ∙ e)) (parent_cases ok (suc i) f b g))

  ends_by : (b : ℕ) (ok : ℕ → Bool) (i : ℕ) (fs : List Function) → drop i all ≡ fs → DepthFirst ok (suc i) fs → b ≤ i
      → All (Ends b (end_of b i fs)) (rows i fs)
  unfolding numbered_from Ends
  ends_by b ok i [] e d l = tt
  ends_by b ok i (f ∷ fs) e d l = go (leb b f.parent) refl (ends_by b (parents_after ok (suc i) f) (suc i) fs (drop_suc i all f fs e)
      d.1 (omega arith))
    where
      closed : leb b f.parent ≡ false → parents_after ok (suc i) f b ≡ false
      closed g =
          false_of_not _ (λ h. ⊎_elim (λ t. omega (arith, t.0, l)) (λ t. omega (arith, t.1, leb-false b f.parent g))
          (parent_cases ok (suc i) f b h))

      go : (t : Bool) → leb b f.parent ≡ t → All (Ends b (end_of b (suc i) fs)) (rows (suc i) fs)
          → All (Ends b (end_of b i (f ∷ fs))) (rows i (f ∷ fs))
      go true g later = (
        λ p.
            let within : end_of (suc i) (suc i) fs ≤ end_of b (suc i) fs = omega (arith, run_le b (suc i) (omega arith) fs) in
            subst (λ (k : ℕ). subordinate_of first all (suc i) ≤ first + (T k - A b)) (sym (end_under b i f fs g))
            (omega (arith, subordinate_is i f fs e, ap A p, bridges_take_mono (end_of (suc i) (suc i) fs) (end_of b (suc i) fs) all within)),
        subst (λ (k : ℕ). All (Ends b k) (rows (suc i) fs)) (sym (end_under b i f fs g)) later,
      )
      go false g later = (
        λ p. absurd (omega (arith, p, leb-false b f.parent g)),
        no_child b (end_of b i (f ∷ fs)) (parents_after ok (suc i) f) (suc i) fs d.1 (closed g) (omega arith),
      )

  -- Every record hangs below an earlier record, or below a bridge of the list
  nested_rows : (ok : ℕ → Bool) (i : ℕ) (fs : List Function) → drop i all ≡ fs → DepthFirst ok (suc i) fs → Chain ok i
      → All (λ x. ((x.parent < suc i) × (ok x.parent ≡ true)) ⊎ Some (Under x) (rows i fs)) (rows i fs)
  unfolding numbered_from Ends
  nested_rows ok i [] e d c = tt
  nested_rows ok i (f ∷ fs) e d c =
      let n = drop_suc i all f fs e in
      let later = nested_rows (parents_after ok (suc i) f) (suc i) fs n d.1 (chain_step ok i f fs e d.0 c) in (
        inl (omega (arith, c.earlier f.parent d.0), d.0),
        all_imp₂ _ _ _ (rows (suc i) fs) later
            (all_and _ _ (rows (suc i) fs) (rows_bus (suc i) fs)
            (ends_by (suc i) (parents_after ok (suc i) f) (suc i) fs n d.1 (omega arith)))
            each,
      )
    where
      each : (x : Numbered) → ((x.parent < suc (suc i)) × (parents_after ok (suc i) f x.parent ≡ true)) ⊎ Some (Under x)
          (rows (suc i) fs)
          → (x.bus ≡ B x.parent) × Ends (suc i) (end_of (suc i) (suc i) fs) x
          → ((x.parent < suc i) × (ok x.parent ≡ true)) ⊎ Some (Under x) (rows i (f ∷ fs))
      each x (inr s) k = inr (inr s)
      each x (inl (m, g)) k =
          ⊎_elim
          (λ t. inr (inl (record {
            above = sym t.0;
            bridge = t.1;
            bus_is = k.0 ∙ ap B t.0;
            range_in_lem = λ b. omega (arith, k.1 t.0, subordinate_is i f fs e, at_record ok i f fs e d.0 c);
            spares_after = λ b.
                omega (
                  arith,
                  k.1 t.0,
                  subordinate_is i f fs e,
                  at_record ok i f fs e d.0 c,
                  new_fits ok i f fs e d.0 c,
                  bridges_take_mono (suc i) (end_of (suc i) (suc i) fs) all (omega arith),
                );
          })))
          (λ t. inl (omega (arith, c.earlier x.parent t.0), t.0))
          (parent_cases ok (suc i) f x.parent g)

  -- The number of every record's own bus rises
  parents_rise : (ok : ℕ → Bool) (i : ℕ) (fs : List Function) → drop i all ≡ fs → DepthFirst ok (suc i) fs
      → ((j : ℕ) (g : Function) (gs : List Function) → drop j all ≡ g ∷ gs → g.bridge ≡ true → Rises first all (suc j))
      → ((j : ℕ) → ok j ≡ true → Rises first all j) → All (λ f. Rises first all f.parent) fs
  parents_rise ok i [] e d up h = tt
  parents_rise ok i (f ∷ fs) e d up h =
      (h f.parent d.0, parents_rise (parents_after ok (suc i) f) (suc i) fs (drop_suc i all f fs e) d.1 up after)
    where
      after : (j : ℕ) → parents_after ok (suc i) f j ≡ true → Rises first all j
      after j g =
          ⊎_elim (λ t. subst (Rises first all) (sym t.0) (up i f fs e t.1)) (λ t. h j t.0) (parent_cases ok (suc i) f j g)

module _ (first : ℕ) (fs : List Function) (lawful : Lawful fs) where
  -- The number of a bridge's bus rises
  pub bridge_rises : (i : ℕ) (f : Function) (gs : List Function) → drop i fs ≡ f ∷ gs → f.bridge ≡ true → Rises first fs (suc i)
  bridge_rises i f gs e b =
      bridges_rise first fs only_host 0 fs refl lawful.ordered (chain_start first fs)
      (λ a c l m. let za : a ≡ 0 = omega arith in let zc : c ≡ 0 = omega arith in rw (za, zc) (omega arith)) i f gs e (omega arith) b

  -- The spares to come fit in the numbers taken
  pub spares_fit : (i : ℕ) (f : Function) (gs : List Function) → drop i fs ≡ f ∷ gs
      → (over fs (suc i) ≤ bridges (take (suc i) fs)) × (over fs f.parent ≤ bridges (take i fs))
  spares_fit i f gs e = fits_from first fs only_host 0 fs refl lawful.ordered (chain_start first fs) i f gs e (omega arith)

  pub over_le : (k : ℕ) → k ≤ length fs → over fs k ≤ bridges (take k fs)
  over_le zero l = omega (arith, over_host fs)
  over_le (suc i) l = (spares_fit i (get_or fs i no_function) (drop (suc i) fs) (drop-cons fs i no_function l)).0

  pub every_parent_rises : All (λ f. Rises first fs f.parent) fs
  every_parent_rises = parents_rise first fs only_host 0 fs refl lawful.ordered bridge_rises
      (λ j e a l. absurd (omega (arith, eqb-true j 0 e)))

  -- A bridge's subordinate, by where the walk that sizes its bus ends
  pub subordinate_laid : (i : ℕ) (f : Function) → IsAt fs i f → f.bridge ≡ true
      → subordinate_of first fs (suc i) ≡ first + (bridges (take (bus_laid fs (suc i) (laid_from (suc i))).next fs) - over fs f.parent)
  unfolding bus_laid
  subordinate_laid i f e b = subordinate_is first fs i f (drop (suc i) fs) e

  -- In document 02's words: its own number, the numbers taken below it, and right after them its spares
  pub subordinate_after : (i : ℕ) (f : Function) → IsAt fs i f → f.bridge ≡ true
      → subordinate_of first fs (suc i) ≡ bus_number first fs (suc i) + bridges (run (suc i) (drop (suc i) fs)) + f.spare_buses
  subordinate_after i f e b =
      let rest = drop (suc i) fs in
      let below = run (suc i) rest in
      let own : own_spare f ≡ f.spare_buses = rw b in
      let fits = spares_fit i f rest e in
      let o = ordered_from fs lawful.ordered i in
      let d : DepthFirst o.allowed (suc i) (f ∷ rest) = subst (DepthFirst o.allowed (suc i)) e o.ordered in
      let earlier : f.parent ≤ i = omega (arith, o.bounded f.parent d.0) in
      let upto : bridges (take (suc i + length below) fs) ≡ bridges (take (suc i) fs) + bridges below =
      bridges_take_add (suc i) (length below) fs
      ∙ ap (λ (l : List Function). bridges (take (suc i) fs) + bridges l) (take_front (λ g. leb (suc i) g.parent) rest) in
      omega (
        arith,
        own,
        fits.0,
        fits.1,
        upto,
        bus_is first fs (suc i),
        subordinate_is first fs i f rest e,
        over_record fs i f rest e earlier,
      )

  pub well_numbered : WellNumbered first fs
  well_numbered =
      record {
        ranged = range_of_rows first fs only_host 0 fs refl lawful.ordered (chain_start first fs);
        nested =
            all_imp₂ _ _ _ rows₀ (nested_rows first fs only_host 0 fs refl lawful.ordered (chain_start first fs))
            (rows_bus first fs 0 fs) root;
        apart = apart_rows first fs only_host 0 fs refl lawful.ordered (chain_start first fs);
        rising = rising_rows first fs only_host 0 fs refl lawful.ordered (chain_start first fs);
        one_parent =
            all_imp _ _ rows₀ own (λ x g.
            all_imp _ _ rows₀ own (λ y k e. rises_unique first fs x.parent y.parent g.1 k.1 (sym g.0 ∙ e ∙ k.0)));
      }
    where
      rows₀ : List Numbered
      rows₀ = numbered_from first fs 1 fs

      Own : Numbered → Type 0
      Own x = (x.bus ≡ bus_number first fs x.parent) × Rises first fs x.parent

      own : All Own rows₀
      own =
          all_and _ _ rows₀ (rows_bus first fs 0 fs)
          (rows_parent first fs (Rises first fs) 0 fs every_parent_rises)

      root : (x : Numbered) → ((x.parent < 1) × (only_host x.parent ≡ true)) ⊎ Some (Under x) rows₀ → x.bus
          ≡ bus_number first fs x.parent
          → ((x.parent ≡ 0) × (x.bus ≡ first)) ⊎ Some (Under x) rows₀
      root x (inr s) b = inr s
      root x (inl (m, g)) b =
          let z : x.parent ≡ 0 = omega arith in
          inl (z, b ∙ ap (bus_number first fs) z ∙ bus_number_host first fs)

  -- The bus of each piece, told by the record above it, has a number of its own
  pub every_bus_rises : All (λ p. Rises first fs p.bus) (pieces 1 fs)
  every_bus_rises = pieces_parent (Rises first fs) 1 fs lawful.sized every_parent_rises
