-- 52: the test of disjointness fails exactly where BARs and open windows of one bus are disjoint in both spaces. Assumes nothing.
use Rattle.std.specs.Prelude.{◌≡◌, refl, ◌↔◌, Bool, true, false, ◌&&◌, ◌||◌, ℕ, ◌+◌, eqb}
use Rattle.std.proofs.Common.{sym, ap, ap₂, subst, ◌∙◌, eqb-true, eq-eqb}
use mathlib.Core.List.Memᴰ
use mathlib.Core.List.{List, [], ◌∷◌, ◌++◌, map, map-append, flat_map}
use Rattle.arith.specs.BoolLaws.{false_of_or}
use Rattle.lists.specs.Lists.{◌∈◌, All, Pairwise, keep, any}
use Rattle.lists.specs.ListLaws.{all_imp, all_elim, all_intro, all_append, all_left, all_right, all_map_intro}
use Rattle.lists.specs.ListLaws.{pairwise_imp, pairwise_imp_members, pairwise_append, pairwise_map}
use Rattle.lists.specs.KeepLaws.{all_of_none, none_of_all, all_of_keep, keep_yes, keep_no, keep_elim, keep_intro, pairwise_keep}
use Rattle.pools.specs.declared.Space.{Space}
use Rattle.walk.specs.Ranges.{Range, Apart}
use Rattle.walk.specs.Registers.{Registers, Item, bar_item, window_item, open_windows, items_of, items}
use Rattle.walk.specs.Good.{ApartOnBus, Disjoint}
use Rattle.sheet_record.specs.Entry.{Entry, bus}
use Rattle.sheet_record.specs.Spaces.{function_of}
use Rattle.sheet.specs.Spaces.{functions_from}
use Rattle.sheet_ranges.specs.Ranges.{ranges_of, space_number, overlap}
use Rattle.sheet_ranges.specs.RangesLaws.{of_space, of_same_space, keep_ranges, some_ranges, apart_of_overlap, overlap_of_apart}
use Rattle.sheet_ranges.specs.FunctionsLaws.{item_range, range_item}
use Rattle.audit_rule.specs.Audit.{any_pair, any_overlap, overlap_on_bus, not_disjoint}
use Rattle.audit_rule.proofs.PairLaws.{pairwise_of_none, none_of_pairwise}

-- ## Each two of two lists joined, and of a list's images

module _ {A : Type 0} (R : A → A → Type 0) where
  pairwise_left : (xs ys : List A) → Pairwise R (xs ++ ys) → Pairwise R xs
  pairwise_left [] ys h = tt
  pairwise_left (x ∷ xs) ys h = (all_left (R x) xs ys h.0, pairwise_left xs ys h.1)

  pairwise_right : (xs ys : List A) → Pairwise R (xs ++ ys) → Pairwise R ys
  pairwise_right [] ys h = h
  pairwise_right (x ∷ xs) ys h = pairwise_right xs ys h.1

  pairwise_across : (xs ys : List A) → Pairwise R (xs ++ ys) → All (λ x. All (R x) ys) xs
  pairwise_across [] ys h = tt
  pairwise_across (x ∷ xs) ys h = (all_right (R x) xs ys h.0, pairwise_across xs ys h.1)

  all_of_map : {B : Type 0} (P : A → Type 0) (f : B → A) (xs : List B) → All P (map f xs) → All (λ x. P (f x)) xs
  all_of_map P f [] h = tt
  all_of_map P f (x ∷ xs) h = (h.0, all_of_map P f xs h.1)

  pairwise_of_map : {B : Type 0} (f : B → A) (xs : List B) → Pairwise R (map f xs) → Pairwise (λ x y. R (f x) (f y)) xs
  pairwise_of_map f [] h = tt
  pairwise_of_map f (x ∷ xs) h = (all_of_map (R (f x)) f xs h.0, pairwise_of_map f xs h.1)

-- ## One function

abbrev range_of : Item → Range
range_of i = i.range

bars_ranges : (f : Registers) (rs : List Range) → map range_of (map (bar_item f) rs) ≡ rs
bars_ranges f [] = refl
bars_ranges f (r ∷ rs) = ap (r ∷◌) (bars_ranges f rs)

windows_ranges : (f : Registers) (rs : List Range) → map range_of (map (window_item f) rs) ≡ rs
windows_ranges f [] = refl
windows_ranges f (r ∷ rs) = ap (r ∷◌) (windows_ranges f rs)

items_ranges : (f : Registers) → map range_of (items_of f) ≡ f.bars ++ open_windows f
unfolding items_of
items_ranges f =
    map-append range_of (map (bar_item f) f.bars) (map (window_item f) (open_windows f))
    ∙ ap₂ ◌++◌ (bars_ranges f f.bars) (windows_ranges f (open_windows f))

owners_are : (f : Registers) → All (λ i. i.owner ≡ f) (items_of f)
unfolding items_of
owners_are f =
    all_append _ (map (bar_item f) f.bars) (map (window_item f) (open_windows f))
    (all_map_intro _ (bar_item f) f.bars (λ r m. refl))
    (all_map_intro _ (window_item f) (open_windows f) (λ r m. refl))

module _ (sp : Space) (k : ℕ) (e : Entry) where
  abbrev f : Registers
  f = function_of sp k e

  ranges_are : map range_of (items_of f) ≡ keep (of_space sp) (ranges_of e)
  ranges_are = items_ranges f ∙ sym (keep_ranges sp k e)

  bus_of_own : {i : Item} → i ∈ items_of f → i.owner.node.bus ≡ bus e
  bus_of_own m = ap (λ (g : Registers). g.node.bus) (all_elim _ (items_of f) (owners_are f) m)

  own_of_test : any_pair overlap (ranges_of e) ≡ false → Pairwise ApartOnBus (items_of f)
  own_of_test t =
      let kept = pairwise_keep _ (of_space sp) (ranges_of e) (pairwise_of_none overlap (ranges_of e) t) in
      let apart : Pairwise Apart (keep (of_space sp) (ranges_of e)) =
      pairwise_imp_members _ Apart (keep (of_space sp) (ranges_of e))
      (λ r s m n o. apart_of_overlap sp r s (keep_elim (of_space sp) (ranges_of e) m).1 (keep_elim (of_space sp) (ranges_of e) n).1 o) kept in
      pairwise_imp _ _ (λ i j a same. a) (items_of f)
      (pairwise_of_map Apart range_of (items_of f) (subst (Pairwise Apart) (sym ranges_are) apart))

  ranges_of_own : Pairwise ApartOnBus (items_of f) → Pairwise Apart (keep (of_space sp) (ranges_of e))
  ranges_of_own p =
      subst (Pairwise Apart) ranges_are
      (pairwise_map Apart range_of (items_of f)
      (pairwise_imp_members _ _ (items_of f)
      (λ i j m n a. a (bus_of_own m ∙ sym (bus_of_own n))) p))

-- two ranges that do not overlap are of two spaces, or apart in theirs
overlap_none : (rs : List Range) → All (λ r. (sp : Space) × (of_space sp r ≡ true)) rs
    → ((sp : Space) → Pairwise Apart (keep (of_space sp) rs)) → Pairwise (λ r s. overlap r s ≡ false) rs
overlap_none [] some h = tt
overlap_none (r ∷ rs) some h = (first some.0, overlap_none rs some.1 tail)
  where
    first : (sp : Space) × (of_space sp r ≡ true) → All (λ s. overlap r s ≡ false) rs
    first (sp, of) =
        let own : Pairwise Apart (r ∷ keep (of_space sp) rs) = rw (keep_yes (of_space sp) r rs of) at (h sp) in
        all_imp _ _ rs (all_of_keep (of_space sp) (Apart r) rs own.0)
        (λ s apart. overlap_of_apart r s (λ same. apart (of_same_space sp r s of same)))

    tail : (sp : Space) → Pairwise Apart (keep (of_space sp) rs)
    tail sp = go (of_space sp r) refl
      where
        go : (b : Bool) → of_space sp r ≡ b → Pairwise Apart (keep (of_space sp) rs)
        go true e = let both : Pairwise Apart (r ∷ keep (of_space sp) rs) = rw (keep_yes (of_space sp) r rs e) at (h sp) in both.1
        go false e = rw (keep_no (of_space sp) r rs e) at (h sp)

-- ## A function and a later one

module _ (sp : Space) (k : ℕ) (e : Entry) where
  range_of_own : {i : Item} → i ∈ items_of (function_of sp k e) → (i.range ∈ ranges_of e) × (of_space sp i.range ≡ true)
  range_of_own {i} m =
      keep_elim (of_space sp) (ranges_of e) (subst (λ (rs : List Range). i.range ∈ rs) (ranges_are sp k e) (Memᴰ.map range_of m))

  own_of_range : {r : Range} → r ∈ ranges_of e → of_space sp r ≡ true → (i : Item) × (i ∈ items_of (function_of sp k e)) × (i.range ≡ r)
  own_of_range {r} m of =
      Memᴰ.of_map range_of (items_of (function_of sp k e))
      (subst (λ (rs : List Range). r ∈ rs) (sym (ranges_are sp k e)) (keep_intro (of_space sp) (ranges_of e) m of))

no_overlap : (rs ss : List Range) → any_overlap rs ss ≡ false → (r s : Range) → r ∈ rs → s ∈ ss → overlap r s ≡ false
no_overlap rs ss t r s m n = all_elim _ ss (all_of_none (overlap r) ss (all_elim _ rs (all_of_none (λ q. any (overlap q) ss) rs t) m)) n

no_overlaps : (rs ss : List Range) → ((r s : Range) → r ∈ rs → s ∈ ss → overlap r s ≡ false) → any_overlap rs ss ≡ false
no_overlaps rs ss h =
    none_of_all (λ q. any (overlap q) ss) rs (all_intro _ rs (λ r m. none_of_all (overlap r) ss (all_intro _ ss (λ s n. h r s m n))))

-- ## All of them

disjoint_of_test : (sp : Space) (k : ℕ) (es : List Entry) → not_disjoint es ≡ false → Pairwise ApartOnBus (items (functions_from sp k es))
unfolding not_disjoint items flat_map functions_from
disjoint_of_test sp k [] t = tt
disjoint_of_test sp k (e ∷ es) t =
    let a = false_of_or (any_pair overlap (ranges_of e)) (any (overlap_on_bus e) es || not_disjoint es) t in
    let b = false_of_or (any (overlap_on_bus e) es) (not_disjoint es) a.1 in
    pairwise_append ApartOnBus (items_of (function_of sp k e)) (items (functions_from sp (k + 1) es))
    (own_of_test sp k e a.0)
    (disjoint_of_test sp (k + 1) es b.1)
    (all_intro _ (items_of (function_of sp k e)) (λ i m.
    all_intro _ (items (functions_from sp (k + 1) es)) (λ j n same. across b.0 i j m n same)))
  where
    across : any (overlap_on_bus e) es ≡ false → (i j : Item) → i ∈ items_of (function_of sp k e) → j ∈ items (functions_from sp (k + 1) es)
        → ApartOnBus i j
    across none i j m n same =
        let x = range_of_own sp k e m in
        let y = item_range sp (k + 1) es n in
        let c = y.owner.entry in
        let one_bus : bus e ≡ bus c = sym (bus_of_own sp k e m) ∙ same ∙ ap (λ (g : Registers). g.node.bus) y.owner.function_is in
        let apart = all_elim _ es (all_of_none (overlap_on_bus e) es none) y.owner.in_sheet in
        apart_of_overlap sp i.range j.range x.1 y.is_of_space
        (no_overlap (ranges_of e) (ranges_of c) (rw (eq-eqb (bus e) (bus c) one_bus) at apart) i.range j.range x.0 y.in_ranges)

test_of_disjoint : (k : ℕ) (es : List Entry) → ((sp : Space) → Pairwise ApartOnBus (items (functions_from sp k es))) → not_disjoint es ≡ false
unfolding not_disjoint items flat_map functions_from
test_of_disjoint k [] p = refl
test_of_disjoint k (e ∷ es) p =
    rw (
      none_of_pairwise overlap (ranges_of e)
          (overlap_none (ranges_of e) (some_ranges e)
          (λ sp.
          ranges_of_own sp k e (pairwise_left ApartOnBus (items_of (function_of sp k e)) (items (functions_from sp (k + 1) es)) (p sp)))),
      none_of_all (overlap_on_bus e) es (all_intro _ es (λ c m. beside c m (eqb (bus e) (bus c)) refl)),
    )
    (test_of_disjoint (k + 1) es (λ sp.
    pairwise_right ApartOnBus (items_of (function_of sp k e)) (items (functions_from sp (k + 1) es)) (p sp)))
  where
    apart : (c : Entry) → c ∈ es → bus e ≡ bus c → (r s : Range) → r ∈ ranges_of e → s ∈ ranges_of c → (sp : Space) → of_space sp r ≡ true
        → space_number r.pool ≡ space_number s.pool → Apart r s
    apart c m one_bus r s mr ms sp of same =
        let (i, in_own, is_r) = own_of_range sp k e mr of in
        let y = range_item sp (k + 1) es m ms (of_same_space sp r s of same) in
        let both : ApartOnBus i y.item =
        all_elim _ (items (functions_from sp (k + 1) es))
        (all_elim _ (items_of (function_of sp k e))
        (pairwise_across ApartOnBus (items_of (function_of sp k e)) (items (functions_from sp (k + 1) es)) (p sp)) in_own) y.is_item in
        let on_bus_lem = bus_of_own sp k e in_own ∙ one_bus ∙ sym (ap (λ (g : Registers). g.node.bus) y.owner_is) in
        subst (λ (q : Range). Apart q s) is_r (subst (λ (q : Range). Apart i.range q) y.range_is (both on_bus_lem))

    beside : (c : Entry) → c ∈ es → (b : Bool) → eqb (bus e) (bus c) ≡ b → (b && any_overlap (ranges_of e) (ranges_of c)) ≡ false
    beside c m false e1 = refl
    beside c m true e1 =
        no_overlaps (ranges_of e) (ranges_of c) (λ r s mr ms.
        let (sp, of) = all_elim _ (ranges_of e) (some_ranges e) mr in
        overlap_of_apart r s (apart c m (eqb-true (bus e) (bus c) e1) r s mr ms sp of))

pub disjoint_iff : (es : List Entry) → (not_disjoint es ≡ false) ↔ ((sp : Space) → Disjoint (functions_from sp 1 es))
disjoint_iff es = (
  λ t sp. record { apart_on_bus = disjoint_of_test sp 1 es t },
  λ d. test_of_disjoint 1 es (λ sp. (d sp).apart_on_bus),
)
