-- The items of a sheet in a space are the ranges of its records that lie in the space. Assumes nothing.
use Rattle.std.specs.Prelude.{◌≡◌, refl, ◌⊎◌, true, ℕ, ◌+◌}
use Rattle.std.proofs.Common.{sym, ap, subst, inl, inr}
use mathlib.Core.List.Memᴰ
use mathlib.Core.List.{List, [], ◌∷◌, ◌++◌}
use Rattle.lists.specs.Lists.{◌∈◌}
use Rattle.lists.specs.ListLaws.{mem_cond_elim}
use Rattle.lists.specs.KeepLaws.{keep_elim, keep_intro}
use Rattle.pools.specs.declared.Space.{Space}
use Rattle.walk.specs.Ranges.{Range}
use Rattle.walk.specs.Registers.{Registers, Item, bar_item, window_item, open_windows, items}
use Rattle.walk.proofs.RegistersLaws.{BarOf, WindowOf, item_of_bar, item_of_window, item_elim}
use Rattle.sheet_record.specs.Entry.{Entry}
use Rattle.sheet_record.specs.Spaces.{function_of}
use Rattle.sheet.specs.Spaces.{functions_from}
use Rattle.sheet_ranges.specs.Ranges.{ranges_of}
use Rattle.sheet_ranges.specs.RangesLaws.{of_space, keep_ranges}

module _ (sp : Space) where
  -- ## Functions and records

  pub record FunctionOf (es : List Entry) (f : Registers) : Type 0 where
    pub entry : Entry
    pub in_sheet : entry ∈ es
    pub number : ℕ
    pub function_is : f ≡ function_of sp number entry

  pub function_elim : (k : ℕ) (es : List Entry) {f : Registers} → f ∈ functions_from sp k es → FunctionOf es f
  unfolding functions_from
  function_elim k [] m = absurd (Memᴰ.not-nil m)
  function_elim k (e ∷ es) {f} m = go (Memᴰ.cases_cons m) (λ n. function_elim (k + 1) es n)
    where
      go : (f ≡ function_of sp k e) ⊎ (f ∈ functions_from sp (k + 1) es) → (f ∈ functions_from sp (k + 1) es → FunctionOf es f)
          → FunctionOf (e ∷ es) f
      go (inl same) later = record { entry = e; in_sheet = Memᴰ.head refl; number = k; function_is = same }
      go (inr n) later =
          let o = later n in
          record { entry = o.entry; in_sheet = Memᴰ.tail o.in_sheet; number = o.number; function_is = o.function_is }

  pub function_intro : (k : ℕ) (es : List Entry) {e : Entry} → e ∈ es → (j : ℕ) × (function_of sp j e ∈ functions_from sp k es)
  unfolding functions_from
  function_intro k [] m = absurd (Memᴰ.not-nil m)
  function_intro k (x ∷ es) {e} m = go (Memᴰ.cases_cons m) (λ n. function_intro (k + 1) es n)
    where
      go : (e ≡ x) ⊎ (e ∈ es) → (e ∈ es → (j : ℕ) × (function_of sp j e ∈ functions_from sp (k + 1) es))
          → (j : ℕ) × (function_of sp j e ∈ function_of sp k x ∷ functions_from sp (k + 1) es)
      go (inl same) later = (k, Memᴰ.head (ap (function_of sp k) same))
      go (inr n) later = let (j, i) = later n in (j, Memᴰ.tail i)

  -- ## Items and ranges

  pub record ItemOf (es : List Entry) (i : Item) : Type 0 where
    pub owner : FunctionOf es i.owner
    pub in_ranges : i.range ∈ ranges_of owner.entry
    pub is_of_space : of_space sp i.range ≡ true

  pub item_range : (k : ℕ) (es : List Entry) {i : Item} → i ∈ items (functions_from sp k es) → ItemOf es i
  item_range k es {i} m = go (item_elim (functions_from sp k es) m)
    where
      from : FunctionOf es i.owner → i.range ∈ i.owner.bars ++ open_windows i.owner → ItemOf es i
      from o n =
          let own = subst (λ (f : Registers). i.range ∈ f.bars ++ open_windows f) o.function_is n in
          let kept = keep_elim (of_space sp) (ranges_of o.entry)
          (subst (λ (rs : List Range). i.range ∈ rs) (sym (keep_ranges sp o.number o.entry)) own) in
          record { owner = o; in_ranges = kept.0; is_of_space = kept.1 }

      go : BarOf (functions_from sp k es) i ⊎ WindowOf (functions_from sp k es) i → ItemOf es i
      go (inl b) = from (function_elim k es b.in_sheet) (Memᴰ.append_left (open_windows i.owner) b.in_bars)
      go (inr w) =
          let shown : i.range ∈ open_windows i.owner = rw w.is_bridge_lem w.in_windows in
          from (function_elim k es w.in_sheet) (Memᴰ.append_right i.owner.bars shown)

  pub record Itemised (k : ℕ) (es : List Entry) (e : Entry) (r : Range) : Type 0 where
    pub item : Item
    pub is_item : item ∈ items (functions_from sp k es)
    pub range_is : item.range ≡ r
    pub number : ℕ
    pub owner_is : item.owner ≡ function_of sp number e
    pub in_sheet : function_of sp number e ∈ functions_from sp k es

  pub range_item : (k : ℕ) (es : List Entry) {e : Entry} {r : Range} → e ∈ es → r ∈ ranges_of e → of_space sp r ≡ true → Itemised k es e r
  range_item k es {e} {r} m n of =
      let (j, in_functions) = function_intro k es m in
      go j in_functions (Memᴰ.append_cases _ (rw (keep_ranges sp j e) at (keep_intro (of_space sp) (ranges_of e) n of)))
    where
      go : (j : ℕ) → function_of sp j e ∈ functions_from sp k es
          → (r ∈ (function_of sp j e).bars) ⊎ (r ∈ open_windows (function_of sp j e)) → Itemised k es e r
      go j in_functions (inl b) =
          record {
            item = bar_item (function_of sp j e) r;
            is_item = item_of_bar (functions_from sp k es) in_functions b;
            range_is = refl;
            number = j;
            owner_is = refl;
            in_sheet = in_functions;
          }
      go j in_functions (inr w) =
          let shown = mem_cond_elim (function_of sp j e).node.bridge (function_of sp j e).windows w in
          record {
            item = window_item (function_of sp j e) r;
            is_item = item_of_window (functions_from sp k es) in_functions shown.0 shown.1;
            range_is = refl;
            number = j;
            owner_is = refl;
            in_sheet = in_functions;
          }
