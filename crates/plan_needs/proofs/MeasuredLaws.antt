-- The needs from what sizing kept of the root bus are those of the placing rule. Assumes nothing.
use Rattle.std.specs.Prelude.{◌≡◌}
use Rattle.std.proofs.Math.Path.{refl, ap}
use Rattle.std.proofs.Common.{subst, ◌∙◌, ⊎_elim, ne_eqb}
use mathlib.Core.List.{List, [], ◌∷◌}
use Prim.Native.Nat.{ℕ, suc, ◌-◌, ◌≤◌, ◌<◌}
use native.Mathlib.Omega.{arith}
use Rattle.arith.specs.Order.{le_or_lt}
use Rattle.arith.specs.Align.{align_up, Multiple}
use Rattle.arith.specs.AlignLaws.{le_align_up, align_up_least, align_up_of_multiple}
use Rattle.lists.specs.Lists.{All}
use Rattle.lists.specs.ListLaws.{all_imp}
use Rattle.lists.specs.KeepLaws.{all_keep}
use Rattle.pools.specs.declared.Pool.{Pool}
use Rattle.pools.specs.declared.Pool.TheVariants.{Low, High, Io}
use Rattle.pools.specs.Pools.{granule}
use Rattle.pools.specs.PoolsLaws.{granule_pos}
use Rattle.plan_rule.specs.Records as placing
use Rattle.plan_rule.specs.Records.{Lawful}
use Rattle.plan_rule.specs.Layout.{Piece, is_on, select, layout_end, largest_align}
use Rattle.plan_rule.proofs.LayoutLaws.{HasAlign, le_layout_end}
use Rattle.plan_rule.specs.Pieces.{pieces, window_size, window_align}
use Rattle.plan_rule.proofs.PieceLaws.{Shaped, has_align, pieces_shaped}
use Rattle.plan_rule.specs.Numbering.{bridges}
use Rattle.plan_rule.specs.declared.Extent.{Extent}
use Rattle.plan_rule.specs.Sizing.{extend, bus_laid, root_laid}
use Rattle.plan_rule.proofs.ExtentLaws.{extend_end, extend_align}
use Rattle.plan_rule.specs.Cap.{limit, cap}
use Rattle.plan_rule.proofs.CapLaws.{capped, cap_cap}
use Rattle.board_record.specs.declared.Host.{Host}
use Rattle.board_record.specs.Host.{span_of}
use Rattle.board.specs.ToPlacing.{to_host}
use Rattle.plan_sizing.specs.declared.Laid.{Laid}
use Rattle.plan_sizing.specs.Cut.{extent_in, cut}
use Rattle.plan_needs.specs.Bases.{layout_base, laid_host_of}
use Rattle.plan_needs.proofs.BasesLaws.{laid_base}
use Rattle.plan_needs.specs.Needs.{length_from, bytes_needed, align_needed, needs_of}
use Rattle.plan_needs.specs.Measured.{bytes_by, needs_by, PastBases}

-- 2^62 is on every granule's edge, so an end up to 2^62 is rounded up to one up to 2^62
multiple_limit : (q : Pool) → Multiple (granule q) limit
multiple_limit Low = refl
multiple_limit High = refl
multiple_limit Io = refl

limit_on_edge : (q : Pool) → align_up (granule q) limit ≡ limit
limit_on_edge q = align_up_of_multiple (granule q) (granule_pos q) limit (multiple_limit q)

rounded_within : (q : Pool) (e : ℕ) → window_size q (cap e) ≡ cap (window_size q e)
rounded_within q e = ⊎_elim small large (le_or_lt e limit)
  where
    g : ℕ
    g = granule q

    small : e ≤ limit → align_up g (cap e) ≡ cap (align_up g e)
    small l =
        let s : cap e ≡ e = omega arith in
        ap (align_up g) s ∙ omega (arith, align_up_least g (granule_pos q) e limit l (multiple_limit q))

    large : limit < e → align_up g (cap e) ≡ cap (align_up g e)
    large l =
        let s : cap e ≡ limit = omega arith in
        ap (align_up g) s ∙ limit_on_edge q ∙ omega (arith, le_align_up g (granule_pos q) e)

-- one pool: what is laid out from the base
module _ (q : Pool) (base : ℕ) where
  abbrev start : Extent
  start = record { end = base; align = 0 }

  pub bytes_by_is : (ps : List Piece) → All Shaped ps → bytes_by q base (capped (extend start ps)) ≡ length_from base q ps
  unfolding extend largest_align
  bytes_by_is [] shaped = refl
  bytes_by_is (p ∷ ps) shaped =
      let ends = extend_end start (p ∷ ps) in
      let aligned : 0 < (extend start (p ∷ ps)).align = omega (arith, extend_align start (p ∷ ps), has_align p shaped.0, largest) in
      rw (ne_eqb (extend start (p ∷ ps)).align 0 (λ e. omega (arith, e, aligned)))
      (ap (λ (n : ℕ). window_size q (cap (cap n)) - base) ends
      ∙ ap (λ (n : ℕ). window_size q n - base) (cap_cap (layout_end base (p ∷ ps)))
      ∙ ap (λ (n : ℕ). n - base) (rounded_within q (layout_end base (p ∷ ps))))
    where
      largest : p.align ≤ largest_align (p ∷ ps)
      largest = omega arith

  pub past_base : (ps : List Piece) → All Shaped ps → base ≤ limit → base ≤ cap (capped (extend start ps)).end
  past_base ps shaped l =
      omega (arith, extend_end start ps, le_layout_end base ps (all_imp Shaped HasAlign ps shaped has_align))

-- ## All of them, of a lawful board

module _ (h : Host) (fs : List placing.Function) (lawful : Lawful fs) (root : Laid)
    (is : root ≡ cut (bus_laid fs 0 (root_laid (to_host (laid_host_of h))))) where
  abbrev content : Pool → List Piece
  content q = select 0 q (pieces 1 fs)

  content_shaped : (q : Pool) → All Shaped (content q)
  content_shaped q = all_keep (is_on 0 q) Shaped (pieces 1 fs) (pieces_shaped 1 fs lawful.sized)

  extent_is : (q : Pool) → extent_in root q ≡ capped (extend (record { end = (to_host (laid_host_of h)).base q; align = 0 }) (content q))
  unfolding bus_laid
  extent_is Low = ap (λ (x : Laid). x.low) is
  extent_is High = ap (λ (x : Laid). x.high) is
  extent_is Io = ap (λ (x : Laid). x.io) is

  bytes_are : (q : Pool) → bytes_by q ((to_host (laid_host_of h)).base q) (extent_in root q) ≡ bytes_needed (to_host h) fs q
  unfolding bytes_needed
  bytes_are q =
      ap (bytes_by q ((to_host (laid_host_of h)).base q)) (extent_is q)
      ∙ bytes_by_is q ((to_host (laid_host_of h)).base q) (content q) (content_shaped q)
      ∙ ap (λ (n : ℕ). length_from n q (content q)) (laid_base h q)

  align_is : (q : Pool) → window_align q (extent_in root q).align ≡ align_needed fs q
  unfolding align_needed
  align_is q =
      let from : Extent = record { end = (to_host (laid_host_of h)).base q; align = 0 } in
      let largest : (extend from (content q)).align ≡ largest_align (content q) = extend_align from (content q) ∙ omega arith in
      ap (λ (x : Extent). window_align q x.align) (extent_is q) ∙ ap (window_align q) largest

  pub needs_by_is : (n : ℕ) → n ≡ bridges fs → needs_by (laid_host_of h) n root ≡ needs_of (to_host h) fs
  unfolding needs_by needs_of
  needs_by_is n e =
      λ i. record {
        buses = suc (e i);
        low = bytes_are Low i;
        high = bytes_are High i;
        io = bytes_are Io i;
        low_align = align_is Low i;
        high_align = align_is High i;
        io_align = align_is Io i;
      }

  -- what the call asks
  pub past_bases : ((q : Pool) → layout_base (to_host h) q ≤ limit) → PastBases (laid_host_of h) root
  past_bases small q =
      rw (extent_is q)
      (subst (λ (n : ℕ). n ≤ cap (capped (extend (record { end = (to_host (laid_host_of h)).base q; align = 0 }) (content q))).end)
      (base_of_lem q)
      (past_base q ((to_host (laid_host_of h)).base q) (content q) (content_shaped q) (omega (arith, small q, laid_base h q))))
    where
      base_of_lem : (p : Pool) → (to_host (laid_host_of h)).base p ≡ (span_of (laid_host_of h) p).base
      base_of_lem Low = refl
      base_of_lem High = refl
      base_of_lem Io = refl
