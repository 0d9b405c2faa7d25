-- What is needed is exact: with so many bus numbers, and so many bytes in a pool from where it was laid out or from a multiple of the
-- alignment, nothing of them runs out, and with fewer it does. Assumes nothing.
use Rattle.std.specs.Prelude.{◌≡◌, refl, ◌⊎◌, ◌↔◌, false, ◌&&◌, ℕ, suc, ◌+◌, ◌≤◌, ◌<◌, ltb}
use Rattle.std.proofs.Common.{sym, ◌∙◌, inl, inr}
use Rattle.std.proofs.Math.Path.{ap}
use mathlib.Core.List.{List, [], ◌∷◌}
use native.Mathlib.Omega.{arith}
use borrow.Author.Tests.{ltb-false, lt-ltb, le-ltb}
use Rattle.arith.specs.Align.{align_up, Multiple}
use Rattle.arith.specs.AlignLaws.{multiple_trans, le_align_up, align_up_least, align_up_add}
use Rattle.arith.specs.Powers.{PowerOfTwo}
use Rattle.arith.specs.PowersLaws.{multiple_of_le}
use Rattle.lists.specs.Lists.{All}
use Rattle.lists.specs.ListLaws.{all_imp}
use Rattle.lists.specs.KeepLaws.{all_keep}
use Rattle.pools.specs.declared.Pool.{Pool}
use Rattle.pools.specs.Pools.{granule}
use Rattle.pools.specs.PoolsLaws.{granule_pos}
use Rattle.plan_rule.specs.Records.{Host, Function, Lawful}
use Rattle.plan_rule.specs.Layout.{Piece, is_on, select, layout_end, largest_align}
use Rattle.plan_rule.proofs.LayoutLaws.{HasAlign, Divides, le_layout_end, layout_end_from, le_largest_align, largest_align_power}
use Rattle.plan_rule.proofs.PoolLaws.{granule_power}
use Rattle.plan_rule.specs.Pieces.{pieces, window_align}
use Rattle.plan_rule.proofs.PieceLaws.{Shaped, has_align, pieces_shaped}
use Rattle.plan_rule.specs.Numbering.{bridges}
use Rattle.plan_rule.specs.Cap.{limit}
use Rattle.plan_rule.specs.Refusals.{out_of_buses, out_of_pool}
use Rattle.plan_rule.proofs.RefusalLaws.{out_of_pool_end}
use Rattle.plan_needs.specs.Bases.{layout_base}
use Rattle.plan_needs.specs.Needs.{buses_needed, length_from, bytes_needed, align_needed}

-- ## Bus numbers

pub buses_exact : (g : Host) (fs : List Function) → (out_of_buses g fs ≡ false) ↔ (g.first_bus + buses_needed fs ≤ suc g.last_bus)
buses_exact g fs = (
  λ e. omega (arith, ltb-false g.last_bus (g.first_bus + bridges fs) e),
  λ l. le-ltb g.last_bus (g.first_bus + bridges fs) (omega (arith, l)),
)

-- ## Bytes of a pool

-- pool q of g starts where that of h is laid out from, or both do on a multiple of what the board's items there are aligned to; a closed
-- pool is laid out from 0, so it is the multiples for it
abbrev pub StartsAlike : Host → Host → List Function → Pool → Type 0
StartsAlike h g fs q =
    (g.base q ≡ layout_base h q) ⊎ (Multiple (align_needed fs q) (layout_base h q) × Multiple (align_needed fs q) (g.base q))

-- a host whose pool q has n bytes from such a base, up to an edge, and ends below 2^62, as every pool does
pub record HasBytes (h g : Host) (fs : List Function) (q : Pool) (n : ℕ) : Type 0 where
  pub starts : StartsAlike h g fs q
  pub ends : suc (g.last q) ≡ g.base q + n
  pub on_edge : Multiple (granule q) (g.base q + n)
  pub below : g.base q + n < limit
  pub told : layout_base h q + n < limit

-- what is laid out from a base ends within n bytes of it exactly when it needs no more
length_exact : (q : Pool) (base n : ℕ) (p : Piece) (ps : List Piece) → All HasAlign (p ∷ ps) → Multiple (granule q) (base + n)
    → base + n < limit
    → (layout_end base (p ∷ ps) ≤ base + n) ↔ (length_from base q (p ∷ ps) ≤ n)
length_exact q base n p ps aligned edge below = (
  λ l. omega (arith, align_up_least (granule q) (granule_pos q) (layout_end base (p ∷ ps)) (base + n) l edge),
  λ l.
      omega (arith, l, below, le_layout_end base (p ∷ ps) aligned, le_align_up (granule q) (granule_pos q) (layout_end base (p ∷ ps))),
)

-- from a multiple of the largest alignment a layout is the one from 0, further on
module _ (q : Pool) (ps : List Piece) (shaped : All Shaped ps) where
  abbrev largest : ℕ
  largest = window_align q (largest_align ps)

  power : PowerOfTwo largest
  power = largest_align_power (granule q) ps (granule_power q) (all_imp _ _ ps shaped (λ p k. k.align_power))

  divided : (s : ℕ) → Multiple largest s → All (Divides s) ps
  divided s m = go ps shaped (le_largest_align ps)
    where
      go : (rs : List Piece) → All Shaped rs → All (λ p. p.align ≤ largest_align ps) rs → All (Divides s) rs
      go [] k l = tt
      go (r ∷ rs) k l = (
        (has_align r k.0, multiple_trans r.align largest s (multiple_of_le k.0.align_power power (omega (arith, l.0))) m),
        go rs k.1 l.1,
      )

  moved_end : (s : ℕ) → Multiple largest s → layout_end s ps ≡ s + layout_end 0 ps
  moved_end s m = layout_end_from s ps (divided s m)

  moved_edge : (s : ℕ) → Multiple largest s → align_up (granule q) (layout_end s ps) ≡ s + align_up (granule q) (layout_end 0 ps)
  moved_edge s m =
      let edge = multiple_trans (granule q) largest s (multiple_of_le (granule_power q) power (omega arith)) m in
      ap (align_up (granule q)) (moved_end s m) ∙ align_up_add (granule q) (granule_pos q) s (layout_end 0 ps) edge

-- so that it needs as many bytes, as far as these are told
length_moved : (q : Pool) (ps : List Piece) → All Shaped ps → (s t n : ℕ) → Multiple (window_align q (largest_align ps)) s
    → Multiple (window_align q (largest_align ps)) t → s + n < limit → t + n < limit → length_from s q ps ≤ n → length_from t q ps ≤ n
length_moved q [] shaped s t n d e f g l = omega arith
length_moved q (p ∷ ps) shaped s t n d e f g l =
    omega (arith, moved_edge q (p ∷ ps) shaped s d, moved_edge q (p ∷ ps) shaped t e, f, g, l)

module _ (h g : Host) (fs : List Function) (lawful : Lawful fs) (q : Pool) (n : ℕ) (has : HasBytes h g fs q n) where
  within : (ps : List Piece) → All Shaped ps → ((ltb 0 (largest_align ps) && ltb (suc (g.last q)) (layout_end (g.base q) ps)) ≡ false)
      ↔ (length_from (g.base q) q ps ≤ n)
  unfolding largest_align layout_end
  within [] shaped = (λ _. omega arith, λ _. refl)
  within (p ∷ ps) shaped =
      let exact = length_exact q (g.base q) n p ps (all_imp Shaped HasAlign (p ∷ ps) shaped has_align) has.on_edge has.below in
      let some = lt-ltb 0 (largest_align (p ∷ ps)) (omega (arith, has_align p shaped.0)) in
      rw some (
        λ e. exact.0 (omega (arith, ltb-false (suc (g.last q)) (layout_end (g.base q) (p ∷ ps)) e, has.ends)),
        λ l. le-ltb (suc (g.last q)) (layout_end (g.base q) (p ∷ ps)) (omega (arith, exact.1 l, has.ends)),
      )

  abbrev content : List Piece
  content = select 0 q (pieces 1 fs)

  shaped_content : All Shaped content
  shaped_content = all_keep (is_on 0 q) Shaped (pieces 1 fs) (pieces_shaped 1 fs lawful.sized)

  there : StartsAlike h g fs q → length_from (g.base q) q content ≤ n → length_from (layout_base h q) q content ≤ n
  unfolding align_needed
  there (inl e) l = omega (arith, l, ap (λ (b : ℕ). length_from b q content) e)
  there (inr (d, e)) l = length_moved q content shaped_content (g.base q) (layout_base h q) n e d has.below has.told l

  back : StartsAlike h g fs q → length_from (layout_base h q) q content ≤ n → length_from (g.base q) q content ≤ n
  unfolding align_needed
  back (inl e) l = omega (arith, l, ap (λ (b : ℕ). length_from b q content) e)
  back (inr (d, e)) l = length_moved q content shaped_content (layout_base h q) (g.base q) n d e has.told has.below l

  pub bytes_exact : (out_of_pool g fs q ≡ false) ↔ (bytes_needed h fs q ≤ n)
  unfolding bytes_needed
  bytes_exact =
      let both = within content shaped_content in (
        λ e. there has.starts (both.0 (sym (out_of_pool_end g fs lawful q) ∙ e)),
        λ l. out_of_pool_end g fs lawful q ∙ both.1 (back has.starts l),
      )
