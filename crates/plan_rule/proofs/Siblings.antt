-- Siblings by bus number and address space: on one bus the BARs and windows of one space are disjoint, if the pools are kept and low memory
-- ends before high memory starts. Assumes nothing.
use Rattle.std.specs.Prelude.{◌≡◌, refl, List, ℕ, suc, ◌≤◌, ◌<◌}
use Rattle.std.proofs.Common.{sym, ◌∙◌, inl, inr, true≢false, arith}
use Rattle.std.proofs.lemmas.Bool.{false≢true}
use Rattle.lists.specs.Lists.{All, Pairwise}
use Rattle.lists.specs.ListLaws.{all_imp₂, all_and, pairwise_imp, pairwise_all}
use Rattle.plan_rule.specs.Pools.{Pool, low, high, io, is_memory}
use Rattle.plan_rule.specs.Records.{Host, Function, Lawful}
use Rattle.plan_rule.specs.Layout.{Placed, end_of}
use Rattle.plan_rule.proofs.LayoutLaws.{Within, Before}
use Rattle.plan_rule.specs.Pieces.{pieces}
use Rattle.plan_rule.proofs.PieceLaws.{Shaped, has_align, pieces_shaped}
use Rattle.plan_rule.specs.Placing.{from_bases, placed}
use Rattle.plan_rule.proofs.PlacingLaws.{all_place}
use Rattle.plan_rule.proofs.Placed.{Apart, well_placed, in_pool_lem}
use Rattle.plan_rule.proofs.Numbered.{Rises, rises_unique, every_bus_rises}
use Rattle.plan_rule.specs.Refusals.{Kept}
use Rattle.plan_rule.specs.Siblings.{Disjoint, MemoryApart, bus_of}

module _ (first : ℕ) (h : Host) (fs : List Function) (lawful : Lawful fs) where
  -- Pieces of one pool on one bus, told by its number
  apart_by_number : Pairwise (λ x y. bus_of first fs x ≡ bus_of first fs y → x.piece.pool ≡ y.piece.pool → Before x y) (placed h fs)
  unfolding placed
  apart_by_number =
      pairwise_imp _ _ (λ x y g e. g.1 (rises_unique first fs x.piece.bus y.piece.bus g.0.0 g.0.1 e)) (placed h fs)
      (pairwise_all _ Apart (placed h fs)
      (all_place (λ p. Rises first fs p.bus) (from_bases h) (pieces 1 fs) (every_bus_rises first fs lawful))
      (well_placed h fs lawful).apart)

  -- Pieces of one space on one bus
  module _ (kept_low : Kept h fs low) (kept_high : Kept h fs high) (memory : MemoryApart h) where
    -- What is known of a piece: in which pool it lies, and that it is not empty
    record Known (x : Placed) : Type 0 where
      in_low_lem : x.piece.pool ≡ low → Within (h.base low) (suc (h.last low)) x
      in_high : x.piece.pool ≡ high → Within (h.base high) (suc (h.last high)) x
      not_empty : 0 < x.piece.size

    known : All Known (placed h fs)
    unfolding placed
    known =
        let shaped = all_place Shaped (from_bases h) (pieces 1 fs) (pieces_shaped 1 fs lawful.sized) in
        all_imp₂ _ _ _ (placed h fs) shaped
        (all_and _ _ (placed h fs) (in_pool_lem h fs lawful low kept_low) (in_pool_lem h fs lawful high kept_high))
        (λ x s g. record { in_low_lem = g.0; in_high = g.1; not_empty = omega (arith, s.align_fits, has_align x.piece s) })

    low_before_high : (x y : Placed) → Known x → Known y → x.piece.pool ≡ low → y.piece.pool ≡ high → end_of x ≤ y.start
    low_before_high x y k m p q =
        let a = k.in_low_lem p in
        let b = m.in_high q in
        let opens : h.base low ≤ h.last low = omega (arith, a.from_start, a.to_end, k.not_empty) in
        let opens' : h.base high ≤ h.last high = omega (arith, b.from_start, b.to_end, m.not_empty) in
        omega (arith, memory opens opens', a.to_end, b.from_start)

    pub disjoint_by_number : Pairwise
        (λ x y. bus_of first fs x ≡ bus_of first fs y → is_memory x.piece.pool ≡ is_memory y.piece.pool → Disjoint x y)
        (placed h fs)
    disjoint_by_number =
        pairwise_imp _ _ (λ x y g e. by_pool x y g.0.0 g.0.1 (g.1 e) x.piece.pool y.piece.pool refl refl) (placed h fs)
        (pairwise_all Known _ (placed h fs) known apart_by_number)
      where
        by_pool : (x y : Placed) → Known x → Known y → (x.piece.pool ≡ y.piece.pool → Before x y)
            → (p q : Pool) → x.piece.pool ≡ p → y.piece.pool ≡ q → is_memory p ≡ is_memory q → Disjoint x y
        by_pool x y k m g low low e i o = inl (g (e ∙ sym i))
        by_pool x y k m g low high e i o = inl (low_before_high x y k m e i)
        by_pool x y k m g low io e i o = absurd (true≢false o)
        by_pool x y k m g high low e i o = inr (low_before_high y x m k i e)
        by_pool x y k m g high high e i o = inl (g (e ∙ sym i))
        by_pool x y k m g high io e i o = absurd (true≢false o)
        by_pool x y k m g io low e i o = absurd (false≢true o)
        by_pool x y k m g io high e i o = absurd (false≢true o)
        by_pool x y k m g io io e i o = inl (g (e ∙ sym i))
