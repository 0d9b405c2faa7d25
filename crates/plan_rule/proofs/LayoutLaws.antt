-- The laws of a layout: pieces lie in order, between its two ends, each on a multiple of its alignment; and a start that is a multiple of
-- every alignment moves the whole by that start. Assumes nothing.
use Rattle.std.specs.Prelude.{◌≡◌, ℕ, ◌+◌, ◌≤◌, ◌<◌, max}
use Rattle.std.proofs.Math.Path.{refl, ap}
use Rattle.std.proofs.Common.{sym, ◌∙◌, arith, add-zero}
use mathlib.Core.List.{List, [], ◌∷◌, ◌++◌, map}
use Rattle.arith.specs.Align.{Multiple}
use Rattle.arith.specs.Powers.{PowerOfTwo}
use Rattle.arith.specs.AlignLaws.{le_align_up, align_up_add}
use Rattle.arith.specs.PowersLaws.{power_max}
use Rattle.lists.specs.Lists.{All, Pairwise}
use Rattle.lists.specs.ListLaws.{all_imp}
use Rattle.plan_rule.specs.Layout.{Piece, Placed, end_of, start_at, end_at, layout, layout_end, largest_align}

pub record Within (from to : ℕ) (x : Placed) : Type 0 where
  pub from_start : from ≤ x.start
  pub to_end : end_of x ≤ to

abbrev pub Before : Placed → Placed → Type 0
Before x y = end_of x ≤ y.start

abbrev pub Aligned : Placed → Type 0
Aligned x = Multiple x.piece.align x.start

-- The piece, s further on
abbrev pub shift : ℕ → Placed → Placed
shift s x = record { piece = x.piece; start = s + x.start }

abbrev pub HasAlign : Piece → Type 0
HasAlign p = 0 < p.align

pub le_end_at : (e : ℕ) (p : Piece) → HasAlign p → (e ≤ start_at e p) × (e ≤ end_at e p)
le_end_at e p h = omega (arith, le_align_up p.align h e)

pub le_layout_end : (e : ℕ) (ps : List Piece) → All HasAlign ps → e ≤ layout_end e ps
unfolding layout_end
le_layout_end e [] h = omega arith
le_layout_end e (p ∷ ps) h = omega (arith, le_end_at e p h.0, le_layout_end (end_at e p) ps h.1)

pub layout_within : (e : ℕ) (ps : List Piece) → All HasAlign ps → All (Within e (layout_end e ps)) (layout e ps)
unfolding layout layout_end
layout_within e [] h = tt
layout_within e (p ∷ ps) h =
    let l = le_end_at e p h.0 in (
      record { from_start = l.0; to_end = le_layout_end (end_at e p) ps h.1 },
      all_imp _ _ (layout (end_at e p) ps) (layout_within (end_at e p) ps h.1)
          (λ x w. record { from_start = omega (arith, w.from_start, l.1); to_end = w.to_end }),
    )

pub layout_ordered : (e : ℕ) (ps : List Piece) → All HasAlign ps → Pairwise Before (layout e ps)
unfolding layout
layout_ordered e [] h = tt
layout_ordered e (p ∷ ps) h = (
  all_imp _ _ (layout (end_at e p) ps) (layout_within (end_at e p) ps h.1) (λ y w. w.from_start),
  layout_ordered (end_at e p) ps h.1,
)

-- s is a multiple of the piece's alignment
abbrev pub Divides : ℕ → Piece → Type 0
Divides s p = HasAlign p × Multiple p.align s

module _ (s : ℕ) where
  start_at_add : (e : ℕ) (p : Piece) → Divides s p → start_at (s + e) p ≡ s + start_at e p
  start_at_add e p h = align_up_add p.align h.0 s e h.1

  end_at_add : (e : ℕ) (p : Piece) → Divides s p → end_at (s + e) p ≡ s + end_at e p
  end_at_add e p h = omega (arith, start_at_add e p h)

  layout_end_add : (e : ℕ) (ps : List Piece) → All (Divides s) ps → layout_end (s + e) ps ≡ s + layout_end e ps
  unfolding layout_end
  layout_end_add e [] h = refl
  layout_end_add e (p ∷ ps) h = ap (λ (n : ℕ). layout_end n ps) (end_at_add e p h.0) ∙ layout_end_add (end_at e p) ps h.1

  -- Window start plus offset
  layout_add : (e : ℕ) (ps : List Piece) → All (Divides s) ps → layout (s + e) ps ≡ map (shift s) (layout e ps)
  unfolding layout
  layout_add e [] h = refl
  layout_add e (p ∷ ps) h = cc (start_at_add e p h.0, end_at_add e p h.0, layout_add (end_at e p) ps h.1)

  pub layout_from : (ps : List Piece) → All (Divides s) ps → layout s ps ≡ map (shift s) (layout 0 ps)
  layout_from ps h = ap (λ (n : ℕ). layout n ps) (sym (add-zero s)) ∙ layout_add 0 ps h

  pub layout_end_from : (ps : List Piece) → All (Divides s) ps → layout_end s ps ≡ s + layout_end 0 ps
  layout_end_from ps h = ap (λ (n : ℕ). layout_end n ps) (sym (add-zero s)) ∙ layout_end_add 0 ps h

pub layout_end_append : (e : ℕ) (ps qs : List Piece) → layout_end e (ps ++ qs) ≡ layout_end (layout_end e ps) qs
unfolding layout_end
layout_end_append e [] qs = refl
layout_end_append e (p ∷ ps) qs = layout_end_append (end_at e p) ps qs

pub le_largest_align : (ps : List Piece) → All (λ p. p.align ≤ largest_align ps) ps
unfolding largest_align
le_largest_align [] = tt
le_largest_align (p ∷ ps) = (
  omega arith,
  all_imp _ _ ps (le_largest_align ps) (λ x h. omega arith),
)

pub largest_align_power : (g : ℕ) (ps : List Piece) → PowerOfTwo g → All (λ p. PowerOfTwo p.align) ps
    → PowerOfTwo (max g (largest_align ps))
unfolding largest_align
largest_align_power g [] h k = let e : max g 0 ≡ g = omega arith in rw e h
largest_align_power g (p ∷ ps) h k =
    let e : max g (max p.align (largest_align ps)) ≡ max p.align (max g (largest_align ps)) = omega arith in
    rw e (power_max k.0 (largest_align_power g ps h k.1))
