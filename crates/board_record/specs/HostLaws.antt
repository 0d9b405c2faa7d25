-- The edges of pools: one past the last address is a multiple exactly where the last is one short of the edge, once over the edge. Assumes
-- nothing.
use Rattle.std.specs.Prelude.{◌≡◌, refl, Bool, true, false, ℕ, ◌+◌, ◌-◌, ◌%◌, ◌<◌, eqb}
use Rattle.std.proofs.Common.{sym, ap, ◌∙◌, mod-lt, mod-eq_of_lt, arith, eqb-true, eq-eqb, ne_eqb}
use Rattle.std.proofs.Math.Nat.{mod_self, mod-add-mod}
use Rattle.std.proofs.lemmas.Bool.{eqb-false}

pub edge_last : (edge x : ℕ) → 0 < edge → eqb ((x + 1) % edge) 0 ≡ eqb (x % edge) (edge - 1)
edge_last edge x h = go (eqb (x % edge) (edge - 1)) refl
  where
    short : (x + 1) % edge ≡ (x % edge + 1) % edge
    short = sym (mod-add-mod x edge 1)

    go : (t : Bool) → eqb (x % edge) (edge - 1) ≡ t → eqb ((x + 1) % edge) 0 ≡ t
    go true e =
        let s : x % edge + 1 ≡ edge = omega (arith, eqb-true (x % edge) (edge - 1) e) in
        eq-eqb ((x + 1) % edge) 0 (short ∙ ap (λ (y : ℕ). y % edge) s ∙ mod_self edge)
    go false e =
        let l : x % edge < edge = mod-lt x h in
        let n : x % edge + 1 < edge = omega (arith, eqb-false (x % edge) (edge - 1) e) in
        ne_eqb ((x + 1) % edge) 0 (λ z. omega (arith, short, mod-eq_of_lt n))
