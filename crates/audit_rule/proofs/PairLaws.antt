-- Tests of each two as statements of each two, and what is said of a sheet's records as said of their nodes. Assumes nothing.
use Rattle.std.specs.Prelude.{◌≡◌, Bool, false, ℕ, ◌+◌}
use Rattle.std.proofs.Math.Path.{refl}
use mathlib.Core.List.{List, [], ◌∷◌}
use Rattle.arith.specs.BoolLaws.{false_of_or}
use Rattle.lists.specs.Lists.{All, Pairwise, any}
use Rattle.lists.specs.ListLaws.{all_imp}
use Rattle.lists.specs.KeepLaws.{all_of_none, none_of_all}
use Rattle.walk.specs.Registers.{Node}
use Rattle.sheet_record.specs.Entry.{Entry}
use Rattle.sheet_record.specs.Spaces.{node_of}
use Rattle.sheet.specs.Spaces.{nodes_from}
use Rattle.audit_rule.specs.Audit.{any_pair}

module _ {A : Type 0} (t : A → A → Bool) where
  pub pairwise_of_none : (xs : List A) → any_pair t xs ≡ false → Pairwise (λ x y. t x y ≡ false) xs
  unfolding any_pair
  pairwise_of_none [] e = tt
  pairwise_of_none (x ∷ xs) e =
      let both = false_of_or (any (t x) xs) (any_pair t xs) e in (all_of_none (t x) xs both.0, pairwise_of_none xs both.1)

  pub none_of_pairwise : (xs : List A) → Pairwise (λ x y. t x y ≡ false) xs → any_pair t xs ≡ false
  unfolding any_pair
  none_of_pairwise [] h = refl
  none_of_pairwise (x ∷ xs) h = rw (none_of_all (t x) xs h.0) (none_of_pairwise xs h.1)

module _ (P : Node → Type 0) where
  pub all_nodes : (k : ℕ) (es : List Entry) → All (λ e. (j : ℕ) → P (node_of j e)) es → All P (nodes_from k es)
  unfolding nodes_from
  all_nodes k [] h = tt
  all_nodes k (e ∷ es) h = (h.0 k, all_nodes (k + 1) es h.1)

  pub all_of_nodes : (k : ℕ) (es : List Entry) → All P (nodes_from k es) → All (λ e. (j : ℕ) × P (node_of j e)) es
  unfolding nodes_from
  all_of_nodes k [] h = tt
  all_of_nodes k (e ∷ es) h = ((k, h.0), all_of_nodes (k + 1) es h.1)

module _ (R : Node → Node → Type 0) where
  pub pairwise_nodes : (k : ℕ) (es : List Entry) → Pairwise (λ e f. (i j : ℕ) → R (node_of i e) (node_of j f)) es
      → Pairwise R (nodes_from k es)
  unfolding nodes_from
  pairwise_nodes k [] h = tt
  pairwise_nodes k (e ∷ es) h =
      (all_nodes (R (node_of k e)) (k + 1) es (all_imp _ _ es h.0 (λ f r j. r k j)), pairwise_nodes (k + 1) es h.1)

  pub pairwise_of_nodes : (k : ℕ) (es : List Entry) → Pairwise R (nodes_from k es)
      → Pairwise (λ e f. (i : ℕ) × (j : ℕ) × R (node_of i e) (node_of j f)) es
  unfolding nodes_from
  pairwise_of_nodes k [] h = tt
  pairwise_of_nodes k (e ∷ es) h = (
    all_imp _ _ es (all_of_nodes (R (node_of k e)) (k + 1) es h.0) (λ f r. (k, r.0, r.1)),
    pairwise_of_nodes (k + 1) es h.1,
  )
