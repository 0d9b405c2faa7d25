-- The owners by ID answer as the walk does: each is one number. Assumes nothing.
use Rattle.std.specs.Prelude.{◌≡◌, ◌⊎◌, List, map, ℕ, ◌+◌, ◌*◌, ◌/◌, ◌%◌, ◌<◌}
use Rattle.std.proofs.Common.{sym, ap, ◌∙◌, inl, inr, arith}
use mathlib.Core.List.Memᴰ
use Rattle.lists.specs.Lists.{◌∈◌, All}
use Rattle.lists.specs.ListLaws.{all_elim, pairwise_members}
use Rattle.walk.specs.Registers.{Node}
use Rattle.walk.specs.Walk.{Outcome, delivered, refused, no_owner, walk_from}
use Rattle.walk.specs.Good.{Host, BridgesRise, Tree}
use Rattle.walk.specs.Ids.{tally_by_id, DistinctIds, HasId}
use Rattle.walk.proofs.IdsDelivery.{delivered_by_id, nobody_by_id}
use Rattle.index_rule.specs.Owners.{Owner, Over, id_owner}
use Rattle.index_rule.proofs.Answered.{Answered}

abbrev pub outcome_by_id : ℕ → List Node → ℕ → Outcome
outcome_by_id top ns id = walk_from (tally_by_id ns (id / 256) (id % 256)) top 0

module _ {host : Host} {ns : List Node} (rise : BridgesRise ns) (tree : Tree host ns) (distinct : DistinctIds ns)
    (bytes : All (λ n. n.devfn < 256) ns) where
  abbrev owner : Node → Owner
  owner n = id_owner host.first ns n

  id_of_over : (a : ℕ) (x : Owner) → x ∈ map owner ns → Over x a → (n : Node) × HasId (a / 256) (a % 256) ns n × (owner n ≡ x)
  id_of_over a x m o =
      let (n, in_ns, is_x) = Memᴰ.of_map owner ns m in
      let small = all_elim _ ns bytes in_ns in
      let e : a ≡ n.bus * 256 + n.devfn =
      omega (arith, ap (λ (y : Owner). y.start) is_x, ap (λ (y : Owner). y.stop) is_x, o.from_start, o.before_stop) in
      (n, record { in_sheet = in_ns; bus_is = omega (arith, e, small); devfn_is = omega (arith, e, small) }, is_x)

  pub ids_answered : Answered (map owner ns) (outcome_by_id host.first ns)
  ids_answered = record { of_owner = hit; of_none = none; unique = unique }
    where
      hit : (a : ℕ) (x : Owner) → x ∈ map owner ns → Over x a → outcome_by_id host.first ns a ≡ delivered x.number x.bridges
      hit a x m o =
          let (n, h, is_x) = id_of_over a x m o in
          delivered_by_id rise tree distinct (a / 256) (a % 256) n h ∙ ap (λ (y : Owner). delivered y.number y.bridges) is_x

      none : (a : ℕ) → ((x : Owner) → x ∈ map owner ns → Over x a → ⊥) → outcome_by_id host.first ns a ≡ refused no_owner
      none a not_over =
          nobody_by_id rise tree distinct (a / 256) (a % 256)
          (λ n h.
          not_over (owner n) (Memᴰ.map owner h.in_sheet)
          (record { from_start = omega (arith, h.bus_is, h.devfn_is); before_stop = omega (arith, h.bus_is, h.devfn_is) }))

      unique : (a : ℕ) (x y : Owner) → x ∈ map owner ns → y ∈ map owner ns → Over x a → Over y a → x ≡ y
      unique a x y mx my ox oy =
          let (n, h, is_x) = id_of_over a x mx ox in
          let (m, k, is_y) = id_of_over a y my oy in
          go n m is_x is_y (h.bus_is ∙ sym k.bus_is) (h.devfn_is ∙ sym k.devfn_is)
          (pairwise_members _ ns distinct h.in_sheet k.in_sheet)
        where
          go : (n m : Node) → owner n ≡ x → owner m ≡ y → n.bus ≡ m.bus → n.devfn ≡ m.devfn
              → (n ≡ m) ⊎ ((n.bus ≡ m.bus → n.devfn ≡ m.devfn → ⊥) ⊎ (m.bus ≡ n.bus → m.devfn ≡ n.devfn → ⊥)) → x ≡ y
          go n m p q b d (inl e) = sym p ∙ ap owner e ∙ q
          go n m p q b d (inr (inl f)) = absurd (f b d)
          go n m p q b d (inr (inr f)) = absurd (f (sym b) (sym d))
