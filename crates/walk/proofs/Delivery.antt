-- Delivery on a good sheet, whatever the command words say: a request from the host goes to the function of which a BAR holds its address,
-- if that function and each bridge above it are enabled, and else to nobody. Assumes nothing.
use Rattle.std.specs.Prelude.{◌≡◌, ◌⊎◌, ◌↔◌, Bool, true, List, [], ◌∷◌, ℕ, ◌≤◌, ◌<◌}
use Rattle.std.proofs.Math.Path.{refl, ap}
use Rattle.std.proofs.Common.{sym, ◌∙◌, inl, inr}
use native.Mathlib.Omega.{arith}
use Rattle.std.proofs.Math.ListN.{length}
use Rattle.lists.specs.Lists.{◌∈◌, All, Some}
use Rattle.lists.specs.ListLaws.{all_of}
use Rattle.walk.specs.Ranges.{Holds}
use Rattle.walk.specs.Registers.{Node, Registers, nodes, root_of, NumberedFrom}
use Rattle.walk.proofs.RegistersLaws.{node_mem, number_unique}
use Rattle.walk.specs.Tally.{several, tally_on}
use Rattle.walk.proofs.TallyLaws.{tally_nil, tally_not_several, rising_of_bridges}
use Rattle.walk.specs.Walk.{Outcome, delivered, refused, no_owner, contested, walk_from, Trail}
use Rattle.walk.proofs.WalkLaws.{walk_none, trail_of_delivered, walk_of_trail, refused_elim}
use Rattle.walk.specs.Above.{Above, above}
use Rattle.walk.proofs.AboveLaws.{above_is, above_unique, above_at_most_255}
use Rattle.walk.specs.Good.{Host, FirstOn, Tree, Good, Sound}
use Rattle.walk.proofs.Good.{sound_of_good}
use Rattle.walk.proofs.Reach.{downward, length_downward, ends_of_trail, trail_of_reaches}

abbrev pub bridges_above : Host → List Registers → Registers → List Node
bridges_above host fs f = above host.first (nodes fs) f.node.bus

-- the way up from a function
pub way_of : {host : Host} {fs : List Registers} → Sound host fs → (f : Registers) → f ∈ fs
    → Above host.first (nodes fs) f.node.bus (bridges_above host fs f)
way_of sound f m = above_is sound.bridges_rise sound.tree f.node (node_mem m)

-- what the host's request with this start address comes to
abbrev pub outcome_of : Host → (ℕ → Bool) → List Registers → ℕ → Outcome
outcome_of host enabled fs address = walk_from (tally_on enabled fs address) host.first 0

pub record Owns (host : Host) (enabled : ℕ → Bool) (fs : List Registers) (address : ℕ) (f : Registers) : Type 0 where
  pub in_sheet : f ∈ fs
  pub bar_holds_lem : Some (λ r. Holds r address) f.bars
  pub is_enabled : enabled f.node.number ≡ true
  pub bridges_enabled : All (λ b. enabled b.number ≡ true) (bridges_above host fs f)

module _ {host : Host} {fs : List Registers} (sound : Sound host fs) (enabled : ℕ → Bool) (address : ℕ) where
  pub crosses_bridges_above : (f : Registers) → Owns host enabled fs address f
      → Trail (tally_on enabled fs address) host.first (downward (bridges_above host fs f)) f.node.number
  crosses_bridges_above f o =
      trail_of_reaches sound enabled address host.first f _
      (record {
        in_sheet = o.in_sheet;
        bar_holds_lem = o.bar_holds_lem;
        is_enabled = o.is_enabled;
        way_up = way_of sound f o.in_sheet;
        bridges_enabled = o.bridges_enabled;
      })

  pub delivered_of_owner : (f : Registers) → Owns host enabled fs address f
      → outcome_of host enabled fs address ≡ delivered f.node.number (length (bridges_above host fs f))
  delivered_of_owner f o =
      walk_of_trail (rising_of_bridges enabled fs address sound.bridges_rise) host.first 0 _ _ (crosses_bridges_above f o)
      ∙ ap (delivered f.node.number) (omega (arith, length_downward (bridges_above host fs f)))

  pub owner_of_delivered : (number count : ℕ) → outcome_of host enabled fs address ≡ delivered number count
      → (f : Registers) × Owns host enabled fs address f × (f.node.number ≡ number) × (count ≡ length (bridges_above host fs f))
  unfolding walk_from
  owner_of_delivered number count e =
      let (trail, walked, count_is) = trail_of_delivered _ 256 host.first 0 number count e in
      let ends = ends_of_trail enabled fs address host.first trail number walked in
      let r = ends.reaches in
      let f = ends.owner in
      let same : ends.crossed ≡ bridges_above host fs f =
      above_unique sound.bridges_rise sound.tree f.node (node_mem r.in_sheet) _ _ r.way_up
      (way_of sound f r.in_sheet) in (
        f,
        record {
          in_sheet = r.in_sheet;
          bar_holds_lem = r.bar_holds_lem;
          is_enabled = r.is_enabled;
          bridges_enabled = rw same at
              r.bridges_enabled;
        },
        ends.number_is,
        omega (arith, count_is, ap length ends.trail_is, length_downward ends.crossed, ap length same),
      )

  not_several : (b : ℕ) → tally_on enabled fs address b ≡ several → ⊥
  not_several b = tally_not_several enabled fs address b sound.disjoint

  pub never_contested : outcome_of host enabled fs address ≡ refused contested → ⊥
  unfolding walk_from
  never_contested e = go (refused_elim (tally_on enabled fs address) 256 host.first 0 contested e)
    where
      go : (contested ≡ no_owner) ⊎ ((b : ℕ) × (tally_on enabled fs address b ≡ several)) → ⊥
      go (inl q) = omega arith
      go (inr (b, q)) = not_several b q

  pub otherwise_nobody : ((f : Registers) → Owns host enabled fs address f → ⊥) → outcome_of host enabled fs address ≡ refused no_owner
  unfolding walk_from
  otherwise_nobody nobody = go (outcome_of host enabled fs address) refl
    where
      by_number : (x : ℕ) → outcome_of host enabled fs address ≡ refused x → (x ≡ no_owner)
          ⊎ ((b : ℕ) × (tally_on enabled fs address b ≡ several))
          → outcome_of host enabled fs address ≡ refused no_owner
      by_number x e (inl q) = e ∙ ap refused q
      by_number x e (inr (b, q)) = absurd (not_several b q)

      go : (o : Outcome) → outcome_of host enabled fs address ≡ o → outcome_of host enabled fs address ≡ refused no_owner
      go (delivered n k) e = let (f, owns, _, _) = owner_of_delivered n k e in absurd (nobody f owns)
      go (refused x) e = by_number x e (refused_elim (tally_on enabled fs address) 256 host.first 0 x e)

  pub owner_unique : NumberedFrom 1 fs → (f g : Registers) → Owns host enabled fs address f → Owns host enabled fs address g → f ≡ g
  owner_unique numbered f g o p =
      let same : f.node.number ≡ g.node.number = cc (delivered_of_owner f o, delivered_of_owner g p) in
      number_unique 1 fs f g numbered o.in_sheet p.in_sheet same

  pub delivered_iff : NumberedFrom 1 fs → (f : Registers) → f ∈ fs → (count : ℕ)
      → (outcome_of host enabled fs address ≡ delivered f.node.number count)
      ↔ (Owns host enabled fs address f × (count ≡ length (bridges_above host fs f)))
  delivered_iff numbered f m count = (to, from)
    where
      to : outcome_of host enabled fs address ≡ delivered f.node.number count
          → Owns host enabled fs address f × (count ≡ length (bridges_above host fs f))
      to e =
          let (g, owns, number_is, count_is) = owner_of_delivered _ count e in
          let same : g ≡ f = number_unique 1 fs g f numbered owns.in_sheet m number_is in
          (rw same at owns, rw same at count_is)

      from : Owns host enabled fs address f × (count ≡ length (bridges_above host fs f))
          → outcome_of host enabled fs address ≡ delivered f.node.number count
      from (o, count_is) = delivered_of_owner f o ∙ ap (delivered f.node.number) (sym count_is)

-- The router starts on the bus of the first record: that is the host's first bus, and a sheet with no record has no claim on any.
pub root_is_first : (first : ℕ) (ns : List Node) → FirstOn first ns → 0 < length ns → root_of ns ≡ first
root_is_first first [] on some = absurd (omega arith)
root_is_first first (n ∷ ns) on some = on

pub outcome_from_first : {host : Host} (fs : List Registers) → Tree host (nodes fs) → (enabled : ℕ → Bool) (address : ℕ)
    → walk_from (tally_on enabled fs address) (root_of (nodes fs)) 0 ≡ outcome_of host enabled fs address
outcome_from_first {host} [] tree enabled address =
    walk_none _ _ 0 (tally_nil enabled address 0) ∙ sym (walk_none _ _ 0 (tally_nil enabled address host.first))
outcome_from_first {host} (f ∷ fs) tree enabled address =
    ap (λ (b : ℕ). walk_from (tally_on enabled (f ∷ fs) address) b 0) tree.first_on_root

-- At most one function of the sheet has a BAR over an address, enabled or not.
pub holder_unique : {host : Host} {fs : List Registers} → Sound host fs → NumberedFrom 1 fs → (address : ℕ) (f g : Registers)
    → f ∈ fs → g ∈ fs
    → Some (λ r. Holds r address) f.bars → Some (λ r. Holds r address) g.bars → f ≡ g
holder_unique {host} {fs} sound numbered address f g mf mg hf hg =
    owner_unique sound (λ n. true) address numbered f g (owns f mf hf) (owns g mg hg)
  where
    owns : (x : Registers) → x ∈ fs → Some (λ r. Holds r address) x.bars → Owns host (λ n. true) fs address x
    owns x m h = record { in_sheet = m; bar_holds_lem = h; is_enabled = refl; bridges_enabled = all_of _ (λ b. refl) (bridges_above host fs x) }

-- The sentences of demand 3 for one address.
pub record Delivers (host : Host) (enabled : ℕ → Bool) (fs : List Registers) (address : ℕ) : Type 0 where
  pub delivered_exactly : (f : Registers) → f ∈ fs → (count : ℕ)
      → (outcome_of host enabled fs address ≡ delivered f.node.number count)
      ↔ (Owns host enabled fs address f × (count ≡ length (bridges_above host fs f)))
  pub crosses_exactly : (f : Registers) → Owns host enabled fs address f
      → Trail (tally_on enabled fs address) host.first (downward (bridges_above host fs f)) f.node.number
  pub else_no_owner : ((f : Registers) → Owns host enabled fs address f → ⊥) → outcome_of host enabled fs address ≡ refused no_owner
  pub one_owner : (f g : Registers) → Owns host enabled fs address f → Owns host enabled fs address g → f ≡ g
  pub not_contested : outcome_of host enabled fs address ≡ refused contested → ⊥
  pub at_most_255 : (f : Registers) → f ∈ fs → length (bridges_above host fs f) ≤ 255

pub sound_delivers : {host : Host} {fs : List Registers} → Sound host fs → NumberedFrom 1 fs
    → (enabled : ℕ → Bool) (address : ℕ) → Delivers host enabled fs address
sound_delivers {host} {fs} sound numbered enabled address =
    record {
      delivered_exactly = delivered_iff sound enabled address numbered;
      crosses_exactly = crosses_bridges_above sound enabled address;
      else_no_owner = otherwise_nobody sound enabled address;
      one_owner = owner_unique sound enabled address numbered;
      not_contested = never_contested sound enabled address;
      at_most_255 = λ f m. above_at_most_255 (nodes fs) sound.bridges_rise _ _ _ (way_of sound f m);
    }

pub good_delivers : {host : Host} {fs : List Registers} → Good host fs → NumberedFrom 1 fs
    → (enabled : ℕ → Bool) (address : ℕ) → Delivers host enabled fs address
good_delivers good = sound_delivers (sound_of_good good)
