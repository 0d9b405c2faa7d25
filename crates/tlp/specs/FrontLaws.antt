-- The reader looks at the first sixteen bytes at most. Assumes nothing.
use Rattle.std.specs.Prelude.{ℕ, ◌*◌, ◌≤◌, ◌≡◌, List, [], ◌∷◌, length, take}
use Rattle.std.proofs.Math.Path.{refl}
use Rattle.std.proofs.Common.{ap, ⊎_elim, arith, take_all, le-ltb}
use Rattle.endian.specs.Endian.{be}
use Rattle.pairs.specs.declared.Kind.{Kind}
use Rattle.pairs.specs.declared.Kind.TheVariants.{Memory, Io, Config, Completion, Message, FetchAdd, Swap, Cas}
use Rattle.pairs.specs.declared.Pair.{Pair}
use Rattle.pairs.specs.declared.Pair.TheVariants.{Carried, NotCarried, Unknown}
use Rattle.pairs.specs.Pairs.{kind_named, pair_of}
use Rattle.pairs.proofs.PairsLaws.{pair_row}
use Rattle.tlp_fields.specs.Fields.{head_at, enables_at, address_at, target_at, outcome_at, unnamed, unnamed_target, unnamed_lower}
use Rattle.tlp.specs.Reading.{read_as, read_pair, read_of}

-- sixteen bytes and what follows them
module _ (a b c d e f g h i j k l m n o p : ℕ) where
  abbrev sixteen : List ℕ → List ℕ
  sixteen r = a ∷ b ∷ c ∷ d ∷ e ∷ f ∷ g ∷ h ∷ i ∷ j ∷ k ∷ l ∷ m ∷ n ∷ o ∷ p ∷ r

  as_front : (kind : Kind) (form : ℕ) (r : List ℕ) → read_as kind form (sixteen []) ≡ read_as kind form (sixteen r)
  unfolding head_at enables_at address_at target_at outcome_at unnamed unnamed_target unnamed_lower be
  as_front (Memory q) form r = refl
  as_front (Io q) form r = refl
  as_front (Config q) form r = refl
  as_front (Completion q) form r = refl
  as_front (Message q routing) form r = refl
  as_front FetchAdd form r = refl
  as_front Swap form r = refl
  as_front Cas form r = refl

  -- a form is four dwords at most
  pair_front : (q : Pair) → pair_of a ≡ q → (r : List ℕ) → read_pair q (sixteen []) ≡ read_pair q (sixteen r)
  pair_front Unknown z r = refl
  pair_front NotCarried z r = refl
  pair_front (Carried row) z r =
      let w = (pair_row a z).1.dwords in
      let small : 4 * row.form ≤ 16 = ⊎_elim (λ x. omega arith) (λ x. omega arith) w in
      rw (le-ltb 16 (4 * row.form) small, le-ltb (length (sixteen r)) (4 * row.form) (omega arith))
      (as_front (kind_named row.name) row.form r)

  sixteen_front : (r : List ℕ) → read_of (sixteen []) ≡ read_of (sixteen r)
  unfolding read_of
  sixteen_front r = rw (le-ltb (length (sixteen r)) 12 (omega arith)) (pair_front (pair_of a) refl r)

short_front : (s : List ℕ) → length s ≤ 16 → read_of (take 16 s) ≡ read_of s
short_front s h = ap read_of (take_all 16 s h)

pub read_front : (s : List ℕ) → read_of (take 16 s) ≡ read_of s
read_front (a ∷ b ∷ c ∷ d ∷ e ∷ f ∷ g ∷ h ∷ i ∷ j ∷ k ∷ l ∷ m ∷ n ∷ o ∷ p ∷ r) = sixteen_front a b c d e f g h i j k l m n o p r
read_front [] = short_front [] (omega arith)
read_front (a ∷ []) = short_front (a ∷ []) (omega arith)
read_front (a ∷ b ∷ []) = short_front (a ∷ b ∷ []) (omega arith)
read_front (a ∷ b ∷ c ∷ []) = short_front (a ∷ b ∷ c ∷ []) (omega arith)
read_front (a ∷ b ∷ c ∷ d ∷ []) = short_front (a ∷ b ∷ c ∷ d ∷ []) (omega arith)
read_front (a ∷ b ∷ c ∷ d ∷ e ∷ []) = short_front (a ∷ b ∷ c ∷ d ∷ e ∷ []) (omega arith)
read_front (a ∷ b ∷ c ∷ d ∷ e ∷ f ∷ []) = short_front (a ∷ b ∷ c ∷ d ∷ e ∷ f ∷ []) (omega arith)
read_front (a ∷ b ∷ c ∷ d ∷ e ∷ f ∷ g ∷ []) = short_front (a ∷ b ∷ c ∷ d ∷ e ∷ f ∷ g ∷ []) (omega arith)
read_front (a ∷ b ∷ c ∷ d ∷ e ∷ f ∷ g ∷ h ∷ []) = short_front (a ∷ b ∷ c ∷ d ∷ e ∷ f ∷ g ∷ h ∷ []) (omega arith)
read_front (a ∷ b ∷ c ∷ d ∷ e ∷ f ∷ g ∷ h ∷ i ∷ []) = short_front (a ∷ b ∷ c ∷ d ∷ e ∷ f ∷ g ∷ h ∷ i ∷ []) (omega arith)
read_front (a ∷ b ∷ c ∷ d ∷ e ∷ f ∷ g ∷ h ∷ i ∷ j ∷ []) = short_front (a ∷ b ∷ c ∷ d ∷ e ∷ f ∷ g ∷ h ∷ i ∷ j ∷ []) (omega arith)
read_front (a ∷ b ∷ c ∷ d ∷ e ∷ f ∷ g ∷ h ∷ i ∷ j ∷ k ∷ []) = short_front (a ∷ b ∷ c ∷ d ∷ e ∷ f ∷ g ∷ h ∷ i ∷ j ∷ k ∷ []) (omega arith)
read_front (a ∷ b ∷ c ∷ d ∷ e ∷ f ∷ g ∷ h ∷ i ∷ j ∷ k ∷ l ∷ []) =
    short_front (a ∷ b ∷ c ∷ d ∷ e ∷ f ∷ g ∷ h ∷ i ∷ j ∷ k ∷ l ∷ []) (omega arith)
read_front (a ∷ b ∷ c ∷ d ∷ e ∷ f ∷ g ∷ h ∷ i ∷ j ∷ k ∷ l ∷ m ∷ []) =
    short_front (a ∷ b ∷ c ∷ d ∷ e ∷ f ∷ g ∷ h ∷ i ∷ j ∷ k ∷ l ∷ m ∷ []) (omega arith)
read_front (a ∷ b ∷ c ∷ d ∷ e ∷ f ∷ g ∷ h ∷ i ∷ j ∷ k ∷ l ∷ m ∷ n ∷ []) =
    short_front (a ∷ b ∷ c ∷ d ∷ e ∷ f ∷ g ∷ h ∷ i ∷ j ∷ k ∷ l ∷ m ∷ n ∷ []) (omega arith)
read_front (a ∷ b ∷ c ∷ d ∷ e ∷ f ∷ g ∷ h ∷ i ∷ j ∷ k ∷ l ∷ m ∷ n ∷ o ∷ []) =
    short_front (a ∷ b ∷ c ∷ d ∷ e ∷ f ∷ g ∷ h ∷ i ∷ j ∷ k ∷ l ∷ m ∷ n ∷ o ∷ []) (omega arith)
