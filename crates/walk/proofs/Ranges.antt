-- Ranges of addresses: one holds an address, one lies inside another, two are apart. Half-open over whole numbers, so that an end at 2^64
-- is no special case. Assumes nothing.
use Rattle.std.specs.Prelude.{◌≡◌, ◌↔◌, Bool, true, ◌&&◌, List, ℕ, suc, leb, ltb}
use Rattle.std.proofs.Common.{ap, ◌∙◌, inl, inr, arith, leb-true, le-leb, ltb-true, lt-ltb}
use Rattle.std.proofs.Math.Bool.{and-eq-true_iff}
use Rattle.std.proofs.Math.Dec.{leb-suc-suc}
use Rattle.lists.specs.Lists.{Some, any}
use Rattle.lists.specs.ListLaws.{some_imp}
use Rattle.lists.specs.KeepLaws.{any_of_some, some_of_any}
use Rattle.walk.specs.Ranges.{Apart, Holds, Inside, Pool, Range, Within, holds}

pub holds_iff : (r : Range) (a : ℕ) → (holds r a ≡ true) ↔ Holds r a
holds_iff r a = (to, from)
  where
    to : holds r a ≡ true → Holds r a
    to e = let both = (and-eq-true_iff _ _).0 e in record { from_start = leb-true _ _ both.0; before_stop = ltb-true _ _ both.1 }

    from : Holds r a → holds r a ≡ true
    from h = (and-eq-true_iff _ _).1 (le-leb _ _ h.from_start, lt-ltb _ _ h.before_stop)

pub any_holds_iff : (address : ℕ) (rs : List Range) → (any (λ r. holds r address) rs ≡ true) ↔ Some (λ r. Holds r address) rs
any_holds_iff address rs = (to, from)
  where
    to : any (λ r. holds r address) rs ≡ true → Some (λ r. Holds r address) rs
    to e = some_imp _ _ (λ r h. (holds_iff r address).0 h) rs (some_of_any (λ r. holds r address) rs e)

    from : Some (λ r. Holds r address) rs → any (λ r. holds r address) rs ≡ true
    from h = any_of_some (λ r. holds r address) rs (some_imp _ _ (λ r k. (holds_iff r address).1 k) rs h)

-- by the last address, as registers give it: no sum past 2^64
pub holds_last : (p : Pool) (first last a : ℕ) → holds (record { pool = p; start = first; stop = suc last }) a ≡ (leb first a && leb a last)
holds_last p first last a = ap (λ (b : Bool). leb first a && b) (leb-suc-suc a last)

pub within_of_inside : {r outer : Range} → Inside r outer → Within r outer
within_of_inside i = record { start_inside = i.start_inside; stop_inside = i.stop_inside }

pub holds_of_within : {r outer : Range} {a : ℕ} → Within r outer → Holds r a → Holds outer a
holds_of_within i h = omega arith

pub inside_trans : {r s t : Range} → Inside r s → Inside s t → Inside r t
inside_trans i j = record { same_pool_lem = i.same_pool_lem ∙ j.same_pool_lem; start_inside = omega arith; stop_inside = omega arith }

pub apart_never_both : {r s : Range} {a : ℕ} → Apart r s → Holds r a → Holds s a → ⊥
apart_never_both (inl d) h k = omega arith
apart_never_both (inr d) h k = omega arith
