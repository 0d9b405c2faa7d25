-- The BARs of a record, slot by slot, as slots of an index, in the words of the code; and the exponent by halving. Assumes nothing.
use Rattle.std.specs.Prelude.{◌≡◌, Bool, ◌&&◌, ℕ, zero, suc, ◌+◌, ◌-◌, ◌*◌, ◌/◌, ◌^◌, ◌≤◌, ◌<◌, length, take, drop, leb}
use Rattle.std.proofs.Math.Nat.{pow-suc, one-le-pow}
use Rattle.std.proofs.Math.Path.{refl}
use Rattle.std.proofs.Common.{sym, ap, ◌∙◌, le-leb, ltb-true}
use Rattle.std.proofs.Math.Bool.{true, false, cond, and-eq-true_iff}
use mathlib.Core.List.{List, [], ◌∷◌, ◌++◌}
use native.Mathlib.Omega.{arith}
use Rattle.std.proofs.Math.Dec.{ltb}
use Rattle.std.proofs.lemmas.Bool.{lt-leb}
use Rattle.endian.specs.Endian.{be, le}
use Rattle.pools.specs.declared.Pool as pools
use Rattle.pools.specs.declared.Space.{Space}
use Rattle.pools.specs.Pools.{in_space}
use Rattle.bar.specs.declared.Slot as bars
use Rattle.bar.specs.declared.Slot.TheVariants.{Unused, Bar, Upper, Bad}
use Rattle.bar.specs.Bar.{slot_here, any_bad, span}
use Rattle.bar.specs.Values.{value_here, base_of}
use Rattle.walk.specs.Ranges.{Range}
use Rattle.sheet_record.specs.Places.{values_at, readbacks_at}
use Rattle.sheet_record.specs.Entry.{dwords, header_of, slot_count, entry_of}
use Rattle.sheet_record.specs.Spaces.{bar_range, bar_here, slots_of, bars_of}
use Rattle.sheet_record.specs.SpacesLaws.{bars_at, bars_step, bars_end_lem}
use Rattle.sheet_record.specs.EntryLaws.{slots_entry, bars_entry}
use Rattle.claims.specs.HitsLaws.{LawfulFrom, not_bad}
use Rattle.index_rule.specs.Owners.{exponent_over, exponent_of}
use Rattle.index_slots.specs.Slots.{Slot}
use Rattle.index_pass.specs.declared.Segment.{Segment}
use Rattle.index_pass.specs.Pass.{bar_slots, bar_in}

-- ## The exponent: `left` is what the halvings have left after e of them

pub exponent_start : (size : ℕ) → 0 + exponent_over (64 - 0) size ≡ exponent_of size
unfolding exponent_of
exponent_start size = omega arith

pub exponent_done : (size left e : ℕ) → e < 64 → left ≤ 1 → e + exponent_over (64 - e) left ≡ exponent_of size → e ≡ exponent_of size
unfolding exponent_over
exponent_done size left e h l i =
    let d : 64 - e ≡ suc (64 - (e + 1)) = omega arith in
    let z : exponent_over (64 - e) left ≡ 0 = rw (d, le-leb left 1 l) in
    omega (arith, i, z)

pub exponent_more : (size left e : ℕ) → e < 64 → 1 < left → e + exponent_over (64 - e) left ≡ exponent_of size
    → (e + 1) + exponent_over (64 - (e + 1)) (left / 2) ≡ exponent_of size
unfolding exponent_over
exponent_more size left e h l i =
    let d : 64 - e ≡ suc (64 - (e + 1)) = omega arith in
    let z : exponent_over (64 - e) left ≡ suc (exponent_over (64 - (e + 1)) (left / 2)) = rw (d, lt-leb left 1 l) in
    omega (arith, i, z)

pub exponent_end : (size left e : ℕ) → 64 ≤ e → e ≤ 64 → e + exponent_over (64 - e) left ≡ exponent_of size → e ≡ exponent_of size
unfolding exponent_over
exponent_end size left e h l i =
    let d : 64 - e ≡ 0 = omega arith in
    let z : exponent_over (64 - e) left ≡ 0 = rw d in
    omega (arith, i, z)

-- the power of two at which a size stands, or below which it is the next
pub exponent_is : (k size e : ℕ) → e < k → 2 ^ e ≤ size → size < 2 * 2 ^ e → e ≡ exponent_over k size
unfolding exponent_over
exponent_is zero size e h l u = absurd (omega arith)
exponent_is (suc k) size zero h l u = let small : size ≤ 1 = omega arith in rw (le-leb size 1 small) refl
exponent_is (suc k) size (suc e) h l u =
    let p : 2 ^ suc e ≡ 2 * 2 ^ e = omega (arith, pow-suc 2 e) in
    let some : 1 ≤ 2 ^ e = one-le-pow e 2 (omega arith) in
    let more : 1 < size = omega arith in
    let half : e ≡ exponent_over k (size / 2) = exponent_is k (size / 2) e (omega arith) (omega arith) (omega arith) in
    rw (lt-leb size 1 more, ← half) refl

pub exponent_none : 0 ≡ exponent_of 0
unfolding exponent_of exponent_over
exponent_none = refl

-- ## One slot

pub bar_slots_append : (g : Segment) (end : ℕ) (rs ts : List Range) → bar_slots g end (rs ++ ts) ≡ bar_slots g end rs ++ bar_slots g end ts
unfolding bar_slots
bar_slots_append g end [] ts = refl
bar_slots_append g end (r ∷ rs) ts =
    go (leb g.first r.start && ltb r.start g.end) (bar_slots_append g end rs ts)
  where
    own : Slot
    own = record { key = g.base + r.start; word = exponent_of (r.stop - r.start) + end }

    go : (t : Bool) → bar_slots g end (rs ++ ts) ≡ bar_slots g end rs ++ bar_slots g end ts
        → cond t (own ∷ bar_slots g end (rs ++ ts)) (bar_slots g end (rs ++ ts))
        ≡ cond t (own ∷ bar_slots g end rs) (bar_slots g end rs) ++ bar_slots g end ts
    go true e = ap (own ∷◌) e
    go false e = e

bar_here_lem : (space : Space) (x : bars.Slot) (vs : List ℕ) → bar_here space x vs ≡ bar_in space x (value_here x vs)
bar_here_lem space Unused vs = refl
bar_here_lem space (Bar q wide size) vs = refl
bar_here_lem space Upper vs = refl
bar_here_lem space Bad vs = refl

pub no_slots : (g : Segment) (end : ℕ) (rs : List Range) → rs ≡ [] → bar_slots g end rs ≡ []
unfolding bar_slots
no_slots g end rs e = rw e

pub no_bar : (g : Segment) (end : ℕ) (x : bars.Slot) (v : ℕ)
    → ((q : pools.Pool) (wide : Bool) (size : ℕ) → x ≡ Bar q wide size → ⊥) → bar_slots g end (bar_in g.space x v) ≡ []
unfolding bar_slots
no_bar g end Unused v h = refl
no_bar g end (Bar q wide size) v h = absurd (h q wide size refl)
no_bar g end Upper v h = refl
no_bar g end Bad v h = refl

-- x is a BAR, `start` its base
module _ (g : Segment) (end : ℕ) (x : bars.Slot) (q : pools.Pool) (wide : Bool) (size v start : ℕ) (e : x ≡ Bar q wide size)
    (f : start ≡ base_of (Bar q wide size) v) where
  abbrev own_slot : Slot
  own_slot = record { key = g.base + start; word = exponent_of size + end }

  one_bar : bar_slots g end (bar_range q start size ∷ []) ≡ cond (leb g.first start && ltb start g.end) (own_slot ∷ []) []
  unfolding bar_slots
  one_bar =
      let sized : start + size - start ≡ size = omega arith in
      rw sized

  bar_slots_are : (t : Bool) → t ≡ (in_space g.space q && (leb g.first start && ltb start g.end))
      → bar_slots g end (bar_in g.space x v) ≡ cond t (own_slot ∷ []) []
  unfolding bar_slots
  bar_slots_are t is = rw (e, ← f, is) (go (in_space g.space q))
    where
      go : (s : Bool) → bar_slots g end (cond s (bar_range q start size ∷ []) [])
          ≡ cond (s && (leb g.first start && ltb start g.end)) (own_slot ∷ []) []
      go true = one_bar
      go false = refl

  module _ (t : Bool) (is : t ≡ (in_space g.space q && (leb g.first start && ltb start g.end))) where
    pub bar_outside : t ≡ false → bar_slots g end (bar_in g.space x v) ≡ []
    bar_outside z = bar_slots_are t is ∙ rw z

    pub bar_inside : t ≡ true → (k : ℕ) → k ≡ exponent_of size
        → bar_slots g end (bar_in g.space x v) ≡ record { key = g.base + start; word = k + end } ∷ []
    bar_inside y k z = bar_slots_are t is ∙ rw (y, z)

    pub start_below : t ≡ true → start < g.end
    start_below y =
        let outer = (and-eq-true_iff (in_space g.space q) (leb g.first start && ltb start g.end)).0 (sym is ∙ y) in
        let inner = (and-eq-true_iff (leb g.first start) (ltb start g.end)).0 outer.1 in
        ltb-true start g.end inner.1

-- ## The slots of a record: rs are its read-backs, vs its values

-- what is left from slot i on
abbrev pub slots_at : Segment → ℕ → List ℕ → List ℕ → ℕ → List Slot
slots_at g end rs vs i = bar_slots g end (bars_at g.space rs vs i)

-- x is the slot at i, v the number in its registers, n the places that it takes
pub slots_step : (g : Segment) (end : ℕ) (rs vs : List ℕ) (i : ℕ) (x : bars.Slot) (n v : ℕ) → i < length rs → x ≡ slot_here (drop i rs)
    → n ≡ span x → LawfulFrom rs i → v ≡ value_here x (drop i vs)
    → slots_at g end rs vs i ≡ bar_slots g end (bar_in g.space x v) ++ slots_at g end rs vs (i + n)
slots_step g end rs vs i x n v h e m lawful f =
    let here : bar_here g.space x (drop i vs) ≡ bar_in g.space x v =
    bar_here_lem g.space x (drop i vs) ∙ ap (bar_in g.space x) (sym f) in
    ap (bar_slots g end) (bars_step g.space rs vs i x h e (not_bad rs i x n h e m lawful))
    ∙ bar_slots_append g end (bar_here g.space x (drop i vs)) (bars_at g.space rs vs (i + span x))
    ∙ rw (here, ← m)

pub slots_past : (g : Segment) (end : ℕ) (rs vs : List ℕ) (i : ℕ) → length rs ≤ i → slots_at g end rs vs i ≡ []
slots_past g end rs vs i h = no_slots g end (bars_at g.space rs vs i) (bars_end_lem g.space rs vs i h)

-- before the first
module _ (p set values : List ℕ) (n : ℕ) (r : set ≡ dwords (be 4) 6 p readbacks_at) (c : n ≡ slot_count (header_of p)) where
  pub slots_start : (g : Segment) (end : ℕ) → values ≡ dwords (le 4) 6 p values_at
      → slots_at g end (take n set) (take n values) 0 ≡ bar_slots g end (bars_of g.space (entry_of p))
  slots_start g end v = ap (bar_slots g end) (sym (bars_entry p g.space ∙ rw (r, v, c)))

  pub lawful_start : any_bad (slots_of (entry_of p)) ≡ false → LawfulFrom (take n set) 0
  lawful_start w = rw (r, c) (sym (ap any_bad (slots_entry p)) ∙ w)
