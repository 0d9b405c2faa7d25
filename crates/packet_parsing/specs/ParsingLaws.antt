-- Twenty numbers, place by place: the test of the greatest by parts and what it says of every place. Assumes nothing.
use Rattle.std.specs.Prelude.{ℕ, zero, suc, ◌+◌, ◌≤◌, ◌<◌, ◌≡◌, refl, Bool, true, false, ◌||◌, List, [], ◌∷◌, ◌++◌, length, get_or, drop, ltb}
use Rattle.std.proofs.Common.{add-zero, zero-add, add-suc, suc-add, arith, sym, ◌∙◌, length-append, drop-cons, lt-ltb, le-ltb, ltb-false}
use Rattle.std.proofs.Math.Bool.{or-false, or_assoc}
use Rattle.arith.specs.BoolLaws.{false_of_or}
use Rattle.pairs.specs.declared.Kind.{Kind}
use Rattle.packet_parsing.specs.declared.Parsed.TheVariants.{Refused}
use Rattle.packet_numbers.specs.Numbers.{size}
use Rattle.packet_parsing.specs.Parsing.{last_kind, kind_at, head_most, most_of, any_above, Within}
use Rattle.packet_parsing.specs.Fields.{or_above}
use Rattle.packet_parsing.specs.Fields.{fields_as, fields_of}

-- ## The test by parts, in the words of the code

or_above_lem : (b : Bool) (at : ℕ) (ms ns : List ℕ) → at + length ms ≤ length ns → or_above b at ms ns ≡ b || any_above ms (drop at ns)
unfolding any_above
or_above_lem b at [] ns h = sym (or-false b)
or_above_lem b at (m ∷ ms) ns h =
    rw (drop-cons ns at 0 (omega arith))
    (or_above_lem (b || ltb m (get_or ns at 0)) (suc at) ms ns (omega arith) ∙ or_assoc b (ltb m (get_or ns at 0)) (any_above ms (drop (suc at) ns)))

or_above_append : (b : Bool) (at : ℕ) (xs ys ns : List ℕ) → or_above b at (xs ++ ys) ns ≡ or_above (or_above b at xs ns) (at + length xs) ys ns
or_above_append b at [] ys ns = rw (add-zero at)
or_above_append b at (x ∷ xs) ys ns =
    rw (add-suc at (length xs), ← suc-add at (length xs)) (or_above_append (b || ltb x (get_or ns at 0)) (suc at) xs ys ns)

-- the head, the places of a request and those of an outcome, each tested for itself
pub above_parts : (ns : List ℕ) → size ≤ length ns → (request outcome : List ℕ) → length request ≡ 5 → length outcome ≡ 5
    → or_above false 0 (last_kind ∷ 4 ∷ head_most) ns || or_above false 10 request ns || or_above false 15 outcome ns
    ≡ any_above (most_of request outcome) ns
above_parts ns enough request outcome five five' =
    let head = or_above false 0 (last_kind ∷ 4 ∷ head_most) ns in
    let joined = or_above_lem false 0 (most_of request outcome) ns (omega (arith, length-append request outcome)) in
    let split = or_above_append head 10 request outcome ns in
    let middle = or_above_lem head 10 request ns (omega arith) in
    let end = or_above_lem (or_above head 10 request ns) 15 outcome ns (omega arith) in
    rw (or_above_lem false 10 request ns (omega arith), or_above_lem false 15 outcome ns (omega arith), ← middle, ← end)
    (rw five at (sym split) ∙ joined)

-- ## What the test says of every place

pub at_most : (ms ns : List ℕ) → any_above ms ns ≡ false → length ms ≤ length ns → (i : ℕ) → i < length ms → get_or ns i 0 ≤ get_or ms i 0
unfolding any_above
at_most [] ns e l i h = absurd (omega arith)
at_most (m ∷ ms) [] e l i h = absurd (omega arith)
at_most (m ∷ ms) (n ∷ ns) e l zero h = ltb-false m n (false_of_or (ltb m n) (any_above ms ns) e).0
at_most (m ∷ ms) (n ∷ ns) e l (suc i) h = at_most ms ns (false_of_or (ltb m n) (any_above ms ns) e).1 (omega arith) i (omega arith)

none_of_most : (ms ns : List ℕ) → ((i : ℕ) → i < length ms → get_or ns i 0 ≤ get_or ms i 0) → any_above ms ns ≡ false
unfolding any_above
none_of_most [] ns h = refl
none_of_most (m ∷ ms) [] h = refl
none_of_most (m ∷ ms) (n ∷ ns) h = rw (le-ltb m n (h 0 (omega arith))) (none_of_most ms ns (λ i l. h (suc i) (omega arith)))

within_elim : (at : ℕ) (ms ns : List ℕ) → Within at ms ns → (i : ℕ) → i < length ms → get_or ns (at + i) 0 ≤ get_or ms i 0
within_elim at [] ns w i h = absurd (omega arith)
within_elim at (m ∷ ms) ns w zero h = rw (add-zero at) w.0
within_elim at (m ∷ ms) ns w (suc i) h = rw (add-suc at i, ← suc-add at i) (within_elim (suc at) ms ns w.1 i (omega arith))

pub within_intro : (at : ℕ) (ms ns : List ℕ) → ((i : ℕ) → i < length ms → get_or ns (at + i) 0 ≤ get_or ms i 0) → Within at ms ns
within_intro at [] ns h = tt
within_intro at (m ∷ ms) ns h = (
  rw (add-zero at) at (h 0 (omega arith)),
  within_intro (suc at) ms ns (λ i l. rw (add-suc at i, ← suc-add at i) at (h (suc i) (omega arith))),
)

pub within_of_none : (ms ns : List ℕ) → any_above ms ns ≡ false → length ms ≤ length ns → Within 0 ms ns
within_of_none ms ns e l = within_intro 0 ms ns (λ i h. rw (zero-add i) (at_most ms ns e l i h))

pub none_of_within : (ms ns : List ℕ) → Within 0 ms ns → any_above ms ns ≡ false
none_of_within ms ns w = none_of_most ms ns (λ i h. rw (zero-add i) at (within_elim 0 ms ns w i h))

-- ## What numbers are taken for, in the words of the code

-- n is none of the first k numbers
abbrev pub NoneOf : ℕ → ℕ → Type 0
NoneOf zero n = Unit
NoneOf (suc k) n = NoneOf k n × (n ≡ k → ⊥)

pub le_of_none : (k n : ℕ) → NoneOf k n → k ≤ n
le_of_none zero n none = omega arith
le_of_none (suc k) n none = let l = le_of_none k n none.0 in let d = none.1 in omega (arith, l, d)

pub too_few : (ns : List ℕ) → length ns < size → Refused 11 ≡ fields_of ns
unfolding fields_of
too_few ns h = rw (lt-ltb (length ns) size h)

module _ (ns : List ℕ) (enough : size ≤ length ns) where
  pub outside_list : ltb last_kind (get_or ns 0 0) || ltb 4 (get_or ns 1 0) ≡ true → Refused 2 ≡ fields_of ns
  unfolding fields_of
  outside_list e = rw (le-ltb (length ns) size enough, e)

  pub inside_list : ltb last_kind (get_or ns 0 0) || ltb 4 (get_or ns 1 0) ≡ false → (kind : Kind) → kind ≡ kind_at (get_or ns 0 0) (get_or ns 10 0)
      → fields_as kind ns ≡ fields_of ns
  unfolding fields_of
  inside_list e kind named = rw (le-ltb (length ns) size enough, e, named)
