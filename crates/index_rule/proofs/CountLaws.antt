-- The functions of a sheet as the index has them: their numbers count from 1, their IDs have 16 bits, and each has at most seven owners.
-- Assumes nothing.
use Rattle.std.specs.Prelude.{◌≡◌, ◌⊎◌, Bool, true, false, cond, ℕ, suc, ◌+◌, ◌-◌, ◌*◌, ◌≤◌, ◌<◌, length, drop, leb, ltb}
use Rattle.std.proofs.Math.Path.{refl}
use Rattle.std.proofs.Common.{◌∙◌, inl, inr, leb-true, ltb-true}
use Rattle.std.proofs.Math.Bool.{and-eq-true_iff}
use mathlib.Core.List.Memᴰ
use mathlib.Core.List.{List, [], ◌∷◌, ◌++◌, map, flat_map}
use native.Mathlib.Omega.{arith}
use Rattle.std.proofs.Math.ListN.{length-append, length-map}
use Rattle.endian.specs.Endian.{Bytes}
use Rattle.endian.specs.EndianLaws.{be_lt}
use Rattle.endian.specs.BytesLaws.{bytes_take, bytes_drop}
use Rattle.lists.specs.Lists.{◌∈◌, All, keep}
use Rattle.pools.specs.declared.Space.{Space}
use Rattle.pools.specs.declared.Space.TheVariants.{Memory, Io as Ports}
use Rattle.walk.specs.Registers.{Node}
use Rattle.sheet_record.specs.Places.{id_at, stride}
use Rattle.sheet_record.specs.Entry.{Entry, entry_of}
use Rattle.sheet_record.specs.Spaces.{node_of, function_of, bars_of}
use Rattle.sheet.specs.Sheet.{Framed, entries_from, entries_of}
use Rattle.sheet.proofs.CheckLaws.{part_from, first_at}
use Rattle.sheet.proofs.LookupLaws.{id_of_entry}
use Rattle.sheet.specs.Spaces.{functions_from, nodes_from, nodes_of, enabled_of}
use Rattle.route.proofs.RouteLaws.{length_nodes}
use Rattle.index_layout.specs.Places.{most_slots}
use Rattle.index_layout.specs.Keys.{low_end, memory_end, id_base}
use Rattle.index_rule.specs.Owners.{Owner, is_live, bar_owner, owners_on, owned, owned_in, id_of, id_owner, moved}
use Rattle.index_rule.specs.Owners.{low_memory, high_memory, ports, starts_in, owned_of, id_owners, owners_below}
use Rattle.index_rule.proofs.BarsLaws.{few_bars}

-- ## Numbers and IDs

ids_from : (s : List ℕ) (at : ℕ) (es : List Entry) → Bytes s → entries_from s at ≡ es → Framed at s → All (λ e. e.id < 65536) es
ids_from s at [] b e f = tt
ids_from s at (x ∷ es) b e f =
    let r = first_at s at x es f e in
    let p = part_from s at in
    let bytes : Bytes p = bytes_take (at + stride - (at + 2)) (drop (at + 2) s) (bytes_drop (at + 2) s b) in
    let small : (entry_of p).id < 65536 = omega (arith, id_of_entry p, be_lt 2 p id_at bytes) in
    (rw r.head at small, ids_from s (at + stride) es b r.tail r.rest)

-- one of m functions that are numbered from k on
pub record Listed (k m : ℕ) (n : Node) : Type 0 where
  pub from_first : k ≤ n.number
  pub to_last : n.number < k + m
  pub devfn_is_byte : n.devfn < 256
  pub id_is_small : id_of n < 65536

listed_from : (k : ℕ) (es : List Entry) → All (λ e. e.id < 65536) es → (n : Node) → n ∈ nodes_from k es → Listed k (length es) n
unfolding nodes_from
listed_from k [] small n m = absurd (Memᴰ.not-nil m)
listed_from k (e ∷ es) small n m = go (Memᴰ.cases_cons m) (listed_from (k + 1) es small.1 n)
  where
    here : Listed k (suc (length es)) (node_of k e)
    here =
        record {
          from_first = omega arith;
          to_last = omega arith;
          devfn_is_byte = omega arith;
          id_is_small = omega (arith, small.0);
        }

    go : (n ≡ node_of k e) ⊎ (n ∈ nodes_from (k + 1) es) → (n ∈ nodes_from (k + 1) es → Listed (k + 1) (length es) n)
        → Listed k (suc (length es)) n
    go (inl is) later = rw is here
    go (inr in_rest) later =
        let l = later in_rest in
        record {
          from_first = omega (arith, l.from_first);
          to_last = omega (arith, l.to_last);
          devfn_is_byte = l.devfn_is_byte;
          id_is_small = l.id_is_small;
        }

pub listed : (s : List ℕ) → Bytes s → Framed 1 s → (n : Node) → n ∈ nodes_of s → Listed 1 (length (entries_of s)) n
listed s bytes framed n m = listed_from 1 (entries_of s) (ids_from s 1 (entries_of s) bytes refl framed) n m

-- ## At most seven owners a function

module _ (top : ℕ) (ns : List Node) (on : Space → ℕ → Bool) where
  owned_few : (space : Space) (k : ℕ) (e : Entry)
      → length (owners_on top ns (on space) (function_of space k e)) ≤ length (bars_of space e)
  owned_few space k e = go (is_live top ns (on space) (node_of k e))
    where
      go : (t : Bool) → length (cond t (map (bar_owner top ns (node_of k e)) (bars_of space e)) []) ≤ length (bars_of space e)
      go true = omega (arith, length-map (bars_of space e) (bar_owner top ns (node_of k e)))
      go false = omega arith

  abbrev owned_from : Space → ℕ → List Entry → List Owner
  owned_from space k es = owned top ns (on space) (functions_from space k es)

  owned_step : (space : Space) (k : ℕ) (e : Entry) (es : List Entry)
      → length (owned_from space k (e ∷ es)) ≤ length (bars_of space e) + length (owned_from space (k + 1) es)
  unfolding owned functions_from flat_map
  owned_step space k e es =
      let first = owners_on top ns (on space) (function_of space k e) in
      let rest = flat_map (owners_on top ns (on space)) (functions_from space (k + 1) es) in
      omega (arith, length-append first rest, owned_few space k e)

  owned_none : (space : Space) (k : ℕ) → length (owned_from space k []) ≡ 0
  unfolding owned functions_from flat_map
  owned_none space k = refl

  six_each : (k : ℕ) (es : List Entry) → length (owned_from Memory k es) + length (owned_from Ports k es) ≤ 6 * length es
  six_each k [] = omega (arith, owned_none Memory k, owned_none Ports k)
  six_each k (e ∷ es) =
      omega (arith, owned_step Memory k e es, owned_step Ports k e es, few_bars e, six_each (k + 1) es)

keep_le : {A : Type 0} (p : A → Bool) (xs : List A) → length (keep p xs) ≤ length xs
unfolding keep
keep_le p [] = omega arith
keep_le p (x ∷ xs) = go (p x) (keep_le p xs)
  where
    go : (t : Bool) → length (keep p xs) ≤ length xs → length (cond t (x ∷ keep p xs) (keep p xs)) ≤ suc (length xs)
    go true h = omega (arith, h)
    go false h = omega (arith, h)

-- two tests that no element passes both of
keep_apart : {A : Type 0} (p q : A → Bool) → ((x : A) → p x ≡ true → q x ≡ true → ⊥) → (xs : List A)
    → length (keep p xs) + length (keep q xs) ≤ length xs
unfolding keep
keep_apart p q apart [] = omega arith
keep_apart p q apart (x ∷ xs) = go (p x) (q x) refl refl (keep_apart p q apart xs)
  where
    go : (t u : Bool) → p x ≡ t → q x ≡ u → length (keep p xs) + length (keep q xs) ≤ length xs
        → length (cond t (x ∷ keep p xs) (keep p xs)) + length (cond u (x ∷ keep q xs) (keep q xs)) ≤ suc (length xs)
    go true true d e h = absurd (apart x d e)
    go true false d e h = omega (arith, h)
    go false true d e h = omega (arith, h)
    go false false d e h = omega (arith, h)

low_or_high : (x : Owner) → starts_in low_memory x ≡ true → starts_in high_memory x ≡ true → ⊥
low_or_high x low high =
    let l = (and-eq-true_iff (leb 0 x.start) (ltb x.start low_end)).0 low in
    let h = (and-eq-true_iff (leb low_end x.start) (ltb x.start memory_end)).0 high in
    omega (arith, ltb-true x.start low_end l.1, leb-true low_end x.start h.0)

module _ (top : ℕ) (s : List ℕ) where
  memory_few : length (owned_of low_memory top s) + length (owned_of high_memory top s) ≤ length (owned_in Memory top s)
  unfolding owned_of
  memory_few =
      let xs = owned_in Memory top s in
      omega (
        arith,
        length-map (keep (starts_in low_memory) xs) (moved low_memory.base),
        length-map (keep (starts_in high_memory) xs) (moved high_memory.base),
        keep_apart (starts_in low_memory) (starts_in high_memory) low_or_high xs,
      )

  ports_few : length (owned_of ports top s) ≤ length (owned_in Ports top s)
  unfolding owned_of
  ports_few =
      let xs = owned_in Ports top s in
      omega (arith, length-map (keep (starts_in ports) xs) (moved ports.base), keep_le (starts_in ports) xs)

  one_id_each : length (id_owners top s) ≡ length (entries_of s)
  unfolding id_owners
  one_id_each =
      length-map (nodes_of s) (λ (n : Node). moved id_base (id_owner top (nodes_of s) n)) ∙ length_nodes 1 (entries_of s)

  -- on any bytes
  pub seven_each : length (owners_below top s) ≤ most_slots (length (entries_of s))
  unfolding owners_below
  seven_each =
      let low = owned_of low_memory top s in
      let high = owned_of high_memory top s in
      let io = owned_of ports top s in
      let ids = id_owners top s in
      omega (
        arith,
        length-append low (high ++ (io ++ ids)),
        length-append high (io ++ ids),
        length-append io ids,
        memory_few,
        ports_few,
        one_id_each,
        six_each top (nodes_of s) (λ sp. enabled_of sp s) 1 (entries_of s),
      )
