-- A pass over the records, in the words of the code: what it inserts of record k and of those after it. Assumes nothing.
use Rattle.std.specs.Prelude.{◌≡◌, Bool, ℕ, ◌+◌, ◌≤◌, ◌<◌, length}
use Rattle.std.proofs.Math.Path.{refl, ap}
use Rattle.std.proofs.Common.{◌∙◌, arith}
use Rattle.std.proofs.Math.Bool.{true, false, cond}
use mathlib.Core.List.{List, [], ◌∷◌, ◌++◌, map, flat_map}
use Rattle.lists.specs.Lists.{keep}
use Rattle.lists.specs.KeepLaws.{keep_nil, map_keep_append}
use Rattle.walk.specs.Ranges.{Range}
use Rattle.walk.specs.Registers.{Node, Registers}
use Rattle.sheet_record.specs.Entry.{Entry, entry_of}
use Rattle.sheet_record.specs.Spaces.{node_of, function_of, bars_of}
use Rattle.sheet.specs.Sheet.{Framed, entries_from, entries_of, part_at, record_at}
use Rattle.sheet.specs.Spaces.{functions_from, nodes_from, nodes_of, enabled_of}
use Rattle.sheet.proofs.IndexLaws.{entries_index, functions_index, functions_end}
use Rattle.sheet.proofs.CheckLaws.{entries_past, count_entries}
use Rattle.index_layout.specs.Keys.{id_base}
use Rattle.index_rule.specs.Owners.{Owner, is_live, bar_owner, owners_on, owned, id_owner, moved}
use Rattle.index_rule.specs.Owners.{Segment, starts_in, owned_of, id_owners}

-- ## The BARs of one function

-- what the pass takes of them
unfoldable pub taken : Segment → ℕ → List Node → Node → List Range → List Owner
taken g top ns n rs = map (moved g.base) (keep (starts_in g) (map (bar_owner top ns n) rs))

-- ## From record k on

unfoldable pub owned_after : Segment → ℕ → List ℕ → ℕ → List Owner
owned_after g top s k =
    map (moved g.base)
    (keep (starts_in g)
    (owned top (nodes_of s) (enabled_of g.space s) (functions_from g.space (k + 1) (entries_from s (record_at k)))))

unfoldable pub ids_after : ℕ → List ℕ → ℕ → List Owner
ids_after top s k = map (λ n. moved id_base (id_owner top (nodes_of s) n)) (nodes_from (k + 1) (entries_from s (record_at k)))

pub owned_start : (g : Segment) (top : ℕ) (s : List ℕ) → owned_after g top s 0 ≡ owned_of g top s
unfolding owned_after owned_of
owned_start g top s = refl

pub ids_start : (top : ℕ) (s : List ℕ) → ids_after top s 0 ≡ id_owners top s
unfolding ids_after id_owners
ids_start top s = refl

module _ (top : ℕ) (s : List ℕ) (framed : Framed 1 s) (k : ℕ) where
  pub owned_end : (g : Segment) → length (entries_of s) ≤ k → owned_after g top s k ≡ []
  unfolding owned_after owned flat_map keep
  owned_end g past =
      ap (λ (fs : List Registers). map (moved g.base) (keep (starts_in g) (owned top (nodes_of s) (enabled_of g.space s) fs)))
      (functions_end s framed g.space k past)

  pub ids_end : length (entries_of s) ≤ k → ids_after top s k ≡ []
  unfolding ids_after nodes_from
  ids_end past =
      ap (λ (es : List Entry). map (λ n. moved id_base (id_owner top (nodes_of s) n)) (nodes_from (k + 1) es))
      (entries_past s (record_at k) (omega (arith, count_entries s framed)))

  module _ (here : k < length (entries_of s)) where
    -- the record as the walk has it
    abbrev pub entry : Entry
    entry = entry_of (part_at s k)

    abbrev pub node : Node
    node = node_of (k + 1) entry

    pub owned_step : (g : Segment) → owned_after g top s k
        ≡ cond (is_live top (nodes_of s) (enabled_of g.space s) node) (taken g top (nodes_of s) node (bars_of g.space entry)) []
        ++ owned_after g top s (k + 1)
    unfolding owned_after owned flat_map taken
    owned_step g =
        let on = owners_on top (nodes_of s) (enabled_of g.space s) in
        let rest = functions_from g.space (k + 1 + 1) (entries_from s (record_at (k + 1))) in
        ap (λ (fs : List Registers). map (moved g.base) (keep (starts_in g) (flat_map on fs))) (functions_index s framed g.space k here)
        ∙ map_keep_append (starts_in g) (moved g.base) (on (function_of g.space (k + 1) entry)) (flat_map on rest)
        ∙ ap (λ (xs : List Owner). xs ++ map (moved g.base) (keep (starts_in g) (flat_map on rest)))
        (go (is_live top (nodes_of s) (enabled_of g.space s) node) (map (bar_owner top (nodes_of s) node) (bars_of g.space entry)))
      where
        go : (t : Bool) (xs : List Owner) → map (moved g.base) (keep (starts_in g) (cond t xs []))
            ≡ cond t (map (moved g.base) (keep (starts_in g) xs)) []
        go true xs = refl
        go false xs = ap (map (moved g.base)) (keep_nil (starts_in g))

    pub ids_step : ids_after top s k ≡ moved id_base (id_owner top (nodes_of s) node) ∷ ids_after top s (k + 1)
    unfolding ids_after nodes_from
    ids_step =
        ap (λ (es : List Entry). map (λ n. moved id_base (id_owner top (nodes_of s) n)) (nodes_from (k + 1) es)) (entries_index s framed k here)
