-- Document 02, E8, and the same by the second verdict: nothing past an index changes when it is built, and a search by it answers as the
-- router does over the sheet, which has one owner for every address. Bytes are what a slice of u8 holds. Assumes nothing.
use Rattle.std.specs.Prelude.{◌≡◌, Bool, List, [], ◌∷◌, map, ℕ, zero, suc, ◌≤◌, ◌<◌, length, get_or, eqb, ltb}
use Rattle.std.proofs.Math.Path.{refl, sym, ap}
use Rattle.std.proofs.Common.{◌∙◌, arith}
use Rattle.std.proofs.Math.Bool.{true, false, cond}
use Rattle.std.proofs.lemmas.List.{length-map}
use Rattle.std.proofs.Math.ListN.{get_or-map}
use borrow.Author.Tests.{eqb-true, eqb-false, ltb-false, lt-ltb, le-ltb}
use Rattle.lists.specs.Lists.{All}
use Rattle.lists.specs.ListLaws.{all_map_intro}
use Rattle.endian.specs.Endian.{Bytes}
use Rattle.records.specs.Limits.{most_functions}
use Rattle.walk.specs.Walk.{refused, no_owner}
use Rattle.sheet.specs.Sheet.{entries_of}
use Rattle.sheet.proofs.SheetLaws.{checked_of_zero}
use Rattle.claims.specs.declared.Aim.{Aim}
use Rattle.route.specs.Route.{walked, root, route_of}
use Rattle.route.proofs.RouteLaws.{length_nodes}
use Rattle.route_answer.specs.Listed.{on_room, listed_after}
use Rattle.route.specs.Listed.{list_after}
use Rattle.audit_rule.specs.Audit.{audit_number, sound_number}
use Rattle.audit_rule.specs.Accepted.{OneOwner}
use Rattle.index_rule.specs.Owners.{Owner, owners_of, key_of, in_reach, exponent_over, exponent_of}
use Rattle.index_rule.specs.Insert as rule
use Rattle.index_rule.proofs.InsertLaws.{map_inserted, insert_is}
use Rattle.index_rule.specs.Search as owners
use Rattle.index_rule.specs.Search.{sorted_owners, nobody, answer_at}
use Rattle.index_rule.proofs.WordLaws.{word_small}
use Rattle.index_rule.proofs.LineLaws.{owners_fit}
use Rattle.index_rule.proofs.IndexLaws.{root_of_sound, walked_out_of_reach, key_near, walked_at_last}
use Rattle.index_layout.specs.Places.{index_size, most_slots}
use Rattle.index_layout.specs.Keys.{segment_of}
use Rattle.index_slots.specs.Slots as slots
use Rattle.index_slots.specs.Slots.{Slot, no_slot, slot_at}
use Rattle.index_table.specs.Search.{found_at, Last, Searchable}
use Rattle.index_table.specs.BuiltLaws.{Lawful, built_searchable, length_built, get_d_built_past}
use Rattle.index_search.specs.Search.{functions_in, answer_over, outcome_over, search_of}
use Rattle.index_search.specs.SearchLaws.{IndexOf, search_agrees, search_listed_agrees}
use Rattle.index_pass.specs.Pass.{slot_of}
use Rattle.index_pass.specs.PassLaws.{passes_room}
use Rattle.index_build.specs.Build.{from11, number_after, build_number, sound_build_number}
use Rattle.index_build.specs.Build.{root_of, owner_slots, index_of, left_by, index_after, sound_index_after}
use Rattle.index_build.proofs.BuildLaws.{owned_of_audit, owned_of_sound}

-- ## Sorted owners are sorted slots

abbrev key : Slot → ℕ
key x = x.key

insert_same : (x : Slot) (ys : List Slot) → slots.insert x ys ≡ rule.insert key x ys
unfolding slots.insert
insert_same x ys = insert_is key slots.insert (λ z. refl) (λ z y zs. refl) x ys

inserted_same : (ys xs : List Slot) → slots.inserted ys xs ≡ rule.inserted key ys xs
unfolding slots.inserted rule.inserted
inserted_same ys [] = refl
inserted_same ys (x ∷ xs) =
    inserted_same (slots.insert x ys) xs ∙ ap (λ (zs : List Slot). rule.inserted key zs xs) (insert_same x ys)

sorted_slots : (host s : List ℕ) → slots.inserted [] (owner_slots host s) ≡ map slot_of (sorted_owners host s)
unfolding sorted_owners
sorted_slots host s = inserted_same [] (owner_slots host s) ∙ sym (map_inserted slot_of key [] (owners_of host s))

-- the slot of a position
slot_is : (xs : List Owner) (i : ℕ) → i ≤ length xs
    → get_or (no_slot ∷ map slot_of xs) i no_slot ≡ record { key = owners.key_at xs i; word = owners.word_at xs i }
unfolding owners.key_at owners.word_at exponent_of exponent_over
slot_is xs zero h = refl
slot_is xs (suc i) h =
    let inside : ltb i (length xs) ≡ true = lt-ltb i (length xs) h in
    rw inside (get_or-map slot_of xs i nobody)

-- a header with a lent slice for a broadcast's list: the search and the router answer alike, and leave the same numbers in it
abbrev ListedAlike : List ℕ → List ℕ → List ℕ → List ℕ → Type 0
ListedAlike header index s list =
    let found = on_room (search_of header index) (length list) in
    let routed = on_room (route_of header s) (length list) in
    (found ≡ routed) × (listed_after found list ≡ list_after routed s list)

-- ## The index of a sheet with one owner for every address, in room enough

module _ (host s o : List ℕ) (host_bytes_lem : Bytes host) (bytes : Bytes s) (a : OneOwner host s)
    (room : index_size (length (entries_of s)) ≤ length o) where
  abbrev n : ℕ
  n = length (entries_of s)

  abbrev index : List ℕ
  index = index_of host s o

  most : n ≤ most_functions
  most = (checked_of_zero s a.passes).count

  few : length (owner_slots host s) ≤ most_slots n
  few = omega (arith, passes_room (root_of host) s)

  lawful : All Lawful (owner_slots host s)
  lawful =
      all_map_intro Lawful slot_of (owners_of host s)
      (λ x m. let f = owners_fit host s host_bytes_lem bytes a x m in (f.start_small, word_small x f))

  pub index_searchable : Searchable n (root_of host) (map slot_of (sorted_owners host s)) index
  index_searchable =
      rw (← sorted_slots host s) (built_searchable n (root_of host) o (owner_slots host s) few room lawful most)

  -- ## What a search finds

  abbrev sorted : List Owner
  sorted = sorted_owners host s

  length_sorted : length (map slot_of sorted) ≡ length sorted
  length_sorted = length-map sorted slot_of

  module _ (aim : Aim) (near : in_reach aim ≡ true) where
    abbrev p : ℕ
    p = found_at index n (segment_of (key_of aim)) (key_of aim)

    found : Last (λ i. (get_or (no_slot ∷ map slot_of sorted) i no_slot).key) (suc (length (map slot_of sorted))) (key_of aim) p
    found = index_searchable.last (key_of aim) (key_near host s host_bytes_lem bytes a aim near)

    key_is_lem : (i : ℕ) → i < suc (length sorted) → (get_or (no_slot ∷ map slot_of sorted) i no_slot).key ≡ owners.key_at sorted i
    key_is_lem i h = ap (λ (x : Slot). x.key) (slot_is sorted i (omega (arith, h)))

    inside : p < suc (length sorted)
    inside = omega (arith, found.inside, length_sorted)

    last : owners.Last (owners.key_at sorted) (suc (length sorted)) (key_of aim) p
    last =
        record {
          inside = inside;
          not_above = rw (key_is_lem p inside) at found.not_above;
          then_above = λ q l h. rw (key_is_lem q h) at (found.then_above q l (omega (arith, h, length_sorted)));
        }

    slot_there : slot_at index n p ≡ record { key = owners.key_at sorted p; word = owners.word_at sorted p }
    slot_there = index_searchable.slots p (omega (arith, inside, length_sorted)) ∙ slot_is sorted p (omega (arith, inside))

    answer_there : answer_over index n (key_of aim) ≡ walked aim s (root s) 0
    unfolding answer_over
    answer_there =
        ap (λ (x : Slot). answer_at x.key x.word (key_of aim)) slot_there
        ∙ sym (walked_at_last host s host_bytes_lem bytes a aim near (suc (length sorted)) p (omega arith) last)

  outcome_there : (aim : Aim) → outcome_over index n aim ≡ walked aim s (root s) 0
  unfolding outcome_over
  outcome_there aim = go (in_reach aim) refl
    where
      go : (t : Bool) → in_reach aim ≡ t → cond t (answer_over index n (key_of aim)) (refused no_owner) ≡ walked aim s (root s) 0
      go true e = answer_there aim e
      go false e = sym (walked_out_of_reach host s host_bytes_lem bytes a aim e)

  functions_are : functions_in index ≡ n
  unfolding functions_in
  functions_are =
      let c = index_searchable.count in
      rw (c, le-ltb (length index) (index_size n) index_searchable.size)

  pub index_of_built : IndexOf index s
  index_of_built =
      record {
        functions_are = functions_are ∙ sym (length_nodes 1 (entries_of s));
        root_is = λ some.
            index_searchable.root_bus_lem
            ∙ sym (root_of_sound host s host_bytes_lem bytes a (omega (arith, some, functions_are, length_nodes 1 (entries_of s))));
        outcomes_are = λ aim. ap (λ (m : ℕ). outcome_over index m aim) functions_are ∙ outcome_there aim;
      }

  length_index : length (index_of host s o) ≡ length o
  length_index = length_built n (root_of host) o (owner_slots host s) few room lawful

  past_index : (k d : ℕ) → index_size n ≤ k → get_or (index_of host s o) k d ≡ get_or o k d
  past_index k d h = get_d_built_past n (root_of host) o (owner_slots host s) few room lawful k d h

-- ## A build that gave back a number: 0 only of such a sheet, in room enough

pub zero_elim : (v : ℕ) (s : List ℕ) (room : ℕ) → number_after v s room ≡ 0 → (v ≡ 0) × (index_size (length (entries_of s)) ≤ room)
unfolding from11
zero_elim v s room done = go (eqb v 0) refl (ltb room (index_size (length (entries_of s)))) refl done
  where
    go : (t : Bool) → eqb v 0 ≡ t → (u : Bool) → ltb room (index_size (length (entries_of s))) ≡ u
        → cond t (cond u 11 0) v ≡ 0 → (v ≡ 0) × (index_size (length (entries_of s)) ≤ room)
    go true e true f z = absurd (omega (arith, z))
    go true e false f z = (eqb-true v 0 e, ltb-false room (index_size (length (entries_of s))) f)
    go false e u f z = absurd (eqb-false v 0 e z)

-- an index may be made
abbrev pub Fitting : List ℕ → List ℕ → List ℕ → Type 0
Fitting host s o = OneOwner host s × (index_size (length (entries_of s)) ≤ length o)

module _ (host s o : List ℕ) (host_bytes_lem : Bytes host) (bytes : Bytes s) (number : ℕ) (fitting : number ≡ 0 → Fitting host s o) where
  pub length_left : length (left_by number host s o) ≡ length o
  length_left = go (eqb number 0) refl
    where
      go : (t : Bool) → eqb number 0 ≡ t → length (cond t (index_of host s o) o) ≡ length o
      go true e = let f = fitting (eqb-true number 0 e) in length_index host s o host_bytes_lem bytes f.0 f.1
      go false e = refl

  -- "nothing past its length does"
  pub past_left : (k d : ℕ) → index_size (length (entries_of s)) ≤ k → get_or (left_by number host s o) k d ≡ get_or o k d
  past_left k d h = go (eqb number 0) refl
    where
      go : (t : Bool) → eqb number 0 ≡ t → get_or (cond t (index_of host s o) o) k d ≡ get_or o k d
      go true e = let f = fitting (eqb-true number 0 e) in past_index host s o host_bytes_lem bytes f.0 f.1 k d h
      go false e = refl

  module _ (done : number ≡ 0) where
    left_is : left_by number host s o ≡ index_of host s o
    left_is = rw done

    index_of_left : IndexOf (left_by number host s o) s
    index_of_left = let f = fitting done in rw left_is (index_of_built host s o host_bytes_lem bytes f.0 f.1)

    -- a header, and a header with a lent slice for a broadcast's list
    pub search_left : (header : List ℕ) → search_of header (left_by number host s o) ≡ route_of header s
    search_left header = search_agrees (left_by number host s o) s index_of_left (fitting done).0.passes header

    pub listed_left : (header list : List ℕ) → ListedAlike header (left_by number host s o) s list
    listed_left header list = search_listed_agrees (left_by number host s o) s index_of_left (fitting done).0.passes header list

-- ## By the audit

module _ (host s o : List ℕ) (host_bytes_lem : Bytes host) (bytes : Bytes s) where
  fitting_audited : build_number host s (length o) ≡ 0 → Fitting host s o
  unfolding build_number
  fitting_audited done =
      let z = zero_elim (audit_number host s) s (length o) done in
      (owned_of_audit host s bytes (audit_number host s) refl z.0, z.1)

  pub search_is_route : build_number host s (length o) ≡ 0 → (header : List ℕ) → search_of header (index_after host s o) ≡ route_of header s
  unfolding index_after
  search_is_route = search_left host s o host_bytes_lem bytes (build_number host s (length o)) fitting_audited

  pub listed_is_route : build_number host s (length o) ≡ 0 → (header list : List ℕ) → ListedAlike header (index_after host s o) s list
  unfolding index_after
  listed_is_route = listed_left host s o host_bytes_lem bytes (build_number host s (length o)) fitting_audited

  pub length_after : length (index_after host s o) ≡ length o
  unfolding index_after
  length_after = length_left host s o host_bytes_lem bytes (build_number host s (length o)) fitting_audited

  pub past_stays : (k d : ℕ) → index_size (length (entries_of s)) ≤ k → get_or (index_after host s o) k d ≡ get_or o k d
  unfolding index_after
  past_stays = past_left host s o host_bytes_lem bytes (build_number host s (length o)) fitting_audited

-- ## By the second verdict

module _ (host s o : List ℕ) (host_bytes_lem : Bytes host) (bytes : Bytes s) where
  fitting_sound : sound_build_number host s (length o) ≡ 0 → Fitting host s o
  unfolding sound_build_number
  fitting_sound done =
      let z = zero_elim (sound_number host s) s (length o) done in
      (owned_of_sound host s bytes (sound_number host s) refl z.0, z.1)

  pub sound_search_is_route : sound_build_number host s (length o) ≡ 0
      → (header : List ℕ) → search_of header (sound_index_after host s o) ≡ route_of header s
  unfolding sound_index_after
  sound_search_is_route = search_left host s o host_bytes_lem bytes (sound_build_number host s (length o)) fitting_sound

  pub sound_listed_is_route : sound_build_number host s (length o) ≡ 0
      → (header list : List ℕ) → ListedAlike header (sound_index_after host s o) s list
  unfolding sound_index_after
  sound_listed_is_route = listed_left host s o host_bytes_lem bytes (sound_build_number host s (length o)) fitting_sound

  pub sound_length_after : length (sound_index_after host s o) ≡ length o
  unfolding sound_index_after
  sound_length_after = length_left host s o host_bytes_lem bytes (sound_build_number host s (length o)) fitting_sound

  pub sound_past_stays : (k d : ℕ) → index_size (length (entries_of s)) ≤ k → get_or (sound_index_after host s o) k d ≡ get_or o k d
  unfolding sound_index_after
  sound_past_stays = past_left host s o host_bytes_lem bytes (sound_build_number host s (length o)) fitting_sound
