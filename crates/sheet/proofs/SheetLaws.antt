-- A sheet that passes 20 to 29, in the words of the walk's laws: record numbers count up, bridges rise (27) and IDs differ (28). Assumes
-- nothing.
use Rattle.std.specs.Prelude.{◌≡◌, refl, Bool, true, false, cond, ◌&&◌, List, [], ◌∷◌, ℕ, suc, ◌+◌, ◌-◌, ◌≤◌, ◌<◌, length, get_or, drop, eqb, leb, ltb}
use Rattle.std.proofs.Common.{ap, arith, ltb-true, ltb-false, leb-true, eqb-true, eq-eqb, ne_eqb, le-ltb}
use Rattle.std.proofs.Math.Bool.{and-eq-true_iff}
use Rattle.std.proofs.lemmas.Bool.{eqb-false, not-false}
use Rattle.arith.specs.BoolLaws.{past_test, false_of_or}
use Rattle.endian.specs.Endian.{Bytes}
use Rattle.endian.specs.BytesLaws.{bytes_take, bytes_drop}
use Rattle.pools.specs.declared.Space.{Space}
use Rattle.records.specs.Limits.{most_functions}
use Rattle.lists.specs.Lists.{All}
use Rattle.walk.specs.Registers.{nodes, NumberedFrom}
use Rattle.walk.specs.Good.{Rises, BridgesRise}
use Rattle.walk.specs.Ids.{DistinctIds}
use Rattle.sheet_record.specs.Spaces.{slots_of, node_of}
use Rattle.sheet.specs.declared.Rule.TheVariants.{HeaderType, Buses, ReadBacks, Nibbles}
use Rattle.sheet_record.specs.Places.{subordinate_at, stride}
use Rattle.sheet_record.specs.Entry.{Entry, header_of, is_bridge, subordinate_of, entry_of, bus, bridges}
use Rattle.sheet.specs.Sheet.{is_framed, Framed, part_at, entries_from, entries_of, buses_wrong, breaks, any_breaks, has_id, id_twice, from20}
use Rattle.sheet.specs.Sheet.{from21, from22, from24, from25, from27, from28, from29, sheet_number}
use Rattle.sheet.proofs.CheckLaws.{part_from, first_at}
use Rattle.bar.specs.Bar.{any_bad}
use Rattle.sheet.specs.Spaces.{functions_from, nodes_from, registers_of, nodes_of}
use Rattle.sheet.proofs.RulesLaws.{breaks_index, lawful_entry}

-- ## The checks, one by one

pub record Checked (s : List ℕ) : Type 0 where
  pub version : get_or s 0 0 ≡ 1
  pub framed : Framed 1 s
  pub count : length (entries_of s) ≤ most_functions
  pub types : any_breaks HeaderType (entries_of s) ≡ false
  pub buses : any_breaks Buses (entries_of s) ≡ false
  pub ids : id_twice (entries_of s) ≡ false
  pub readbacks : any_breaks ReadBacks (entries_of s) ≡ false
  pub nibbles : any_breaks Nibbles (entries_of s) ≡ false

past_else : (t : Bool) (n rest : ℕ) → cond t rest (suc n) ≡ 0 → (t ≡ true) × (rest ≡ 0)
past_else true n rest e = (refl, e)
past_else false n rest e = absurd (omega arith)

pub checked_of_zero : (s : List ℕ) → sheet_number s ≡ 0 → Checked s
unfolding sheet_number from21 from20 from22 from24 from27 from28 from25 from29
checked_of_zero s e =
    let es = entries_of s in
    let a = past_test (eqb (length s) 0) 19 (from21 s) e in
    let v = past_else (eqb (get_or s 0 0) 1) 20 (from20 s) a.1 in
    let f = past_else (is_framed (drop 1 s)) 19 (from22 es) v.1 in
    let c = past_test (ltb most_functions (length es)) 21 (from24 es) f.1 in
    let t = past_test (any_breaks HeaderType es) 23 (from27 es) c.1 in
    let b = past_test (any_breaks Buses es) 26 (from28 es) t.1 in
    let i = past_test (id_twice es) 27 (from25 es) b.1 in
    let r = past_test (any_breaks ReadBacks es) 24 (from29 es) i.1 in
    let n = past_test (any_breaks Nibbles es) 28 0 r.1 in
    record {
      version = eqb-true (get_or s 0 0) 1 v.0;
      framed = record { inside = omega (arith, eqb-false (length s) 0 a.0); sized = f.0 };
      count = ltb-false most_functions (length es) c.0;
      types = t.0;
      buses = b.0;
      ids = i.0;
      readbacks = r.0;
      nibbles = n.0;
    }

pub zero_of_checked : (s : List ℕ) → Checked s → sheet_number s ≡ 0
unfolding sheet_number from21 from20 from22 from24 from27 from28 from25 from29
zero_of_checked s c =
    rw (
      ne_eqb (length s) 0 (λ z. omega (arith, c.framed.inside)),
      eq-eqb (get_or s 0 0) 1 c.version,
      c.framed.sized,
      le-ltb most_functions (length (entries_of s)) c.count,
      c.types,
      c.buses,
      c.ids,
      c.readbacks,
      c.nibbles,
    )

-- ## Record numbers, buses and IDs

pub numbered_functions : (space : Space) (k : ℕ) (es : List Entry) → NumberedFrom k (functions_from space k es)
unfolding NumberedFrom functions_from
numbered_functions space k [] = tt
numbered_functions space k (e ∷ es) = (refl, numbered_functions space (k + 1) es)

-- where the functions stand is the same in every space
pub nodes_functions : (space : Space) (k : ℕ) (es : List Entry) → nodes (functions_from space k es) ≡ nodes_from k es
unfolding functions_from nodes_from
nodes_functions space k [] = refl
nodes_functions space k (e ∷ es) = ap (node_of k e ∷◌) (nodes_functions space (k + 1) es)

-- ## Check 27

abbrev pub BusBytes : Entry → Type 0
BusBytes e = e.subordinate < 256

rises_of_right : (k : ℕ) (e : Entry) → buses_wrong e ≡ false → BusBytes e → bridges e ≡ true → Rises (node_of k e)
rises_of_right k e w small b =
    let own_is = eqb (bus e) e.primary in
    let above = ltb e.primary e.secondary in
    let last = leb e.secondary e.subordinate in
    let own = (and-eq-true_iff own_is (above && last)).0 (not-false (own_is && (above && last)) (rw b at w)) in
    let order = (and-eq-true_iff above last).0 own.1 in
    record {
      own_below = omega (arith, eqb-true (bus e) e.primary own.0, ltb-true e.primary e.secondary order.0);
      range_open = leb-true e.secondary e.subordinate order.1;
      last_is_byte = small;
    }

rise_of_right : (k : ℕ) (es : List Entry) → any_breaks Buses es ≡ false → All BusBytes es → BridgesRise (nodes_from k es)
unfolding any_breaks breaks nodes_from
rise_of_right k [] w small = tt
rise_of_right k (e ∷ es) w small =
    let both = false_of_or (buses_wrong e) (any_breaks Buses es) w in
    (rises_of_right k e both.0 small.0, rise_of_right (k + 1) es both.1 small.1)

-- ## Check 28

absent : (k j : ℕ) (e : Entry) (es : List Entry) → has_id e.id es ≡ false
    → All (λ m. (node_of k e).bus ≡ m.bus → (node_of k e).devfn ≡ m.devfn → ⊥) (nodes_from j es)
unfolding has_id nodes_from
absent k j e [] h = tt
absent k j e (x ∷ es) h =
    let both = false_of_or (eqb x.id e.id) (has_id e.id es) h in
    (λ p q. eqb-false x.id e.id both.0 (omega arith), absent k (j + 1) e es both.1)

distinct_of_once : (k : ℕ) (es : List Entry) → id_twice es ≡ false → DistinctIds (nodes_from k es)
unfolding id_twice nodes_from
distinct_of_once k [] h = tt
distinct_of_once k (e ∷ es) h =
    let both = false_of_or (has_id e.id es) (id_twice es) h in
    (absent k (k + 1) e es both.0, distinct_of_once (k + 1) es both.1)

-- ## Of a sheet

-- a bus number that was read is a byte
bytes_of_entry : (p : List ℕ) → Bytes p → BusBytes (entry_of p)
unfolding entry_of
bytes_of_entry p b = go (is_bridge (header_of p))
  where
    go : (t : Bool) → cond t (subordinate_of p) 0 < 256
    go true = b subordinate_at
    go false = omega arith

bytes_from : (s : List ℕ) (at : ℕ) (es : List Entry) → Bytes s → entries_from s at ≡ es → Framed at s → All BusBytes es
bytes_from s at [] b e f = tt
bytes_from s at (x ∷ es) b e f =
    let r = first_at s at x es f e in (
      rw r.head at (bytes_of_entry (part_from s at) (bytes_take (at + stride - (at + 2)) (drop (at + 2) s) (bytes_drop (at + 2) s b))),
      bytes_from s (at + stride) es b r.tail r.rest,
    )

pub record Passes (s : List ℕ) : Type 0 where
  pub bridges_rise : BridgesRise (nodes_of s)
  pub distinct_ids : DistinctIds (nodes_of s)
  pub numbered : (space : Space) → NumberedFrom 1 (registers_of space s)
  pub nodes_are : (space : Space) → nodes (registers_of space s) ≡ nodes_of s

pub passes_of_zero : (s : List ℕ) → Bytes s → sheet_number s ≡ 0 → Passes s
passes_of_zero s b z =
    let c = checked_of_zero s z in
    record {
      bridges_rise = rise_of_right 1 (entries_of s) c.buses (bytes_from s 1 (entries_of s) b refl c.framed);
      distinct_ids = distinct_of_once 1 (entries_of s) c.ids;
      numbered = λ space. numbered_functions space 1 (entries_of s);
      nodes_are = λ space. nodes_functions space 1 (entries_of s);
    }

-- no slot of a checked sheet's record is unlawful, so that a search may go from BAR to BAR
pub lawful_index : (s : List ℕ) → Checked s → (k : ℕ) → k < length (entries_of s) → any_bad (slots_of (entry_of (part_at s k))) ≡ false
lawful_index s c k h = lawful_entry (entry_of (part_at s k)) (breaks_index ReadBacks s c.framed c.readbacks k h)
