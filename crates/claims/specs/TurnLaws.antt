-- One turn of a search by address over a checked sheet, in the words of the code: record k is passed over, or claims by its BARs and
-- windows before the records after it. Assumes nothing.
use Rattle.std.specs.Prelude.{◌≡◌, refl, Bool, true, false, cond, ◌&&◌, ℕ, ◌+◌, ◌≤◌, ◌<◌, take, eqb}
use Rattle.std.proofs.Math.Path.{sym, ap}
use Rattle.std.proofs.Common.{◌∙◌, arith}
use mathlib.Core.List.{List, ◌++◌, append_assoc}
use Rattle.std.proofs.Math.ListN.{length}
use Rattle.endian.specs.Endian.{be, le}
use Rattle.pools.specs.declared.Space.{Space}
use Rattle.records.specs.Limits.{most_functions}
use Rattle.bar.specs.BarLaws.{length_first}
use Rattle.walk.specs.Ranges.{Range}
use Rattle.walk.specs.Registers.{Registers, Claim, bar}
use Rattle.walk.specs.Tally.{none, Tally, join, hits_of, claims_of, claims_on, tally_on}
use Rattle.walk.proofs.SearchLaws.{claims_nil, claims_cons, claims_of_here, claims_of_other}
use Rattle.sheet_record.specs.EntryLaws.{bars_entry}
use Rattle.sheet_record.specs.Spaces.{bars_of, function_of}
use Rattle.sheet_record.specs.Places.{values_at, readbacks_at, record_size}
use Rattle.sheet_record.specs.Entry.{dwords, header_of, is_bridge, slot_count, entry_of}
use Rattle.sheet.specs.Sheet.{entries_from, entries_of, part_at, sheet_length, record_at}
use Rattle.sheet.proofs.IndexLaws.{length_part, record_fits, functions_index, functions_end, enabled_index}
use Rattle.sheet.proofs.SheetLaws.{Checked, lawful_index}
use Rattle.sheet.specs.Spaces.{functions_from, enabled_of}
use Rattle.sheet_record.specs.SpacesLaws.{bars_at}
use Rattle.claims.specs.declared.Aim.TheVariants.{Address}
use Rattle.claims.specs.Claims.{tally_for}
use Rattle.claims.specs.Search.{is_live, window_claims}
use Rattle.claims.specs.HitsLaws.{join_nil, LawfulFrom}

-- ## The slots of a set, in the words of the code

module _ (set p : List ℕ) (count i : ℕ) (r : set ≡ dwords (be 4) 6 p readbacks_at) (n : count ≡ slot_count (header_of p)) where
  length_six : length set ≡ 6
  unfolding dwords
  length_six = ap length r

  pub slots_le : count ≤ 6
  slots_le = omega (arith, n, go (is_bridge (header_of p)))
    where
      go : (b : Bool) → cond b 2 6 ≤ 6
      go true = omega arith
      go false = omega arith

  pub slots_inside : i < count → i < length (take count set)
  slots_inside h = omega (arith, length_first set count length_six, slots_le)

  pub slots_past : count ≤ i → length (take count set) ≤ i
  slots_past h = omega (arith, length_first set count length_six, slots_le)

-- ## What is left

-- the claims of record k and of those after it
unfoldable pub claims_from : Space → List ℕ → ℕ → ℕ → ℕ → List Claim
claims_from space s address bus k = claims_on (enabled_of space s) (functions_from space (k + 1) (entries_from s (record_at k))) address bus

pub claims_start : (space : Space) (s : List ℕ) (address bus : ℕ)
    → join none (claims_from space s address bus 0) ≡ tally_for (Address space address) s bus
unfolding tally_on claims_from
claims_start space s address bus = refl

-- the next record from `from` on that is on the bus and enabled is r, or there is none and r is their count
pub record NextLive (space : Space) (s : List ℕ) (bus from r : ℕ) : Type 0 where
  pub later : from ≤ r
  pub within : r ≤ length (entries_of s)
  pub live : r < length (entries_of s) → true ≡ is_live space bus (part_at s r)
  pub same : (address : ℕ) → claims_from space s address bus r ≡ claims_from space s address bus from

-- the claims of the record with this number, from place i of its set on, and of those after it
abbrev pub record_claims : Space → ℕ → ℕ → List ℕ → ℕ → List ℕ → List ℕ → List ℕ → ℕ → List Claim
record_claims space address bus s number p rs vs i =
    hits_of address (bar number) (bars_at space rs vs i) ++ (window_claims space address number p ++ claims_from space s address bus number)

-- n records in all
module _ (s : List ℕ) (c : Checked s) (n k : ℕ) (count : n ≡ length (entries_of s)) where
  pub claims_end : (space : Space) (address bus : ℕ) (t : Tally) → n ≤ k → t ≡ join t (claims_from space s address bus k)
  unfolding claims_from
  claims_end space address bus t h =
      let past = functions_end s c.framed space k (omega arith) in
      sym (ap (λ (fs : List Registers). join t (claims_on (enabled_of space s) fs address bus)) past
      ∙ ap (join t) (claims_nil (enabled_of space s) address bus)
      ∙ join_nil t)

  pub live_none : (space : Space) (bus from : ℕ) → n ≤ k → k ≤ n → from ≤ k
      → ((address : ℕ) → claims_from space s address bus k ≡ claims_from space s address bus from) → NextLive space s bus from n
  live_none space bus from h g l same =
      let i : k ≡ n = omega (arith, h, g) in
      record {
        later = omega (arith, h, l);
        within = omega (arith, count);
        live = λ m. absurd (omega (arith, count, m));
        same = λ address. ap (claims_from space s address bus) (sym i) ∙ same address;
      }

  module _ (h : k < n) where
    inside : k < length (entries_of s)
    inside = omega arith

    pub part_fits : sheet_length (k + 1) ≤ length s
    part_fits = record_fits s c.framed k inside

    -- record numbers fit
    pub number_le : k + 1 ≤ most_functions
    number_le = omega (arith, inside, c.count)

    -- p is the record's part
    module _ (p : List ℕ) (e : p ≡ part_at s k) where
      pub sized : length p ≡ record_size
      sized = ap length e ∙ length_part s k part_fits

      pub lawful_here : (set : List ℕ) (m : ℕ) → set ≡ dwords (be 4) 6 p readbacks_at → m ≡ slot_count (header_of p)
          → LawfulFrom (take m set) 0
      unfolding entry_of
      lawful_here set m r q = rw (r, q, e) (lawful_index s c k inside)

      -- b tells whether it is live
      module _ (space : Space) (bus : ℕ) (b : Bool) (live : b ≡ is_live space bus p) where
        function : Registers
        function = function_of space (k + 1) (entry_of p)

        live_is : (eqb function.node.bus bus && enabled_of space s function.node.number) ≡ b
        unfolding function entry_of
        live_is = rw (enabled_index s c.framed space k inside, ← e) (sym live)

        claims_step : (address : ℕ) → claims_from space s address bus k
            ≡ claims_of (enabled_of space s) address bus function ++ claims_from space s address bus (k + 1)
        unfolding function claims_from
        claims_step address =
            ap (λ (fs : List Registers). claims_on (enabled_of space s) fs address bus) (functions_index s c.framed space k inside)
            ∙ rw (← e) (claims_cons (enabled_of space s) address bus function
            (functions_from space (k + 1 + 1) (entries_from s (record_at (k + 1)))))

        pub claims_other : b ≡ false → (address : ℕ) → claims_from space s address bus (k + 1) ≡ claims_from space s address bus k
        claims_other off address =
            let none = claims_of_other (enabled_of space s) address bus function (live_is ∙ off) in
            sym (claims_step address ∙ ap (λ (cs : List Claim). cs ++ claims_from space s address bus (k + 1)) none)

        pub live_found : (from : ℕ) → b ≡ true → from ≤ k
            → ((address : ℕ) → claims_from space s address bus k ≡ claims_from space s address bus from) → NextLive space s bus from k
        live_found from on l same =
            record {
              later = l;
              within = omega (arith, inside);
              live = λ h. sym on ∙ live ∙ ap (is_live space bus) e;
              same = same;
            }

        pub claims_here : (address : ℕ) (t : Tally) (set values : List ℕ) (m : ℕ)
            → set ≡ dwords (be 4) 6 p readbacks_at → values ≡ dwords (le 4) 6 p values_at → m ≡ slot_count (header_of p) → b ≡ true
            → join t (record_claims space address bus s (k + 1) p (take m set) (take m values) 0) ≡ join t (claims_from space s address bus k)
        unfolding function
        claims_here address t set values m r v q on =
            let rest = claims_from space s address bus (k + 1) in
            let windows = window_claims space address (k + 1) p in
            sym (ap (join t) (claims_step address
            ∙ ap (λ (cs : List Claim). cs ++ rest) (claims_of_here (enabled_of space s) address bus function (live_is ∙ on))
            ∙ append_assoc (hits_of address (bar (k + 1)) (bars_of space (entry_of p))) windows rest
            ∙ ap (λ (rs : List Range). hits_of address (bar (k + 1)) rs ++ (windows ++ rest)) (bars_entry p space ∙ rw (r, v, q))))
