-- Document 02, E6: the number of the first check that a host record and a sheet fail, and 0 where the sheet is accepted: 20 and 26 of the
-- host record, the sheet's 20 to 29, then 50, 51 and 52. And the same with 51 asked of the address space. Assumes nothing.
use Rattle.std.specs.Prelude.{Bool, true, false, cond, not, ◌&&◌, ◌||◌, List, [], ◌∷◌, ℕ, length, eqb, leb}
use Rattle.lists.specs.Lists.{any}
use Rattle.board_record.specs.declared.Host.{Host}
use Rattle.board_record.specs.Host.{host_length, host_of_part, host_wrong}
use Rattle.walk.specs.Ranges.{Range, Pool}
use Rattle.sheet_record.specs.Entry.{Entry, bus, bridges}
use Rattle.sheet.specs.Sheet.{entries_of, sheet_number}
use Rattle.sheet_above.specs.Parents.{Parent, under_host, under_bridge, under_none, under_several, parent_of}
use Rattle.sheet_ranges.specs.Ranges.{ranges_of, windows_in, pools_in, pool_number, space_number, overlap}
use Rattle.audit_rule.specs.declared.Nesting.{Nesting}
use Rattle.audit_rule.specs.declared.Nesting.TheVariants.{OfKind, OfSpace}

module _ {A : Type 0} where
  -- Does some element pass the test with a later one?
  unfoldable pub any_pair : (A → A → Bool) → List A → Bool
  any_pair t [] = false
  any_pair t (x ∷ xs) = any (t x) xs || any_pair t xs

-- ## 50

-- "any first record is on the host's first bus"
abbrev pub first_elsewhere : ℕ → List Entry → Bool
first_elsewhere root [] = false
first_elsewhere root (e ∷ es) = not (eqb (bus e) root)

-- the buses that a bridge leads to are among these
abbrev pub buses_in : ℕ → ℕ → Entry → Bool
buses_in first last e = leb first e.secondary && leb e.subordinate last

-- "every function is on that bus or on the secondary bus of exactly one bridge, bus ranges lie in the parent's"
abbrev pub parent_wrong : Parent → Entry → Bool
parent_wrong under_host e = false
parent_wrong (under_bridge b) e = bridges e && not (buses_in b.secondary b.subordinate e)
parent_wrong under_none e = true
parent_wrong under_several e = true

-- "and in the host's"
abbrev pub out_of_host : Host → Entry → Bool
out_of_host h e = bridges e && not (buses_in h.first_bus h.last_bus e)

-- the parent of a function among a sheet's
abbrev pub parent_in : Host → List Entry → Entry → Parent
parent_in h es e = parent_of h.first_bus es (bus e)

abbrev pub way_up_wrong : Host → List Entry → Entry → Bool
way_up_wrong h es e = parent_wrong (parent_in h es e) e || out_of_host h e

-- "and siblings' are disjoint": bridges of one bus have a bus in common
abbrev pub buses_shared : Entry → Entry → Bool
buses_shared e f =
    bridges e && (bridges f && (eqb (bus e) (bus f) && (leb e.secondary f.subordinate && leb f.secondary e.subordinate)))

unfoldable pub not_tree : Host → List Entry → Bool
not_tree h es = first_elsewhere h.first_bus es || (any (way_up_wrong h es) es || any_pair buses_shared es)

-- ## 51

-- what a function's ranges may lie in: "the window above, or on the root bus the pool"
unfoldable pub ranges_above : Host → Parent → List Range
ranges_above h under_host = pools_in h
ranges_above h (under_bridge b) = windows_in b
ranges_above h under_none = []
ranges_above h under_several = []

-- what pools are compared by
abbrev pub group_of : Nesting → Pool → ℕ
group_of OfKind q = pool_number q
group_of OfSpace q = space_number q

-- of the same pool, or of the same space, and no address of it is outside
abbrev pub inside : Nesting → Range → Range → Bool
inside n r outer =
    eqb (group_of n r.pool) (group_of n outer.pool) && (leb outer.start r.start && leb r.stop outer.stop)

-- "each BAR and open window lies in the window above, or on the root bus the pool, where document 01 puts its kind"
abbrev pub outside_all : Nesting → List Range → Range → Bool
outside_all n above r = not (any (inside n r) above)

abbrev pub outside_above : Nesting → Host → List Entry → Entry → Bool
outside_above n h es e = any (outside_all n (ranges_above h (parent_in h es e))) (ranges_of e)

unfoldable pub not_nested : Nesting → Host → List Entry → Bool
not_nested n h es = any (outside_above n h es) es

-- ## 52: "on each bus all BARs and open windows of one space are disjoint, enabled or not"

abbrev pub any_overlap : List Range → List Range → Bool
any_overlap rs ss = any (λ r. any (overlap r) ss) rs

abbrev pub overlap_on_bus : Entry → Entry → Bool
overlap_on_bus e f = eqb (bus e) (bus f) && any_overlap (ranges_of e) (ranges_of f)

-- those of a function among themselves, and with a later one's on its bus
unfoldable pub not_disjoint : List Entry → Bool
not_disjoint [] = false
not_disjoint (e ∷ es) = any_pair overlap (ranges_of e) || (any (overlap_on_bus e) es || not_disjoint es)

-- ## In order

unfoldable pub from52 : List Entry → ℕ
from52 es = cond (not_disjoint es) 52 0

unfoldable pub from51 : Nesting → Host → List Entry → ℕ
from51 n h es = cond (not_nested n h es) 51 (from52 es)

unfoldable pub from50 : Nesting → Host → List Entry → ℕ
from50 n h es = cond (not_tree h es) 50 (from51 n h es)

unfoldable pub from_sheet : Nesting → Host → List ℕ → ℕ
from_sheet n h s = cond (eqb (sheet_number s) 0) (from50 n h (entries_of s)) (sheet_number s)

unfoldable pub from26 : Nesting → Host → List ℕ → ℕ
from26 n h s = cond (host_wrong h) 26 (from_sheet n h s)

-- "50 to 52 are tried in turn"
unfoldable pub number_by : Nesting → List ℕ → List ℕ → ℕ
number_by n host s = cond (eqb (length host) host_length) (from26 n (host_of_part host) s) 20

-- the request's
unfoldable pub audit_number : List ℕ → List ℕ → ℕ
audit_number host s = number_by OfKind host s

-- 0 where every address has one owner: a memory BAR or window may lie in any memory window of the bridge above, and on the root bus in the
-- low or the high pool
unfoldable pub sound_number : List ℕ → List ℕ → ℕ
sound_number host s = number_by OfSpace host s
