-- Each step of the search for a range that lies in none above, in the words of the code. Assumes nothing.
use Rattle.std.specs.Prelude.{◌≡◌, Bool, ◌&&◌, List, ℕ, eqb, leb}
use Rattle.std.proofs.Common.{ap, ap₂, ◌∙◌}
use Rattle.std.proofs.Math.Dec.{leb-suc-suc}
use Rattle.lists.specs.Lists.{any}
use Rattle.board_record.specs.declared.Host.{Host}
use Rattle.walk.specs.Ranges.{Range}
use Rattle.sheet_record.specs.Entry.{Entry, bus_of, entry_of}
use Rattle.sheet.specs.Sheet.{entries_of, part_at}
use Rattle.sheet_above.specs.Parents.{parent_of}
use Rattle.sheet_above.specs.declared.Parent.{Parent}
use Rattle.sheet_above.specs.declared.Parent.TheVariants.{Host as UnderHost, Bridge, Nothing, Several}
use Rattle.sheet_above.specs.Table.{IsParent}
use Rattle.sheet_ranges.specs.Ranges.{windows_in, ranges_of, pools_in}
use Rattle.sheet_ranges.specs.declared.Item.{Item}
use Rattle.sheet_ranges.specs.Items.{range_of, ranges_in}
use Rattle.sheet_ranges.specs.ItemsLaws.{ranges_nil}
use Rattle.sheet_ranges.specs.SearchLaws.{bus_of_entry}
use Rattle.audit_rule.specs.Audit.{ranges_above, group_of, inside, outside_all, outside_above}
use Rattle.audit_rule.specs.declared.Nesting.{Nesting}

-- ## Two ranges

-- by last addresses; s and u are what their pools are compared by
pub inside_items : (n : Nesting) (a outer : Item) (s u : ℕ) → s ≡ group_of n (range_of a).pool → u ≡ group_of n (range_of outer).pool
    → (eqb s u && (leb outer.first a.first && leb a.last outer.last)) ≡ inside n (range_of a) (range_of outer)
inside_items n a outer s u e f = rw (e, f, leb-suc-suc a.last outer.last)

-- ## What a function's ranges may lie in: q stands above its bus, and rs are put

module _ (h : Host) (s : List ℕ) (root bus : ℕ) (q : Parent) (above : IsParent s root bus q) where
  pub above_host : q ≡ UnderHost → (rs : List Range) → rs ≡ pools_in h → rs ≡ ranges_above h (parent_of root (entries_of s) bus)
  unfolding ranges_above
  above_host e rs f = rw (above.same, e) f

  -- p is the bridge's part
  pub above_bridge : (k : ℕ) → q ≡ Bridge k → (p : List ℕ) → p ≡ part_at s k → (rs : List Range) → rs ≡ windows_in (entry_of p)
      → rs ≡ ranges_above h (parent_of root (entries_of s) bus)
  unfolding ranges_above
  above_bridge k e p is rs f = rw (above.same, e, ← is) f

  pub above_none : q ≡ Nothing → (xs : List ℕ) → ranges_in 0 xs ≡ ranges_above h (parent_of root (entries_of s) bus)
  unfolding ranges_above
  above_none e xs = rw (above.same, e) (ranges_nil xs)

  pub above_several : q ≡ Several → (xs : List ℕ) → ranges_in 0 xs ≡ ranges_above h (parent_of root (entries_of s) bus)
  unfolding ranges_above
  above_several e xs = rw (above.same, e) (ranges_nil xs)

-- ## A function: p is its part, b its bus, rs its ranges and above those that they may lie in

pub outside_above_part : (n : Nesting) (h : Host) (es : List Entry) (p : List ℕ) (b : ℕ) (rs above : List Range) (r : Bool) → b ≡ bus_of p
    → rs ≡ ranges_of (entry_of p) → above ≡ ranges_above h (parent_of h.first_bus es b) → r ≡ any (outside_all n above) rs
    → r ≡ outside_above n h es (entry_of p)
outside_above_part n h es p b rs above r e f g k =
    let above_is = g ∙ ap (λ (c : ℕ). ranges_above h (parent_of h.first_bus es c)) (e ∙ bus_of_entry p) in
    k ∙ ap₂ (λ (outer own : List Range). any (outside_all n outer) own) above_is f
