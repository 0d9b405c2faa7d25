-- The way up from a bus through the bridge that leads to it, in the words of the code. Assumes nothing.
use Rattle.std.specs.Prelude.{◌≡◌, Bool, true, false, List, [], ◌∷◌, ℕ, ◌+◌, ◌-◌, ◌<◌}
use Rattle.std.proofs.Common.{sym, ap, subst, ◌∙◌, arith, eq-eqb, ne_eqb}
use Rattle.pools.specs.declared.Space.{Space}
use Rattle.records.specs.Limits.{most_functions}
use Rattle.walk.specs.Registers.{Registers}
use Rattle.walk.specs.Walk.{no_owner, contested}
use Rattle.walk.specs.Climb.{Up, to_host, across, halts, not_master, leading_to, window_holds, up_through, up_from}
use Rattle.sheet_record.specs.Entry.{entry_of, header_of, is_bridge, bus_of, command_of}
use Rattle.sheet_record.specs.Spaces.{windows_of, command_bit, master_bit}
use Rattle.sheet.specs.Sheet.{part_at}
use Rattle.sheet.specs.Spaces.{registers_of, master_of}
use Rattle.sheet.proofs.SheetLaws.{Checked}
use Rattle.sheet_above.specs.declared.Parent.{Parent}
use Rattle.sheet_above.specs.declared.Parent.TheVariants.{Host, Bridge, Nothing, Several}
use Rattle.sheet_above.specs.Table.{IsParent}
use Rattle.sheet_above.specs.FunctionsLaws.{FunctionsAbove, functions_above}
use Rattle.route_cards.specs.Search.{part_of, function_at, IsBridgeAt, any_holds}
use Rattle.route_cards.specs.RecordLaws.{here, master_is, bus_is}

-- ## The way up, in the words of the code: r stands above the bus

module _ (s : List ℕ) (c : Checked s) (space : Space) (address top bus : ℕ) (r : Parent) (above : IsParent s top bus r) where
  told : (q : Parent) → r ≡ q → FunctionsAbove space s top bus q
  told q e = subst (FunctionsAbove space s top bus) e (functions_above space s top bus c.framed r above)

  pub up_host : r ≡ Host → to_host ≡ up_from (master_of s) (registers_of space s) address top bus
  unfolding up_from
  up_host e = rw (eq-eqb bus top (told Host e))

  below : ¬ (bus ≡ top) → up_through (master_of s) address (leading_to bus (registers_of space s))
      ≡ up_from (master_of s) (registers_of space s) address top bus
  unfolding up_from
  below other = rw (ne_eqb bus top other)

  pub up_none : r ≡ Nothing → halts no_owner ≡ up_from (master_of s) (registers_of space s) address top bus
  up_none e = let (other, is) = told Nothing e in ap (up_through (master_of s) address) (sym is) ∙ below other

  pub up_several : r ≡ Several → halts contested ≡ up_from (master_of s) (registers_of space s) address top bus
  up_several e =
      let (other, two) = told Several e in
      let (b, d, bs, is) = two in
      ap (up_through (master_of s) address) (sym is) ∙ below other

  -- the bridge of record k, from 0
  module _ (k : ℕ) (e : r ≡ Bridge k) where
    pub leads_here : IsBridgeAt s (k + 1)
    leads_here =
        let back : k + 1 - 1 ≡ k = omega arith in
        record {
          is_record = record { from_1 = omega arith; in_sheet = omega (arith, (above.whole k e).inside) };
          is_bridge_lem = ap (λ (j : ℕ). is_bridge (header_of (part_at s j))) back ∙ (above.whole k e).is_bridge_lem;
        }

    pub number_fits : k < most_functions
    number_fits = omega (arith, (above.whole k e).inside, c.count)

    pub up_one : (u : Up) → u ≡ up_through (master_of s) address (function_at space s (k + 1) ∷ [])
        → u ≡ up_from (master_of s) (registers_of space s) address top bus
    up_one u q =
        let (other, is) = told (Bridge k) e in
        q
        ∙ ap (λ (f : Registers). up_through (master_of s) address (f ∷ [])) (here s c space k)
        ∙ ap (up_through (master_of s) address) (sym is)
        ∙ below other

-- ## Through one bridge

-- p is the part of the bridge, w the test of its windows
module _ (s : List ℕ) (c : Checked s) (number : ℕ) (r : IsBridgeAt s number) (space : Space) (address : ℕ) (p : List ℕ)
    (e : p ≡ part_of s number)
    (w : Bool) (held : w ≡ any_holds address (windows_of space (entry_of p))) where
  windows_are : window_holds address (function_at space s number) ≡ w
  unfolding any_holds
  windows_are = rw (← e) (sym held)

  pub through_held : w ≡ true → halts no_owner ≡ up_through (master_of s) address (function_at space s number ∷ [])
  through_held y = rw (windows_are ∙ y)

  -- m the test of its bus master
  module _ (clear : w ≡ false) (m : Bool) (t : m ≡ command_bit master_bit (command_of p)) where
    master_here : master_of s number ≡ m
    master_here = master_is s c number r.is_record p e ∙ sym t

    pub through_unmastered : m ≡ false → halts not_master ≡ up_through (master_of s) address (function_at space s number ∷ [])
    through_unmastered n = rw (windows_are ∙ clear, master_here ∙ n)

    pub through_master : m ≡ true → (own : ℕ) → own ≡ bus_of p
        → across number own ≡ up_through (master_of s) address (function_at space s number ∷ [])
    through_master y own o =
        rw (windows_are ∙ clear, master_here ∙ y) (ap (across number) (o ∙ sym (bus_is s c number r.is_record p e space)))
