-- A planned board delivers as document 01 says: the walk over its registers, which are good, told by placed BARs and parent records.
-- Assumes nothing.
use Rattle.std.specs.Prelude.{◌≡◌, refl, ◌↔◌, Bool, true, List, reverse, ℕ, length}
use Rattle.std.proofs.Common.{sym, ap, ap₂, subst, subst₂, ◌∙◌, arith}
use mathlib.Core.List.Memᴰ
use Rattle.lists.specs.Lists.{◌∈◌, All, Some}
use Rattle.lists.specs.ListLaws.{all_elim, all_intro, all_map_intro, member_of_some, some_of_member}
use Rattle.pools.specs.declared.Space.{Space}
use Rattle.plan_rule.specs.Records.{Host, Function}
use Rattle.plan_rule.specs.Placing.{placed}
use Rattle.plan_rule.specs.Numbering.{Numbered}
use Rattle.plan_rule.specs.Refusals.{refusal_of}
use Rattle.plan_rule.specs.Above.{above_by_parents}
use Rattle.walk.specs.Ranges.{Holds}
use Rattle.walk.specs.Registers.{Node, Registers}
use Rattle.walk.specs.Tally.{tally_on}
use Rattle.walk.specs.Walk.{delivered, refused, Trail}
use Rattle.walk.specs.Good.{Host as WalkHost, Good}
use Rattle.walk.proofs.Good.{sound_of_good}
use Rattle.walk.proofs.Reach.{numbers_of}
use Rattle.walk.proofs.Delivery.{Owns, Delivers, bridges_above, outcome_of, owner_of_delivered, good_delivers}
use Rattle.plan_good.specs.Boards.{Board}
use Rattle.plan_good.specs.Delivery.{BarHolds, OwnsAsPlaced, DeliversAsPlaced}
use Rattle.plan_good.specs.Registers.{range_of, bars_of, plan_rows, plan_register, plan_registers, plan_host}
use Rattle.plan_good.proofs.Rows.{placed_has_row}
use Rattle.plan_good.proofs.Items.{bars_elim, bars_intro, register_intro, register_bars, planned_numbered}
use Rattle.plan_good.proofs.Kept.{kept_of_planned}
use Rattle.plan_good.proofs.PlannedGood.{planned_good}
use Rattle.plan_good.proofs.AboveLaws.{above_agree, length_above}

module _ {h : Host} {fs : List Function} (board : Board h fs) (planned : refusal_of h fs ≡ 0) (sp : Space) (devfn : ℕ → ℕ)
    (enabled : ℕ → Bool) (address : ℕ) where
  abbrev regs : List Registers
  regs = plan_registers sp h fs devfn

  abbrev register : Numbered → Registers
  register = plan_register sp (placed h fs) devfn

  abbrev host : WalkHost
  host = plan_host sp h

  good : Good host regs
  good = planned_good board planned sp devfn

  delivers : Delivers host enabled regs address
  delivers = good_delivers good (planned_numbered sp h fs devfn) enabled address

  numbers_agree : (f : Registers) → f ∈ regs → numbers_of (bridges_above host regs f) ≡ above_by_parents fs f.node.number
  numbers_agree = above_agree h fs board (kept_of_planned h fs planned).buses devfn sp

  count_agree : (f : Registers) → f ∈ regs → length (bridges_above host regs f) ≡ length (above_by_parents fs f.node.number)
  count_agree = length_above h fs board (kept_of_planned h fs planned).buses devfn sp

  -- By the registers and by the placed BARs the same function owns the address
  bar_holds_iff : (f : Registers) → f ∈ regs → Some (λ r. Holds r address) f.bars ↔ Some (BarHolds sp f.node.number address)
      (placed h fs)
  bar_holds_iff f m = (to, from)
    where
      k : ℕ
      k = f.node.number

      bars : f.bars ≡ bars_of sp (placed h fs) f.node.number
      bars = register_bars sp h fs devfn m

      to : Some (λ r. Holds r address) f.bars → Some (BarHolds sp f.node.number address) (placed h fs)
      to s =
          let (r, in_bars, v) = member_of_some _ _ (rw bars at s) in
          let (x, there, p, e) = bars_elim sp k (placed h fs) in_bars in
          let w : Holds (range_of x) address = rw e v in
          some_of_member _ (placed h fs) there
          (record {
            owner_is = p.owner_is;
            is_bar_lem = p.part_is;
            in_space_lem = p.in_space_lem;
            from_start = w.from_start;
            before_end = w.before_stop;
          })

      from : Some (BarHolds sp f.node.number address) (placed h fs) → Some (λ r. Holds r address) f.bars
      from s =
          let (x, there, b) = member_of_some _ (placed h fs) s in
          let in_bars = bars_intro sp k (placed h fs) there
          (record { owner_is = b.owner_is; in_space_lem = b.in_space_lem; part_is = b.is_bar_lem }) in
          rw bars (some_of_member _ _ in_bars (record { from_start = b.from_start; before_stop = b.before_end }))

  bridges_enabled_iff : (f : Registers) → f ∈ regs
      → All (λ b. enabled b.number ≡ true) (bridges_above host regs f) ↔ All (λ b. enabled b ≡ true) (above_by_parents fs f.node.number)
  bridges_enabled_iff f m = (to, from)
    where
      bs : List Node
      bs = bridges_above host regs f

      same : numbers_of (bridges_above host regs f) ≡ above_by_parents fs f.node.number
      same = numbers_agree f m

      to : All (λ b. enabled b.number ≡ true) (bridges_above host regs f)
          → All (λ b. enabled b ≡ true) (above_by_parents fs f.node.number)
      to on = rw (← same) (all_map_intro _ (λ (b : Node). b.number) bs (λ b n. all_elim _ bs on n))

      from : All (λ b. enabled b ≡ true) (above_by_parents fs f.node.number)
          → All (λ b. enabled b.number ≡ true) (bridges_above host regs f)
      from on =
          let on_numbers : All (λ b. enabled b ≡ true) (numbers_of bs) = rw same on in
          all_intro _ bs (λ b n. all_elim _ (numbers_of bs) on_numbers (Memᴰ.map (λ (c : Node). c.number) n))

  placed_of_owns : (f : Registers) → Owns host enabled regs address f → OwnsAsPlaced sp h fs enabled address f.node.number
  placed_of_owns f o =
      let m = o.in_sheet in
      record {
        bar_holds_lem = (bar_holds_iff f m).0 o.bar_holds_lem;
        is_enabled = o.is_enabled;
        bridges_enabled = (bridges_enabled_iff f m).0 o.bridges_enabled;
      }

  owns_of_placed : (k : ℕ) → OwnsAsPlaced sp h fs enabled address k → (f : Registers) × Owns host enabled regs address f
      × (f.node.number ≡ k)
  owns_of_placed k o =
      let (x, there, b) = member_of_some _ (placed h fs) o.bar_holds_lem in
      let (y, in_rows, e) = member_of_some _ (plan_rows h fs)
      (all_elim _ (placed h fs) (placed_has_row h.first_bus h fs board.lawful) there) in
      let is : y.number ≡ k = e ∙ b.owner_is in
      let m = register_intro sp h fs devfn in_rows in (
        register y,
        record {
          in_sheet = m;
          bar_holds_lem = (bar_holds_iff (register y) m).1 (rw is o.bar_holds_lem);
          is_enabled = rw is o.is_enabled;
          bridges_enabled = (bridges_enabled_iff (register y) m).1 (rw is o.bridges_enabled);
        },
        is,
      )

  -- The request crosses exactly the bridges above its owner, the uppermost first
  pub crosses_above : (k : ℕ) → OwnsAsPlaced sp h fs enabled address k
      → Trail (tally_on enabled regs address) h.first_bus (reverse (above_by_parents fs k)) k
  crosses_above k o =
      let (f, owns, is) = owns_of_placed k o in
      let same : numbers_of (bridges_above host regs f) ≡ above_by_parents fs k = numbers_agree f owns.in_sheet
      ∙ ap (above_by_parents fs) is in
      subst₂ (λ (ns : List ℕ) (n : ℕ). Trail (tally_on enabled regs address) h.first_bus (reverse ns) n) same is
      (delivers.crosses_exactly f owns)

  pub planned_delivers : DeliversAsPlaced sp h fs enabled address (outcome_of host enabled regs address)
  planned_delivers =
      record {
        delivered_exactly = λ k count. (to k count, from k count);
        else_no_owner = (nobody, λ none. delivers.else_no_owner (λ f o. none f.node.number (placed_of_owns f o)));
        one_owner = one_owner;
        never_contested = delivers.not_contested;
      }
    where
      Owned : ℕ → Type 0
      Owned k = OwnsAsPlaced sp h fs enabled address k

      reached : (k : ℕ) → Owned k → outcome_of host enabled regs address ≡ delivered k (length (above_by_parents fs k))
      reached k o =
          let (f, owns, is) = owns_of_placed k o in
          let count = count_agree f owns.in_sheet ∙ ap (λ (n : ℕ). length (above_by_parents fs n)) is in
          (delivers.delivered_exactly f owns.in_sheet (length (bridges_above host regs f))).1 (owns, refl) ∙ ap₂ delivered is count

      to : (k count : ℕ) → outcome_of host enabled regs address ≡ delivered k count → Owned k × (count ≡ length (above_by_parents fs k))
      to k count e =
          let (f, owns, is, counted) = owner_of_delivered (sound_of_good good) enabled address k count e in (
            subst Owned is (placed_of_owns f owns),
            counted ∙ count_agree f owns.in_sheet
                ∙ ap (λ (n : ℕ). length (above_by_parents fs n)) is,
          )

      from : (k count : ℕ) → Owned k × (count ≡ length (above_by_parents fs k)) → outcome_of host enabled regs address ≡ delivered k count
      from k count (o, e) = reached k o ∙ ap (delivered k) (sym e)

      nobody : outcome_of host enabled regs address ≡ refused 40 → (k : ℕ) → Owned k → ⊥
      nobody e k o = let d = reached k o in let z : ◌≡◌ {A = ℕ} 0 1 = cc in omega arith

      one_owner : (j k : ℕ) → Owned j → Owned k → j ≡ k
      one_owner j k o p = let a = reached j o in let b = reached k p in cc
