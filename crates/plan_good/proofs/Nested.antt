-- On a planned board every BAR and open window lies in its pool, and below a bridge in the bridge's window of its pool. Assumes nothing.
use Rattle.std.specs.Prelude.{◌≡◌, refl, Bool, true, List, ℕ}
use Rattle.std.proofs.Common.{sym, subst, ◌∙◌, ⊎_elim, arith, le-leb}
use mathlib.Core.List.Memᴰ
use Rattle.lists.specs.Lists.{◌∈◌, Some}
use Rattle.lists.specs.ListLaws.{all_intro, all_map_intro, some_of_member, all_elim, member_of_some}
use Rattle.lists.specs.KeepLaws.{keep_intro}
use Rattle.pools.specs.declared.Space.{Space}
use Rattle.plan_rule.specs.Records.{Host, Function, Lawful}
use Rattle.plan_rule.specs.Layout.{Placed}
use Rattle.plan_rule.specs.Placing.{placed}
use Rattle.plan_rule.proofs.Placed.{Holds, well_placed}
use Rattle.plan_rule.specs.Numbering.{Numbered}
use Rattle.plan_rule.proofs.Numbered.{rises_unique}
use Rattle.walk.specs.Ranges.{Range, Inside}
use Rattle.walk.specs.Registers.{Item, items}
use Rattle.walk.specs.Good.{Nested as NestedItems}
use Rattle.plan_good.specs.Spaces.{pools_of}
use Rattle.plan_good.proofs.Spaces.{pool_of_space}
use Rattle.plan_good.specs.Registers.{range_of, plan_rows, windows_of, plan_register, plan_registers, plan_host, pool_range, is_open}
use Rattle.plan_good.proofs.Rows.{placed_bus_rises}
use Rattle.plan_good.proofs.BusRanges.{row_of}
use Rattle.plan_good.proofs.Items.{windows_intro, ItemPiece, item_piece, items_elim, item_bus}
use Rattle.plan_good.proofs.Kept.{AllKept, placed_in_pool, pool_open}

module _ (sp : Space) (h : Host) (fs : List Function) (lawful : Lawful fs) (devfn : ℕ → ℕ) where
  piece_in_pool : AllKept h fs → {y : Numbered} {k : Bool} {i : Item} → ItemPiece sp h fs devfn y k i
      → Some (Inside i.range) (plan_host sp h).pools
  piece_in_pool kept p =
      let q = p.piece.piece.pool in
      let lies = placed_in_pool h fs lawful kept p.is_placed in
      let opens = le-leb _ _ (pool_open h fs lawful kept p.is_placed) in
      let listed = keep_intro (is_open h) (pools_of sp) (pool_of_space sp q p.of_row.in_space_lem) opens in
      let inside : Inside (range_of p.piece) (pool_range h q) =
      record { same_pool_lem = refl; start_inside = lies.from_start; stop_inside = lies.to_end } in
      some_of_member _ _ (Memᴰ.map (pool_range h) listed) (subst (λ (r : Range). Inside r (pool_range h q)) (sym p.range_is) inside)

  -- The record above a piece on a bridge's bus is that bridge
  piece_below : {y b : Numbered} {k : Bool} {i : Item} → y ∈ plan_rows h fs → b ∈ plan_rows h fs → b.bridge ≡ true
      → (p : ItemPiece sp h fs devfn y k i)
      → i.owner.node.bus ≡ b.secondary → p.piece.piece.bus ≡ b.number
  piece_below {y} {b} m n is p e =
      let r = row_of h.first_bus fs lawful n in
      rises_unique h.first_bus fs p.piece.piece.bus b.number
      (all_elim _ (placed h fs) (placed_bus_rises h.first_bus h fs lawful) p.is_placed)
      (r.bridge_rises is)
      (sym (item_bus sp h fs devfn lawful m p) ∙ e ∙ r.secondary_is)

  piece_in_window : {b : Numbered} → b ∈ plan_rows h fs → {y : Numbered} {k : Bool} {i : Item} → (p : ItemPiece sp h fs devfn y k i)
      → p.piece.piece.bus ≡ b.number → Some (Inside i.range) (windows_of sp (placed h fs) b.number)
  piece_in_window {b} n {y} {k} {i} p below = ⊎_elim on_root_lem held
      (all_elim _ (placed h fs) (well_placed h fs lawful).contained p.is_placed)
    where
      x : Placed
      x = p.piece

      Goal : Type 0
      Goal = Some (Inside i.range) (windows_of sp (placed h fs) b.number)

      on_root_lem : x.piece.bus ≡ 0 → Goal
      on_root_lem root = absurd (omega (arith, (row_of h.first_bus fs lawful n).from_1))

      held : Some (Holds x) (placed h fs) → Goal
      held s =
          let (w, there, v) = member_of_some (Holds x) (placed h fs) s in
          let same = v.window.pool_is in
          let listed = windows_intro sp b.number (placed h fs) there (
          record { owner_is = v.window.owner_is ∙ below; in_space_lem = rw same p.of_row.in_space_lem; part_is = v.window.is_window_lem }
          ) in
          let inside : Inside (range_of x) (range_of w) =
          record { same_pool_lem = rw same refl; start_inside = v.within.from_start; stop_inside = v.within.to_end } in
          some_of_member _ _ listed (subst (λ (r : Range). Inside r (range_of w)) (sym p.range_is) inside)

  pub planned_nested : AllKept h fs → NestedItems (plan_host sp h) (plan_registers sp h fs devfn)
  unfolding plan_registers
  planned_nested kept =
      record {
        in_pool_lem =
            all_intro _ (items (plan_registers sp h fs devfn)) (λ i m _.
            let (y, in_rows, there) = items_elim sp h fs devfn m in
            piece_in_pool kept (item_piece sp h fs devfn y there).1);
        in_window_above =
            all_map_intro _ (plan_register sp (placed h fs) devfn) (plan_rows h fs) (λ b n is.
            all_intro _ (items (plan_registers sp h fs devfn)) (λ i m e.
            let (y, in_rows, there) = items_elim sp h fs devfn m in
            let p = (item_piece sp h fs devfn y there).1 in
            piece_in_window n p (piece_below in_rows n is p (rw is at e))));
      }
