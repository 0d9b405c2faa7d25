-- On a planned board the BARs and open windows of one space on one bus are disjoint, low and high memory together. Assumes nothing.
use Rattle.std.specs.Prelude.{◌≡◌, refl, Bool, true, false, cond, ℕ, ◌<◌}
use Rattle.std.proofs.Common.{sym, ◌∙◌, inl, inr, ⊎_elim, arith}
use Rattle.std.proofs.Math.Path.{ap}
use Rattle.std.proofs.Math.Bool.{false≢true}
use mathlib.Core.List.{List, [], map}
use Rattle.pools.specs.declared.Space.{Space}
use Rattle.pools.specs.Pools.{in_space}
use Rattle.plan_rule.specs.Pools.{low, high}
use Rattle.plan_rule.specs.Records.{Host, Function}
use Rattle.plan_rule.specs.Preorder.{parent_of}
use Rattle.plan_rule.specs.Layout.{Placed, is_window}
use Rattle.plan_rule.specs.Placing.{placed}
use Rattle.plan_rule.specs.Numbering.{bus_number, Numbered}
use Rattle.plan_rule.specs.Siblings.{bus_of}
use Rattle.plan_rule.proofs.Siblings.{disjoint_by_number}
use Rattle.lists.specs.Lists.{◌∈◌, Pairwise, keep}
use Rattle.lists.specs.ListLaws.{all_intro, all_map_intro, pairwise_append, pairwise_flat, pairwise_map, pairwise_imp_members, all_elim}
use Rattle.lists.specs.ListLaws.{pairwise_members}
use Rattle.lists.specs.KeepLaws.{keep_elim, pairwise_keep}
use Rattle.walk.specs.Ranges.{Range, Apart}
use Rattle.walk.specs.Registers.{Registers, Item, items_of, items, bar_item, window_item, open_windows}
use Rattle.walk.specs.Good.{ApartOnBus}
use Rattle.walk.specs.Good.{Disjoint as DisjointItems}
use Rattle.plan_good.proofs.Spaces.{same_space}
use Rattle.plan_good.specs.Boards.{Board}
use Rattle.plan_good.proofs.Boards.{memory_apart}
use Rattle.plan_good.specs.Registers.{range_of, is_bar_of, is_window_of, plan_rows, plan_register, plan_registers}
use Rattle.plan_good.proofs.Rows.{placed_bus, numbers_rise}
use Rattle.plan_good.proofs.Items.{PieceOf, bar_of_is, window_of_is, ItemPiece, item_piece, bar_item_piece, window_item_piece}
use Rattle.plan_good.proofs.Items.{item_bus}
use Rattle.plan_good.proofs.Kept.{AllKept}

module _ (sp : Space) (h : Host) (fs : List Function) (board : Board h fs) (kept : AllKept h fs) where
  -- Two pieces of the space on one bus are apart
  abbrev Clear : Placed → Placed → Type 0
  Clear x y =
      bus_of h.first_bus fs x ≡ bus_of h.first_bus fs y → in_space sp x.piece.pool ≡ true → in_space sp y.piece.pool ≡ true
      → Apart (range_of x) (range_of y)

  clear_sym : (x y : Placed) → Clear x y → Clear y x
  clear_sym x y c e i j = ⊎_elim inr inl (c (sym e) j i)

  placed_clear : Pairwise Clear (placed h fs)
  placed_clear =
      pairwise_imp_members _ Clear (placed h fs)
      (λ x y m n g e i j. g e (same_space sp x.piece.pool y.piece.pool i j))
      (disjoint_by_number h.first_bus h fs board.lawful (kept.pools low) (kept.pools high) (memory_apart h board.edges))

  -- The BARs of one record, or its windows
  parts_apart : (k : ℕ) (is_window_lem : Bool) (test : Placed → Bool) → ((x : Placed) → test x ≡ true → PieceOf sp k is_window_lem x)
      → Pairwise Apart (map range_of (keep test (placed h fs)))
  parts_apart k is_window_lem test known =
      pairwise_map Apart range_of (keep test (placed h fs))
      (pairwise_imp_members Clear _ (keep test (placed h fs)) apart (pairwise_keep Clear test (placed h fs) placed_clear))
    where
      above : {x : Placed} → x ∈ placed h fs → x.piece.bus ≡ parent_of fs x.piece.owner
      above = all_elim _ (placed h fs) (placed_bus fs board.lawful h)

      apart : (x y : Placed) → x ∈ keep test (placed h fs) → y ∈ keep test (placed h fs) → Clear x y → Apart (range_of x) (range_of y)
      apart x y m n c =
          let a = keep_elim test (placed h fs) m in
          let b = keep_elim test (placed h fs) n in
          let p = known x a.1 in
          let q = known y b.1 in
          let same : x.piece.bus ≡ y.piece.bus = above a.0 ∙ ap (parent_of fs) (p.owner_is ∙ sym q.owner_is)
          ∙ sym (above b.0) in
          c (ap (bus_number h.first_bus fs) same) p.in_space_lem q.in_space_lem

  module _ (devfn : ℕ → ℕ) where
    abbrev register : Numbered → Registers
    register = plan_register sp (placed h fs) devfn

    -- Items of two different pieces
    pieces_apart : {y z : Numbered} {k l : Bool} {i j : Item} → y ∈ plan_rows h fs → z ∈ plan_rows h fs
        → (p : ItemPiece sp h fs devfn y k i) (q : ItemPiece sp h fs devfn z l j) → (p.piece ≡ q.piece → ⊥) → ApartOnBus i j
    pieces_apart m n p q differ e =
        rw (p.range_is, q.range_is)
        (⊎_elim
        (λ same. absurd (differ same))
        (⊎_elim
        (λ c. c on_bus_lem p.of_row.in_space_lem q.of_row.in_space_lem)
        (λ c. clear_sym q.piece p.piece c on_bus_lem p.of_row.in_space_lem q.of_row.in_space_lem))
        (pairwise_members Clear (placed h fs) placed_clear p.is_placed q.is_placed))
      where
        on_bus_lem : bus_of h.first_bus fs p.piece ≡ bus_of h.first_bus fs q.piece
        on_bus_lem = sym (item_bus sp h fs devfn board.lawful m p) ∙ e ∙ item_bus sp h fs devfn board.lawful n q

    -- One record's BARs and windows
    record_apart : (y : Numbered) → y ∈ plan_rows h fs → Pairwise ApartOnBus (items_of (register y))
    unfolding items_of
    record_apart y m =
        pairwise_append ApartOnBus bar_items window_items bars windows
        (all_intro _ bar_items (λ i a.
        all_intro _ window_items (λ j b.
        let p = bar_item_piece sp h fs devfn y a in
        let q = window_item_piece sp h fs devfn y b in
        pieces_apart m m p q
        (λ e. false≢true (sym p.of_row.part_is ∙ ap (λ (x : Placed). is_window x.piece.part) e ∙ q.of_row.part_is)))))
      where
        of_apart : (item : Range → Item) → ((r : Range) → (item r).range ≡ r) → (rs : List Range) → Pairwise Apart rs
            → Pairwise ApartOnBus (map item rs)
        of_apart item is rs apart = pairwise_map ApartOnBus item rs
            (pairwise_imp_members Apart _ rs (λ r s _ _ a e. rw (is r, is s) a) apart)

        opened : (b : Bool) (rs : List Range) → Pairwise Apart rs → Pairwise Apart (cond b rs [])
        opened true rs apart = apart
        opened false rs apart = tt

        bar_items : List Item
        bar_items = map (bar_item (register y)) (register y).bars

        window_items : List Item
        window_items = map (window_item (register y)) (open_windows (register y))

        bars : Pairwise ApartOnBus bar_items
        bars = of_apart (bar_item (register y)) (λ r. refl) (register y).bars
            (parts_apart y.number false (is_bar_of sp y.number) (bar_of_is sp y.number))

        windows : Pairwise ApartOnBus window_items
        windows =
            of_apart (window_item (register y)) (λ r. refl) (open_windows (register y))
            (opened y.bridge (register y).windows
            (parts_apart y.number true (is_window_of sp y.number) (window_of_is sp y.number)))

    -- Those of two records
    records_apart : (y z : Numbered) → y ∈ plan_rows h fs → z ∈ plan_rows h fs → y.number < z.number
        → (i j : Item) → i ∈ items_of (register y) → j ∈ items_of (register z) → ApartOnBus i j
    records_apart y z m n l i j a b =
        let p = (item_piece sp h fs devfn y a).1 in
        let q = (item_piece sp h fs devfn z b).1 in
        pieces_apart m n p q (λ e. omega (arith, p.of_row.owner_is, q.of_row.owner_is, ap (λ (x : Placed). x.piece.owner) e))

    pub planned_disjoint : DisjointItems (plan_registers sp h fs devfn)
    unfolding plan_registers items
    planned_disjoint =
        record {
          apart_on_bus =
              pairwise_flat ApartOnBus items_of (map register (plan_rows h fs))
              (all_map_intro _ register (plan_rows h fs) record_apart)
              (pairwise_map _ register (plan_rows h fs)
              (pairwise_imp_members _ _ (plan_rows h fs) records_apart (numbers_rise h.first_bus fs)));
        }
