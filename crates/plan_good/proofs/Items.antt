-- Which placed piece an item of the plan's registers is: every BAR and open window that the walk sees is a placed one of its record, in the
-- space. Assumes nothing.
use Rattle.std.specs.Prelude.{◌≡◌, Bool, true, false, not, ◌&&◌, List, [], ◌∷◌, map, ℕ, suc, eqb}
use Rattle.std.proofs.Math.Path.{refl, subst}
use Rattle.std.proofs.Common.{sym, ap, ◌∙◌, add-one, eqb-true, eq-eqb}
use Rattle.std.proofs.Math.Logic.{⊎_elim}
use mathlib.Core.List.Memᴰ
use Rattle.arith.specs.BoolLaws.{both_of_and}
use Rattle.pools.specs.declared.Space.{Space}
use Rattle.pools.specs.Pools.{in_space}
use Rattle.plan_rule.specs.Records.{Host, Function, Lawful}
use Rattle.plan_rule.specs.Preorder.{parent_of}
use Rattle.plan_rule.specs.Layout.{Placed, is_window}
use Rattle.plan_rule.specs.Placing.{placed}
use Rattle.plan_rule.specs.Numbering.{bus_number, Numbered, numbered_from}
use Rattle.plan_rule.specs.Siblings.{bus_of}
use Rattle.lists.specs.Lists.{◌∈◌}
use Rattle.lists.specs.ListLaws.{mem_cond_elim, flat_elim, all_elim}
use Rattle.lists.specs.KeepLaws.{keep_elim, keep_intro}
use Rattle.walk.specs.Ranges.{Range}
use Rattle.walk.specs.Registers.{Registers, nodes, Item, items_of, items, bar_item, window_item, open_windows, NumberedFrom}
use Rattle.plan_good.specs.Registers.{range_of, is_bar_of, is_window_of, bars_of, windows_of, plan_node, plan_rows, plan_nodes, plan_register}
use Rattle.plan_good.specs.Registers.{plan_registers}
use Rattle.plan_good.proofs.Rows.{placed_bus}
use Rattle.plan_good.proofs.BusRanges.{row_of}

-- x is a piece of record k in the space: a window, or a BAR
pub record PieceOf (sp : Space) (k : ℕ) (is_window_lem : Bool) (x : Placed) : Type 0 where
  pub owner_is : x.piece.owner ≡ k
  pub in_space_lem : in_space sp x.piece.pool ≡ true
  pub part_is : is_window x.piece.part ≡ is_window_lem

module _ (sp : Space) (k : ℕ) (x : Placed) where
  tests : (t : Bool) → (eqb x.piece.owner k && (in_space sp x.piece.pool && t)) ≡ true
      → (x.piece.owner ≡ k) × (in_space sp x.piece.pool ≡ true) × (t ≡ true)
  tests t e =
      let outer = both_of_and (eqb x.piece.owner k) (in_space sp x.piece.pool && t) e in
      let inner = both_of_and (in_space sp x.piece.pool) t outer.1 in
      (eqb-true x.piece.owner k outer.0, inner.0, inner.1)

  pub bar_of_is : is_bar_of sp k x ≡ true → PieceOf sp k false x
  bar_of_is e = let t = tests (not (is_window x.piece.part)) e in record
      { owner_is = t.0; in_space_lem = t.1; part_is = is_false (is_window x.piece.part) t.2 }
    where
      is_false : (b : Bool) → not b ≡ true → b ≡ false
      is_false true g = sym g
      is_false false g = refl

  pub window_of_is : is_window_of sp k x ≡ true → PieceOf sp k true x
  window_of_is e = let t = tests (is_window x.piece.part) e in record { owner_is = t.0; in_space_lem = t.1; part_is = t.2 }

  is_bar_of_lem : PieceOf sp k false x → is_bar_of sp k x ≡ true
  is_bar_of_lem p = rw (eq-eqb x.piece.owner k p.owner_is, p.in_space_lem, p.part_is)

  is_window_of_lem : PieceOf sp k true x → is_window_of sp k x ≡ true
  is_window_of_lem p = rw (eq-eqb x.piece.owner k p.owner_is, p.in_space_lem, p.part_is)

module _ (sp : Space) (k : ℕ) (xs : List Placed) where
  -- A record's BARs, and its windows, are the ranges of its placed ones
  pub bars_elim : {r : Range} → r ∈ bars_of sp xs k → (x : Placed) × (x ∈ xs) × PieceOf sp k false x × (range_of x ≡ r)
  bars_elim m =
      let (x, n, e) = Memᴰ.of_map range_of _ m in
      let s = keep_elim (is_bar_of sp k) xs n in
      (x, s.0, bar_of_is sp k x s.1, e)

  windows_elim : {r : Range} → r ∈ windows_of sp xs k → (x : Placed) × (x ∈ xs) × PieceOf sp k true x × (range_of x ≡ r)
  windows_elim m =
      let (x, n, e) = Memᴰ.of_map range_of _ m in
      let s = keep_elim (is_window_of sp k) xs n in
      (x, s.0, window_of_is sp k x s.1, e)

  pub bars_intro : {x : Placed} → x ∈ xs → PieceOf sp k false x → range_of x ∈ bars_of sp xs k
  bars_intro {x} m p = Memᴰ.map range_of (keep_intro (is_bar_of sp k) xs m (is_bar_of_lem sp k x p))

  pub windows_intro : {x : Placed} → x ∈ xs → PieceOf sp k true x → range_of x ∈ windows_of sp xs k
  windows_intro {x} m p = Memᴰ.map range_of (keep_intro (is_window_of sp k) xs m (is_window_of_lem sp k x p))

-- The registers' nodes are the board's
pub nodes_plan : (sp : Space) (h : Host) (fs : List Function) (devfn : ℕ → ℕ) → nodes (plan_registers sp h fs devfn) ≡ plan_nodes h fs devfn
unfolding plan_registers
nodes_plan sp h fs devfn = go (plan_rows h fs)
  where
    go : (rows : List Numbered) → nodes (map (plan_register sp (placed h fs) devfn) rows) ≡ map (plan_node devfn) rows
    go [] = refl
    go (x ∷ xs) = ap (plan_node devfn x ∷◌) (go xs)

pub planned_numbered : (sp : Space) (h : Host) (fs : List Function) (devfn : ℕ → ℕ) → NumberedFrom 1 (plan_registers sp h fs devfn)
unfolding plan_registers NumberedFrom numbered_from
planned_numbered sp h fs devfn = go 1 fs
  where
    go : (k : ℕ) (gs : List Function) → NumberedFrom k (map (plan_register sp (placed h fs) devfn) (numbered_from h.first_bus fs k gs))
    go k [] = tt
    go k (f ∷ gs) = (refl, rw add-one (go (suc k) gs))

-- Each row has its registers, and they hold the BARs of their record
module _ (sp : Space) (h : Host) (fs : List Function) (devfn : ℕ → ℕ) where
  pub register_intro : {y : Numbered} → y ∈ plan_rows h fs → plan_register sp (placed h fs) devfn y ∈ plan_registers sp h fs devfn
  unfolding plan_registers
  register_intro m = Memᴰ.map (plan_register sp (placed h fs) devfn) m

  pub register_bars : {f : Registers} → f ∈ plan_registers sp h fs devfn → f.bars ≡ bars_of sp (placed h fs) f.node.number
  unfolding plan_registers
  register_bars m =
      let (y, there, e) = Memᴰ.of_map (plan_register sp (placed h fs) devfn) (plan_rows h fs) m in
      subst (λ (f : Registers). f.bars ≡ bars_of sp (placed h fs) f.node.number) e refl

-- An item of the row y's registers: the placed piece that it is, a window or a BAR of y
pub record ItemPiece (sp : Space) (h : Host) (fs : List Function) (devfn : ℕ → ℕ) (y : Numbered) (is_window_lem : Bool) (i : Item)
    : Type 0 where
  pub piece : Placed
  pub is_placed : piece ∈ placed h fs
  pub of_row : PieceOf sp y.number is_window_lem piece
  pub range_is : i.range ≡ range_of piece
  pub owner_is : i.owner ≡ plan_register sp (placed h fs) devfn y

module _ (sp : Space) (h : Host) (fs : List Function) (devfn : ℕ → ℕ) where
  module _ (y : Numbered) where
    abbrev register : Registers
    register = plan_register sp (placed h fs) devfn y

    pub bar_item_piece : {i : Item} → i ∈ map (bar_item register) register.bars → ItemPiece sp h fs devfn y false i
    bar_item_piece m =
        let (r, in_bars, e) = Memᴰ.of_map (bar_item register) register.bars m in
        let (x, there, p, g) = bars_elim sp y.number (placed h fs) in_bars in
        record {
          piece = x;
          is_placed = there;
          of_row = p;
          range_is = ap (λ (j : Item). j.range) (sym e) ∙ sym g;
          owner_is = ap (λ (j : Item). j.owner) (sym e);
        }

    pub window_item_piece : {i : Item} → i ∈ map (window_item register) (open_windows register) → ItemPiece sp h fs devfn y true i
    window_item_piece m =
        let (r, opened, e) = Memᴰ.of_map (window_item register) (open_windows register) m in
        let (x, there, p, g) = windows_elim sp y.number (placed h fs) (mem_cond_elim y.bridge register.windows opened).1 in
        record {
          piece = x;
          is_placed = there;
          of_row = p;
          range_is = ap (λ (j : Item). j.range) (sym e) ∙ sym g;
          owner_is = ap (λ (j : Item). j.owner) (sym e);
        }

    pub item_piece : {i : Item} → i ∈ items_of register → (k : Bool) × ItemPiece sp h fs devfn y k i
    unfolding items_of
    item_piece m =
        ⊎_elim (λ n. (false, bar_item_piece n)) (λ n. (true, window_item_piece n))
        (Memᴰ.append_cases (map (bar_item register) register.bars) m)

  -- Every item is one of some row's registers
  pub items_elim : {i : Item} → i ∈ items (plan_registers sp h fs devfn) → (y : Numbered) × (y ∈ plan_rows h fs)
      × (i ∈ items_of (plan_register sp (placed h fs) devfn y))
  unfolding items plan_registers
  items_elim {i} m =
      let (f, n, g) = flat_elim items_of _ m in
      let (y, there, e) = Memᴰ.of_map (plan_register sp (placed h fs) devfn) (plan_rows h fs) n in
      (y, there, subst (λ (w : Registers). i ∈ items_of w) (sym e) g)

  -- The piece is on the bus that its record's node names
  pub item_bus : Lawful fs → {y : Numbered} {k : Bool} {i : Item} → y ∈ plan_rows h fs → (p : ItemPiece sp h fs devfn y k i)
      → i.owner.node.bus ≡ bus_of h.first_bus fs p.piece
  item_bus lawful {y} m p =
      let r = row_of h.first_bus fs lawful m in
      let above = all_elim _ (placed h fs) (placed_bus fs lawful h) p.is_placed in
      ap (λ (f : Registers). f.node.bus) p.owner_is
      ∙ r.bus_is
      ∙ ap (bus_number h.first_bus fs) (r.parent_is ∙ ap (parent_of fs) (sym p.of_row.owner_is) ∙ sym above)
