-- Where the BARs of a record start: each slot that holds a BAR has one placed piece, on a multiple of its size and within its width.
-- Assumes nothing.
use Rattle.std.specs.Prelude.{◌≡◌, refl, Bool, true, false, cond, ◌&&◌, ℕ, zero, suc, ◌+◌, ◌%◌, ◌^◌, ◌≤◌, ◌<◌, get_or, drop}
use Rattle.std.proofs.Math.Path.{sym, ap}
use Rattle.std.proofs.Common.{subst, ◌∙◌, true≢false, add-zero, lt_of_lt_of_le, pow_mono, eq-eqb, ne_eqb}
use Rattle.std.proofs.Math.Logic.{⊎_elim}
use mathlib.Core.List.{List, [], ◌∷◌, ◌++◌, map, head-eq_of_cons-eq, tail-eq_of_cons-eq}
use mathlib.Core.List.Memᴰ
use native.Mathlib.Omega.{arith}
use Rattle.std.proofs.Math.Dec.{eqb}
use Rattle.pools.specs.declared.Pool.{Pool}
use Rattle.pools.specs.declared.Pool.TheVariants.{Low, High, Io}
use Rattle.bar.specs.declared.Slot.{Slot}
use Rattle.bar.specs.declared.Slot.TheVariants.{Unused, Bar, Upper, Bad}
use Rattle.bar.specs.Bar.{width, slots}
use Rattle.plan_bars.specs.Bars.{bars_from}
use Rattle.bar.specs.PlacedLaws.{PlacedSlot, AllPlaced}
use Rattle.lists.specs.Lists.{◌∈◌, All, Pairwise, keep}
use Rattle.lists.specs.ListLaws.{all_imp, all_elim}
use Rattle.lists.specs.KeepLaws.{keep_elim, keep_intro}
use Rattle.plan_rule.specs.Records as placing
use Rattle.plan_rule.specs.Records.{Host, Lawful}
use Rattle.plan_rule.proofs.RecordLaws.{IsAt}
use Rattle.plan_rule.specs.Layout.{bar, Piece, Placed, end_of, is_window}
use Rattle.plan_rule.specs.Pieces.{bar_piece, bar_pieces, window_pieces, own_pieces, pieces}
use Rattle.plan_rule.specs.Placing.{placed}
use Rattle.plan_rule.proofs.Placed.{well_placed}
use Rattle.plan_function.specs.Registers.{is_part, bar_start}
use Rattle.plan_function.proofs.FunctionLaws.{windows_only}
use Rattle.plan_function.proofs.WordLaws.{Fitting, all_fitting}
use Rattle.plan_good.specs.Boards.{IsOpen, HostEdges, Board}
use Rattle.plan_good.proofs.Kept.{AllKept, not_empty, placed_in_pool, pool_open}
use Rattle.plan_good.proofs.RecordPieces.{pieces_of_record}
use Rattle.plan_sheet.specs.Starts.{address_bits}

-- ## The search for a BAR, among the pieces of one record

bar_start_own : (k j : ℕ) (xs : List Placed) → bar_start k j xs ≡ bar_start k j (keep (λ x. eqb x.piece.owner k) xs)
unfolding bar_start keep
bar_start_own k j [] = refl
bar_start_own k j (x ∷ xs) = go (eqb x.piece.owner k) refl (bar_start_own k j xs)
  where
    rest : List Placed
    rest = keep (λ x. eqb x.piece.owner k) xs

    go : (t : Bool) → eqb x.piece.owner k ≡ t → bar_start k j xs ≡ bar_start k j (keep (λ x. eqb x.piece.owner k) xs)
        → cond (t && is_part x.piece.part j) x.start (bar_start k j xs)
        ≡ bar_start k j (cond t (x ∷ keep (λ x. eqb x.piece.owner k) xs) (keep (λ x. eqb x.piece.owner k) xs))
    go true q e = rw q (ap (cond (is_part x.piece.part j) x.start) e)
    go false q e = e

abbrev SlotsRise : List placing.Bar → Type 0
SlotsRise = Pairwise (λ c d. c.slot < d.slot)

abbrev AreWindows : List Piece → Type 0
AreWindows = All (λ p. is_window p.part ≡ true)

module _ (k b : ℕ) where
  -- BARs of later slots, then windows: no slot up to s among them
  slots_later : (s : ℕ) (cs : List placing.Bar) (ws : List Piece) → All (λ c. s < c.slot) cs → AreWindows ws
      → All (λ p. (j : ℕ) → p.part ≡ bar j → s < j) (bar_pieces k b cs ++ ws)
  unfolding bar_pieces
  slots_later s [] ws h w =
      all_imp (λ p. is_window p.part ≡ true) _ ws w (λ p is j e. absurd (true≢false (sym is ∙ ap is_window e)))
  slots_later s (c ∷ cs) ws h w = (λ j e. let same : c.slot ≡ j = cc in omega arith, slots_later s cs ws h.1 w)

  first_start : (cs : List placing.Bar) (ws : List Piece) (xs : List Placed) → map (λ (x : Placed). x.piece) xs ≡ bar_pieces k b cs ++ ws
      → AreWindows ws → SlotsRise cs → (x : Placed) (j : ℕ) → x ∈ xs → x.piece.part ≡ bar j → bar_start k j xs ≡ x.start
  unfolding bar_start bar_pieces
  first_start [] ws xs e w r x j m is =
      let in_windows : x.piece ∈ ws = rw e at (Memᴰ.map (λ (y : Placed). y.piece) m) in
      absurd (true≢false (sym (all_elim (λ p. is_window p.part ≡ true) ws w in_windows) ∙ ap is_window is))
  first_start (c ∷ cs) ws [] e w r x j m is = absurd (Memᴰ.not-nil m)
  first_start (c ∷ cs) ws (y ∷ ys) e w r x j m is =
      ⊎_elim here (λ n. there n (first_start cs ws ys (tail-eq_of_cons-eq e) w r.1 x j n is)) (Memᴰ.cases_cons m)
    where
      piece : y.piece ≡ bar_piece k b c
      piece = head-eq_of_cons-eq e

      owner : eqb y.piece.owner k ≡ true
      owner = eq-eqb y.piece.owner k (ap (λ (p : Piece). p.owner) piece)

      here : x ≡ y → cond (eqb y.piece.owner k && is_part y.piece.part j) y.start (bar_start k j ys) ≡ x.start
      here same =
          let part : y.piece.part ≡ bar j = ap (λ (z : Placed). z.piece.part) (sym same) ∙ is in
          rw (owner, part, eq-eqb j j refl) (ap (λ (z : Placed). z.start) (sym same))

      there : x ∈ ys → bar_start k j ys ≡ x.start
          → cond (eqb y.piece.owner k && is_part y.piece.part j) y.start (bar_start k j ys) ≡ x.start
      there n on =
          let in_later : x.piece ∈ bar_pieces k b cs ++ ws = rw (tail-eq_of_cons-eq e) at (Memᴰ.map (λ (z : Placed). z.piece) n) in
          let later = all_elim _ (bar_pieces k b cs ++ ws) (slots_later c.slot cs ws r.0 w) in_later j is in
          let part : y.piece.part ≡ bar c.slot = ap (λ (p : Piece). p.part) piece in
          rw (owner, part, ne_eqb c.slot j (λ same. omega arith)) on

  bar_piece_mem : {c : placing.Bar} (cs : List placing.Bar) → c ∈ cs → bar_piece k b c ∈ bar_pieces k b cs
  unfolding bar_pieces
  bar_piece_mem [] m = absurd (Memᴰ.not-nil m)
  bar_piece_mem (d ∷ cs) m =
      ⊎_elim (λ e. Memᴰ.head (ap (bar_piece k b) e)) (λ n. Memᴰ.tail (bar_piece_mem cs n)) (Memᴰ.cases_cons m)

-- ## The BARs of slots

later_bars : (s : ℕ) (cs : List placing.Bar) → All (λ c. suc s ≤ c.slot) cs → All (λ c. s ≤ c.slot) cs
later_bars s cs h = all_imp (λ c. suc s ≤ c.slot) _ cs h (λ c l. omega arith)

bars_ge : (s : ℕ) (ss : List Slot) → All (λ c. s ≤ c.slot) (bars_from s ss)
unfolding bars_from
bars_ge s [] = tt
bars_ge s (Unused ∷ ss) = later_bars s (bars_from (suc s) ss) (bars_ge (suc s) ss)
bars_ge s (Bar q wide z ∷ ss) = (omega arith, later_bars s (bars_from (suc s) ss) (bars_ge (suc s) ss))
bars_ge s (Upper ∷ ss) = later_bars s (bars_from (suc s) ss) (bars_ge (suc s) ss)
bars_ge s (Bad ∷ ss) = later_bars s (bars_from (suc s) ss) (bars_ge (suc s) ss)

bars_rise : (s : ℕ) (ss : List Slot) → SlotsRise (bars_from s ss)
unfolding bars_from
bars_rise s [] = tt
bars_rise s (Unused ∷ ss) = bars_rise (suc s) ss
bars_rise s (Bar q wide z ∷ ss) = (bars_ge (suc s) ss, bars_rise (suc s) ss)
bars_rise s (Upper ∷ ss) = bars_rise (suc s) ss
bars_rise s (Bad ∷ ss) = bars_rise (suc s) ss

bar_at_lem : (s : ℕ) (ss : List Slot) (j : ℕ) (q : Pool) (wide : Bool) (z : ℕ) → get_or ss j Unused ≡ Bar q wide z
    → record { slot = s + j; pool = q; size = z } ∈ bars_from s ss
unfolding bars_from
bar_at_lem s [] j q wide z e = let n : ◌≡◌ {A = ℕ} 0 1 = cc in absurd (omega arith)
bar_at_lem s (x ∷ ss) zero q wide z e =
    rw e (Memᴰ.head (ap (λ (n : ℕ). record { slot = n; pool = q; size = z }) (add-zero s)))
bar_at_lem s (x ∷ ss) (suc j) q wide z e =
    let place : s + suc j ≡ suc s + j = omega arith in
    rw place (go x (bar_at_lem (suc s) ss j q wide z e))
  where
    go : (y : Slot) → record { slot = suc s + j; pool = q; size = z } ∈ bars_from (suc s) ss
        → record { slot = suc s + j; pool = q; size = z } ∈ bars_from s (y ∷ ss)
    go Unused m = m
    go (Bar r w n) m = Memᴰ.tail m
    go Upper m = m
    go Bad m = m

fitting_at : (ss : List Slot) → All Fitting ss → (i : ℕ) → Fitting (get_or ss i Unused)
fitting_at [] h i = tt
fitting_at (x ∷ ss) h zero = h.0
fitting_at (x ∷ ss) h (suc i) = fitting_at ss h.1 i

-- ## Addresses of a pool have so many bits

last_lt : {h : Host} → HostEdges h → (q : Pool) → IsOpen h q → h.last q < 2 ^ address_bits q
last_lt e Low l = e.low_ends_below_4_Gi_b l
last_lt e High l = e.high_ends_below_2^52 l
last_lt e Io l = e.io_ends_below_64_Ki_b l

bits_le_width : (q : Pool) (wide : Bool) (z : ℕ) → Fitting (Bar q wide z) → address_bits q ≤ width q wide
bits_le_width Low true z h = omega arith
bits_le_width Low false z h = omega arith
bits_le_width High true z h = omega arith
bits_le_width High false z h = absurd h
bits_le_width Io wide z h = omega arith

-- ## The BARs of record i + 1

-- the placed piece of a BAR
pub record PlacedBar (h : Host) (fs : List placing.Function) (i b : ℕ) (c : placing.Bar) : Type 0 where
  pub piece : Placed
  pub is_placed : piece ∈ placed h fs
  pub piece_is : piece.piece ≡ bar_piece (suc i) b c
  pub start_is : piece.start ≡ bar_start (suc i) c.slot (placed h fs)

module _ (h : Host) (fs : List placing.Function) (lawful : Lawful fs) (i : ℕ) (f : placing.Function) (at : IsAt fs i f)
    (ss : List Slot) (bars : f.bars ≡ bars_from 0 ss) where
  own : List Placed
  own = keep (λ x. eqb x.piece.owner (suc i)) (placed h fs)

  windows : List Piece
  windows = cond f.bridge (window_pieces (suc i) f.parent f.spare_low (pieces (suc (suc i)) (drop (suc i) fs))) []

  own_pieces_lem : map (λ (x : Placed). x.piece) own ≡ bar_pieces (suc i) f.parent (bars_from 0 ss) ++ windows
  unfolding own windows own_pieces
  own_pieces_lem = rw (← bars) (pieces_of_record h fs lawful i f at)

  -- a placed BAR of the record starts where the search for its slot says
  pub bar_start_is : (x : Placed) (j : ℕ) → x ∈ placed h fs → x.piece.owner ≡ suc i → x.piece.part ≡ bar j
      → x.start ≡ bar_start (suc i) j (placed h fs)
  unfolding own windows
  bar_start_is x j m o is =
      let mine : x ∈ own = keep_intro (λ y. eqb y.piece.owner (suc i)) (placed h fs) m (eq-eqb x.piece.owner (suc i) o) in
      let only = windows_only (suc i) f.parent f.spare_low (pieces (suc (suc i)) (drop (suc i) fs)) f.bridge in
      sym (bar_start_own (suc i) j (placed h fs)
      ∙ first_start (suc i) f.parent (bars_from 0 ss) windows own own_pieces_lem only (bars_rise 0 ss) x j mine is)

  -- and every BAR has its placed piece
  placed_bar : (c : placing.Bar) → c ∈ bars_from 0 ss → PlacedBar h fs i f.parent c
  unfolding own
  placed_bar c m =
      let among : bar_piece (suc i) f.parent c ∈ map (λ (x : Placed). x.piece) own =
      rw own_pieces_lem (Memᴰ.append_left windows (bar_piece_mem (suc i) f.parent (bars_from 0 ss) m)) in
      let (x, mine, e) = Memᴰ.of_map (λ (y : Placed). y.piece) own among in
      let there = (keep_elim (λ y. eqb y.piece.owner (suc i)) (placed h fs) mine).0 in
      let o = ap (λ (p : Piece). p.owner) e in
      let part = ap (λ (p : Piece). p.part) e in
      record { piece = x; is_placed = there; piece_is = e; start_is = bar_start_is x c.slot there o part }

module _ (h : Host) (fs : List placing.Function) (board : Board h fs) (kept : AllKept h fs) where
  -- what is placed ends within its pool's addresses
  pub end_le : {x : Placed} → x ∈ placed h fs → end_of x ≤ 2 ^ address_bits x.piece.pool
  end_le {x} m =
      omega (
        arith,
        (placed_in_pool h fs board.lawful kept m).to_end,
        last_lt board.edges x.piece.pool (pool_open h fs board.lawful kept m),
      )

  module _ (i : ℕ) (f : placing.Function) (at : IsAt fs i f) (rs : List ℕ) (bars : f.bars ≡ bars_from 0 (slots rs)) where
    -- each BAR starts on a multiple of its size, and its address has its width
    pub bars_placed_lem : AllPlaced (λ j. bar_start (suc i) j (placed h fs)) (slots rs)
    bars_placed_lem j = go (get_or (slots rs) j Unused) refl (fitting_at (slots rs) (all_fitting rs) j)
      where
        go : (x : Slot) → get_or (slots rs) j Unused ≡ x → Fitting x → PlacedSlot x (bar_start (suc i) j (placed h fs))
        go Unused e w = tt
        go Upper e w = tt
        go Bad e w = tt
        go (Bar q wide z) e w =
            let none : 0 + j ≡ j = omega arith in
            let c : placing.Bar = record { slot = j; pool = q; size = z } in
            let b = placed_bar h fs board.lawful i f at (slots rs) bars c (rw none at (bar_at_lem 0 (slots rs) j q wide z e)) in
            let x = b.piece in
            let pool : x.piece.pool ≡ q = ap (λ (p : Piece). p.pool) b.piece_is in
            let size : x.piece.size ≡ z = ap (λ (p : Piece). p.size) b.piece_is in
            let no_window : is_window x.piece.part ≡ false = ap (λ (p : Piece). is_window p.part) b.piece_is in
            let multiple = all_elim _ (placed h fs) (well_placed h fs board.lawful).bar_aligned b.is_placed no_window in
            let end = subst (λ (p : Pool). end_of x ≤ 2 ^ address_bits p) pool (end_le b.is_placed) in
            let before : x.start < 2 ^ address_bits q = omega (arith, not_empty h fs board.lawful b.is_placed) in
            subst (PlacedSlot (Bar q wide z)) b.start_is
            (record {
              multiple = subst (λ (n : ℕ). x.start % n ≡ 0) size multiple;
              fits = lt_of_lt_of_le before (pow_mono (bits_le_width q wide z w));
            })
