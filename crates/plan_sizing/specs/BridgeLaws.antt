-- One function: its own BARs, and a bridge over what its bus comes to. Assumes nothing.
use Rattle.std.specs.Prelude.{◌≡◌, refl, true, false, List, ℕ, suc, ◌+◌, ◌-◌, ◌*◌, ◌≤◌, ◌<◌, length, get_or, drop}
use Rattle.std.proofs.Common.{sym, ap, ap₂, ◌∙◌, add-one, arith}
use Rattle.std.proofs.lemmas.List.Edits.{sets}
use Rattle.arith.specs.Powers.{PowerOfTwo}
use Rattle.pools.specs.declared.Pool.{Pool}
use Rattle.pools.specs.declared.Pool.TheVariants.{Low, High, Io}
use Rattle.pools.specs.Pools.{granule}
use Rattle.lists.specs.ListLaws.{all_imp, all_drop}
use Rattle.bar.specs.Header.{is_bridge}
use Rattle.plan_rule.proofs.PoolLaws.{granule_power}
use Rattle.plan_rule.specs.Records.{Function, Lawful, Sized}
use Rattle.plan_rule.proofs.RecordLaws.{IsAt}
use Rattle.plan_rule.specs.Above.{above_by_parents, above_bus}
use Rattle.plan_rule.proofs.AboveLaws.{parent_at, above_on_bus}
use Rattle.plan_rule.specs.Layout.{select, largest_align}
use Rattle.plan_rule.proofs.LayoutLaws.{largest_align_power}
use Rattle.plan_rule.specs.Pieces.{window_align, content_of, pieces}
use Rattle.plan_rule.proofs.PieceLaws.{BarsSized, content_shaped, pieces_shaped}
use Rattle.plan_rule.specs.Sizing as placing
use Rattle.plan_rule.specs.declared.Extent.{Extent}
use Rattle.plan_rule.specs.Sizing.{nothing, extend, with_spare, laid_from, bus_laid, bars_laid, window_laid, spared, function_laid}
use Rattle.plan_rule.proofs.ExtentLaws.{extend_align, extend_content}
use Rattle.plan_rule.proofs.SizingLaws.{ready_below, function_laid_leaf}
use Rattle.plan_rule.proofs.CapLaws.{capped_laid, cap_spared, function_laid_turn}
use Rattle.plan_sizing.specs.declared.Laid.{Laid}
use Rattle.plan_sizing.specs.Functions.{header_in, functions_in, function_at}
use Rattle.plan_sizing.specs.FunctionsLaws.{functions_at_lem}
use Rattle.plan_sizing.specs.Cut.{extent_in, says, cut, Whole}
use Rattle.plan_sizing.specs.CutLaws.{says_of_cut, cut_of_capped, whole_of_cut}
use Rattle.plan_sizing.specs.Memo.{numbers_of, below, memo_between}
use Rattle.plan_sizing.specs.MemoLaws.{memo_leaf, memo_bridge}
use Rattle.plan_sizing.specs.Board.{OwnBars, Standing, BusSized, FunctionSized}
use Rattle.plan_sizing.specs.BusLaws.{lawful_of_board}

-- a walk goes on
bus_next_le : (fs : List Function) (b : ℕ) (l : placing.Laid) → l.next ≤ (bus_laid fs b l).next
unfolding bus_laid
bus_next_le fs b l = omega arith

-- a window's alignment is a power of two
window_align_power : (fs : List Function) → Sized fs → (b k n : ℕ) (q : Pool)
    → PowerOfTwo (window_align q ((spared n (bus_laid fs b (laid_from k))).extent q).align)
unfolding bus_laid
window_align_power fs h b k n q =
    let rest = pieces (suc k) (drop k fs) in
    let content = content_of b n q rest in
    let e : (with_spare q n (extend nothing (select b q rest))).align ≡ largest_align content =
    ap (λ (x : Extent). x.align) (sym (extend_content b n q rest)) ∙ extend_align nothing content ∙ omega arith in
    rw e
    (largest_align_power (granule q) content (granule_power q)
    (all_imp _ _ content (content_shaped b n q rest (pieces_shaped (suc k) (drop k fs) (all_drop BarsSized k fs h)))
    (λ p s. s.align_power)))

module _ {ps hs ss memo : List ℕ} {d : ℕ} {l : Laid} (s : Standing ps hs ss memo (get_or ps l.next 0) d l)
    (here : l.next < length ps) where
  abbrev fs : List Function
  fs = functions_in ps hs ss

  abbrev f : Function
  f = function_at ps hs ss l.next

  lawful : Lawful fs
  lawful = lawful_of_board s.board

  at : IsAt fs l.next f
  at = functions_at_lem ps hs ss l.next here

  -- the function's own bus is that of its parent record
  on_bus_lem : above_by_parents fs (suc l.next) ≡ above_bus fs (get_or ps l.next 0)
  on_bus_lem = above_on_bus lawful (suc l.next) ∙ ap (above_bus fs) (parent_at l.next fs f (drop (suc l.next) fs) at)

  -- at most so many bridges stand above a function, so there is depth left for its own bus
  pub depth_left : 0 < d
  depth_left = omega (arith, s.deep, s.board.shallow (suc l.next), ap length on_bus_lem)

  pub own_bars_of_standing : OwnBars hs ss l
  own_bars_of_standing =
      record {
        head = omega (arith, s.board.heads);
        set = omega (arith, s.board.readbacks);
        whole = s.whole;
        readable = s.board.readable l.next here;
      }

  -- a function that is no bridge
  pub leaf_walked : {own : Laid} {memo' : List ℕ} → is_bridge (header_in (get_or hs l.next 0)) ≡ false → own ≡ cut (bars_laid f (says l))
      → memo' ≡ sets memo (7 * l.next) (numbers_of (cut (laid_from 0))) → FunctionSized ps hs ss memo memo' l own
  leaf_walked e g p =
      record {
        laid = g ∙ ap cut (sym (function_laid_leaf fs f (says l) e));
        stored =
            memo_leaf fs memo l.next f at e p
            ∙ ap (λ (k : ℕ). sets memo (7 * l.next) (memo_between fs l.next k)) (sym (ap (λ (x : Laid). x.next) g));
      }

  module _ {inside : Laid} (fresh : inside ≡ cut (laid_from (l.next + 1))) where
    -- the walk over a bridge's own bus starts right after it
    pub inside_standing : Standing ps hs ss memo (l.next + 1) (d - 1) inside
    inside_standing =
        rw fresh
        (record {
          board = s.board;
          room = s.room;
          whole = refl;
          within = omega arith;
          deep = rw (add-one l.next) (omega (arith, s.deep, depth_left, ap length on_bus_lem));
          ready = rw (add-one l.next) (ready_below fs lawful (get_or ps l.next 0) l.next f s.ready at);
        })

    -- and comes to what lies below it
    module _ {bus : Laid} {memo₁ : List ℕ} (w : BusSized ps hs ss memo memo₁ (l.next + 1) inside bus) where
      bus_laid_lem : bus ≡ cut (bus_laid fs (suc l.next) (laid_from (suc l.next)))
      bus_laid_lem =
          w.laid
          ∙ ap (λ (x : placing.Laid). cut (bus_laid fs (l.next + 1) x)) (says_of_cut inside (laid_from (l.next + 1)) fresh)
          ∙ ap (λ (k : ℕ). cut (bus_laid fs k (laid_from k))) (add-one l.next)

      pub bus_whole : Whole bus
      bus_whole = whole_of_cut bus (bus_laid fs (suc l.next) (laid_from (suc l.next))) bus_laid_lem

      -- and with its spare room
      module _ {inner : Laid} {n : ℕ} (spare : n ≡ f.spare_low) (g : inner ≡ cut (spared n (says bus))) where
        inner_laid : inner ≡ below fs l.next f.spare_low
        inner_laid =
            let x = bus_laid fs (suc l.next) (laid_from (suc l.next)) in
            g
            ∙ ap (λ (k : ℕ). cut (spared k (says bus))) spare
            ∙ ap (λ (y : placing.Laid). cut (spared f.spare_low y)) (says_of_cut bus x bus_laid_lem)
            ∙ cut_of_capped (spared f.spare_low (capped_laid x)) (spared f.spare_low x) (cap_spared f.spare_low x)

        next_is : inner.next ≡ bus.next
        next_is = ap (λ (x : Laid). x.next) g

        pub inner_align_power : (q : Pool) → PowerOfTwo (window_align q (extent_in inner q).align)
        inner_align_power q = rw inner_laid (each q)
          where
            each : (p : Pool) → PowerOfTwo (window_align p (extent_in (below fs l.next f.spare_low) p).align)
            each Low = window_align_power fs lawful.sized (suc l.next) (suc l.next) f.spare_low Low
            each High = window_align_power fs lawful.sized (suc l.next) (suc l.next) f.spare_low High
            each Io = window_align_power fs lawful.sized (suc l.next) (suc l.next) f.spare_low Io

        -- a bridge: its own BARs, then its windows
        pub bridge_walked : {own r : Laid} {memo₂ : List ℕ} → is_bridge (header_in (get_or hs l.next 0)) ≡ true
            → own ≡ cut (bars_laid f (says l))
            → memo₂ ≡ sets memo₁ (7 * l.next) (numbers_of inner) → r ≡ cut (window_laid (says own) (says inner))
            → FunctionSized ps hs ss memo memo₂ l r
        bridge_walked {own} {r} e g p h =
            record {
              laid =
                  h
                  ∙ cut_of_capped (window_laid (says own) (says inner)) (function_laid fs f (says l))
                  (function_laid_turn fs f (says l) (says own) (says inner) e (says_of_cut own (bars_laid f (says l)) g)
                  (says_of_cut inner (spared f.spare_low (bus_laid fs (suc l.next) (laid_from (suc l.next)))) inner_laid));
              stored =
                  memo_bridge fs memo l.next inner.next f inner at e later inner_laid
                  (w.stored ∙ ap₂ (λ (k j : ℕ). sets memo (7 * k) (memo_between fs k j)) (ap (λ (x : Laid). x.next) fresh) (sym next_is))
                  p
                  ∙ ap (λ (k : ℕ). sets memo (7 * l.next) (memo_between fs l.next k)) (sym (ap (λ (x : Laid). x.next) h));
            }
          where
            later : l.next < inner.next
            later = omega (arith, ap (λ (x : Laid). x.next) inner_laid, bus_next_le fs (suc l.next) (laid_from (suc l.next)))
