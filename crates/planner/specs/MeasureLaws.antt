-- The number that follows from a measured board is the placing rule's. Assumes nothing.
use Rattle.std.specs.Prelude.{◌≡◌, refl, Bool, true, false, cond, ◌&&◌, List, [], ◌∷◌, ℕ, suc, ◌≤◌, ◌<◌, max, ltb}
use Rattle.std.proofs.Common.{sym, ap₂, ◌∙◌, lt-ltb, ltb-true, ltb-false}
use Rattle.std.proofs.Math.Path.{ap}
use native.Mathlib.Omega.{arith}
use Rattle.endian.specs.Endian.{Bytes}
use Rattle.pools.specs.declared.Pool.{Pool}
use Rattle.pools.specs.declared.Pool.TheVariants.{Low, High, Io}
use Rattle.lists.specs.Lists.{All}
use Rattle.lists.specs.ListLaws.{all_imp}
use Rattle.lists.specs.KeepLaws.{all_keep}
use Rattle.plan_rule.specs.Records as placing
use Rattle.plan_rule.specs.Records.{Lawful}
use Rattle.plan_rule.specs.Layout.{Piece, is_on, select, layout_end, largest_align, end_at}
use Rattle.plan_rule.proofs.LayoutLaws.{HasAlign, le_end_at, le_layout_end}
use Rattle.plan_rule.specs.Pieces.{pieces}
use Rattle.plan_rule.proofs.PieceLaws.{Shaped, has_align, pieces_shaped}
use Rattle.plan_rule.specs.Numbering.{bridges}
use Rattle.plan_rule.specs.declared.Extent.{Extent}
use Rattle.plan_rule.specs.Sizing.{extend, bus_laid, root_laid, ends_past}
use Rattle.plan_rule.proofs.ExtentLaws.{extend_align}
use Rattle.plan_rule.proofs.CapLaws.{capped, out_of_pool_capped}
use Rattle.plan_rule.specs.Refusals.{out_of_pool, refusal_of}
use Rattle.plan_rule.proofs.RefusalLaws.{out_of_pool_end}
use Rattle.board_record.specs.declared.Host.{Host}
use Rattle.board_record.specs.declared.Span.{Span}
use Rattle.board.specs.Board.{board_number, host_of, functions_of}
use Rattle.board_record.specs.Host.{span_of}
use Rattle.board.specs.ToPlacing.{to_host, to_placing}
use Rattle.plan_sizing.specs.declared.Laid.{Laid}
use Rattle.plan_sizing.specs.Cut.{extent_in, cut}
use Rattle.plan_good.specs.Boards.{OpenEndsLow}
use Rattle.plan_good.proofs.Boards.{open_ends_low}
use Rattle.plan_sheet.proofs.Accepted.{board_of_accepted}
use Rattle.planner.specs.declared.Measured.{Measured}
use Rattle.planner.specs.Measure.{runs_out, refusal_by, IsMeasured}

-- ---- one pool

-- whatever is laid out from a base on ends past it
pub past_base : (l base : ℕ) → l ≤ base → (ps : List Piece) → All Shaped ps → (ltb 0 (largest_align ps) && ltb l (layout_end base ps))
    ≡ ltb 0 (largest_align ps)
unfolding layout_end largest_align
past_base l base g [] h = refl
past_base l base g (p ∷ ps) h = go (ltb 0 (max p.align (largest_align ps)))
  where
    later : l < layout_end (end_at base p) ps
    later =
        let some = has_align p h.0 in
        let rest = le_layout_end (end_at base p) ps (all_imp Shaped HasAlign ps h.1 has_align) in
        omega (arith, (le_end_at base p some).0, h.0.align_fits, some, rest)

    go : (t : Bool) → (t && ltb l (layout_end (end_at base p) ps)) ≡ t
    go true = lt-ltb l (layout_end (end_at base p) ps) later
    go false = refl

module _ (h : placing.Host) (fs : List placing.Function) (lawful : Lawful fs) (q : Pool) where
  content_shaped : All Shaped (select 0 q (pieces 1 fs))
  content_shaped = all_keep (is_on 0 q) Shaped (pieces 1 fs) (pieces_shaped 1 fs lawful.sized)

  -- a closed pool runs out exactly when the root bus has anything for it
  out_of_closed : h.last q < h.base q → out_of_pool h fs q ≡ ltb 0 ((bus_laid fs 0 (root_laid h)).extent q).align
  unfolding bus_laid
  out_of_closed closed =
      let content = select 0 q (pieces 1 fs) in
      let align : (extend ((root_laid h).extent q) content).align ≡ largest_align content = extend_align ((root_laid h).extent q) content
      ∙ omega arith in
      out_of_pool_end h fs lawful q ∙ past_base (suc (h.last q)) (h.base q) closed content content_shaped ∙ ap (ltb 0) (sym align)

-- a pool's base and last, read by its name
pub base_of_span : (h : Host) (q : Pool) → (span_of h q).base ≡ (to_host h).base q
base_of_span h Low = refl
base_of_span h High = refl
base_of_span h Io = refl

pub last_of_span : (h : Host) (q : Pool) → (span_of h q).last ≡ (to_host h).last q
last_of_span h Low = refl
last_of_span h High = refl
last_of_span h Io = refl

-- a pool runs out exactly when the code finds so, from the root bus's alignment and, of an open pool, its end up to 2^62
module _ (h : Host) (fs : List placing.Function) (lawful : Lawful fs) (q : Pool) (e : Extent) where
  abbrev laid : Extent
  laid = (bus_laid fs 0 (root_laid (to_host h))).extent q

  pub runs_out_at : e.align ≡ laid.align → ((to_host h).base q ≤ (to_host h).last q → e ≡ capped laid) → OpenEndsLow (to_host h) q
      → (x : Span) → x.base ≡ (to_host h).base q → x.last ≡ (to_host h).last q → runs_out x e ≡ out_of_pool (to_host h) fs q
  runs_out_at align ended low x b l = go (ltb x.last x.base) refl
    where
      go : (t : Bool) → ltb x.last x.base ≡ t → cond t (ltb 0 e.align) (ends_past x.last e) ≡ out_of_pool (to_host h) fs q
      go true g = ap (ltb 0) align ∙ sym (out_of_closed (to_host h) fs lawful q (omega (arith, ltb-true x.last x.base g, b, l)))
      go false g =
          let opens : (to_host h).base q ≤ (to_host h).last q = omega (arith, ltb-false x.last x.base g, b, l) in
          ap₂ ends_past l (ended opens) ∙ sym (out_of_pool_capped (to_host h) fs lawful q (low opens))

module _ (h : Host) (fs : List placing.Function) (lawful : Lawful fs) (r : Laid) (e : r ≡ cut (bus_laid fs 0 (root_laid (to_host h)))) where
  kept_end : (q : Pool) → extent_in r q ≡ capped ((bus_laid fs 0 (root_laid (to_host h))).extent q)
  kept_end Low = ap (λ (x : Laid). x.low) e
  kept_end High = ap (λ (x : Laid). x.high) e
  kept_end Io = ap (λ (x : Laid). x.io) e

  pub runs_out_is : (q : Pool) → OpenEndsLow (to_host h) q → runs_out (span_of h q) (extent_in r q) ≡ out_of_pool (to_host h) fs q
  runs_out_is q low =
      let kept = kept_end q in
      runs_out_at h fs lawful q (extent_in r q) (ap (λ (y : Extent). y.align) kept) (λ _. kept) low (span_of h q) (base_of_span h q)
      (last_of_span h q)

-- ---- the number

-- from whether each pool runs out
pub refusal_by_out : (h : Host) (fs : List placing.Function) (m : Measured) → m.bridges ≡ bridges fs
    → ((q : Pool) → runs_out (span_of h q) (extent_in m.root q) ≡ out_of_pool (to_host h) fs q) → refusal_by h m ≡ refusal_of (to_host h) fs
unfolding refusal_by refusal_of
refusal_by_out h fs m buses out = rw (buses, out Low, out High, out Io)

pub refusal_by_is : {counts memo : List ℕ} {m : Measured} (b : List ℕ) → Bytes b → board_number b ≡ 0
    → IsMeasured b (host_of b) counts memo m
    → refusal_by (host_of b) m ≡ refusal_of (to_host (host_of b)) (to_placing (functions_of b))
refusal_by_is {m = m} b bytes accepted is =
    let board = board_of_accepted b bytes accepted in
    refusal_by_out (host_of b) (to_placing (functions_of b)) m is.bridges_are
    (λ q. runs_out_is (host_of b) (to_placing (functions_of b)) board.lawful m.root is.root q (open_ends_low board.edges q))
