-- A board measured with each closed pool at 0: the number, the needs and what the walk over its items asks. Assumes nothing.
use Rattle.std.specs.Prelude.{◌≡◌, refl, Bool, true, false, cond, List, ℕ, ◌+◌, ◌≤◌, ◌<◌}
use Rattle.std.proofs.Math.Path.{sym, ap}
use Rattle.std.proofs.Common.{subst, ◌∙◌, ⊎_elim, arith, ltb-false, le-ltb}
use Rattle.arith.specs.Order.{le_or_lt}
use Rattle.endian.specs.Endian.{Bytes}
use Rattle.pools.specs.declared.Pool.{Pool}
use Rattle.pools.specs.declared.Pool.TheVariants.{Low, High, Io}
use Rattle.plan_rule.specs.Records as placing
use Rattle.plan_rule.specs.Records.{Lawful}
use Rattle.plan_rule.specs.Layout.{select}
use Rattle.plan_rule.specs.Pieces.{pieces}
use Rattle.plan_rule.specs.Numbering.{bridges}
use Rattle.plan_rule.specs.declared.Extent.{Extent}
use Rattle.plan_rule.specs.Sizing.{Laid as PlacingLaid, extend, bus_laid, root_laid}
use Rattle.plan_rule.proofs.ExtentLaws.{extend_align}
use Rattle.plan_rule.specs.Cap.{limit}
use Rattle.plan_rule.proofs.CapLaws.{capped}
use Rattle.plan_rule.specs.Refusals.{out_of_pool, refusal_of}
use Rattle.plan_rule.proofs.RefusalLaws.{refusal_law}
use Rattle.board_record.specs.declared.Host.{Host}
use Rattle.board_record.specs.Host.{span_of}
use Rattle.board.specs.Board.{board_number, host_of, functions_of}
use Rattle.board.specs.ToPlacing.{to_host, to_placing}
use Rattle.plan_good.specs.Boards.{Board, OpenEndsLow}
use Rattle.plan_good.proofs.Boards.{open_ends_low}
use Rattle.plan_sheet.proofs.Accepted.{board_of_accepted}
use Rattle.plan_sizing.specs.declared.Laid.{Laid}
use Rattle.plan_sizing.specs.Cut.{extent_in, cut}
use Rattle.plan_pass.specs.PreparedLaws.{prepared_of_accepted}
use Rattle.planner.specs.declared.Measured.{Measured}
use Rattle.planner.specs.Measure.{runs_out, refusal_by, IsMeasured}
use Rattle.planner.specs.MeasureLaws.{base_of_span, last_of_span, runs_out_at, refusal_by_out}
use Rattle.plan_needs.specs.Bases.{is_closed, layout_base, laid_host_of}
use Rattle.plan_needs.proofs.BasesLaws.{laid_base}
use Rattle.plan_needs.specs.Needs.{needs_of}
use Rattle.plan_needs.specs.Measured.{needs_by, PastBases}
use Rattle.plan_needs.proofs.MeasuredLaws.{needs_by_is, past_bases}
use Rattle.plan_needs.specs.declared.Needs.{Needs}
use Rattle.plan_items.specs.Loop.{Walkable}
use Rattle.finding.specs.declared.Parties.{Parties}
use Rattle.plan_where.specs.declared.PlanFinding.{PlanFinding}
use Rattle.plan_where.specs.Finding.{parties_under, lawful_finding}

-- ## One pool

-- what an open pool is laid out from is its base
open_base : (h : placing.Host) (q : Pool) → h.base q ≤ h.last q → layout_base h q ≡ h.base q
open_base h q l = rw (le-ltb (h.last q) (h.base q) l)

-- a base that a pool is laid out from is small
base_small : (h : placing.Host) (q : Pool) → OpenEndsLow h q → layout_base h q ≤ limit
base_small h q low = go (is_closed h q) refl
  where
    go : (t : Bool) → is_closed h q ≡ t → cond t 0 (h.base q) ≤ limit
    go true e = omega arith
    go false e = let opens = ltb-false (h.last q) (h.base q) e in omega (arith, opens, low opens)

kept_in : (l : PlacingLaid) (q : Pool) → extent_in (cut l) q ≡ capped (l.extent q)
kept_in l Low = refl
kept_in l High = refl
kept_in l Io = refl

module _ (h : Host) (fs : List placing.Function) (lawful : Lawful fs) (root : Laid)
    (is : root ≡ cut (bus_laid fs 0 (root_laid (to_host (laid_host_of h))))) (q : Pool) where
  abbrev from : ℕ → Extent
  from base = extend (record { end = base; align = 0 }) (select 0 q (pieces 1 fs))

  extent_is : extent_in root q ≡ capped (from ((to_host (laid_host_of h)).base q))
  unfolding bus_laid
  extent_is = ap (λ (x : Laid). extent_in x q) is ∙ kept_in (bus_laid fs 0 (root_laid (to_host (laid_host_of h)))) q

  align_is : (extent_in root q).align ≡ ((bus_laid fs 0 (root_laid (to_host h))).extent q).align
  unfolding bus_laid
  align_is =
      let content = select 0 q (pieces 1 fs) in
      ap (λ (x : Extent). x.align) extent_is
      ∙ extend_align (record { end = (to_host (laid_host_of h)).base q; align = 0 }) content
      ∙ sym (extend_align (record { end = (to_host h).base q; align = 0 }) content)

  ended : (to_host h).base q ≤ (to_host h).last q → extent_in root q ≡ capped ((bus_laid fs 0 (root_laid (to_host h))).extent q)
  unfolding bus_laid
  ended opens = extent_is ∙ ap (λ (n : ℕ). capped (from n)) (laid_base h q ∙ open_base (to_host h) q opens)

  pub runs_out_laid : OpenEndsLow (to_host h) q → runs_out (span_of h q) (extent_in root q) ≡ out_of_pool (to_host h) fs q
  runs_out_laid low =
      runs_out_at h fs lawful q (extent_in root q) align_is ended low (span_of h q) (base_of_span h q) (last_of_span h q)

-- ## The board

module _ {h : Host} {counts memo : List ℕ} {m : Measured} (b : List ℕ) (bytes : Bytes b) (accepted : board_number b ≡ 0)
    (host_is : h ≡ host_of b) (is : IsMeasured b (laid_host_of h) counts memo m) where
  abbrev fs : List placing.Function
  fs = to_placing (functions_of b)

  board : Board (to_host h) fs
  board = subst (λ (x : Host). Board (to_host x) fs) (sym host_is) (board_of_accepted b bytes accepted)

  pub number_is : refusal_by h m ≡ refusal_of (to_host h) fs
  number_is =
      refusal_by_out h fs m is.bridges_are
      (λ q. runs_out_laid h fs board.lawful m.root is.root q (open_ends_low board.edges q))

  pub needs_are : needs_by (laid_host_of h) m.bridges m.root ≡ needs_of (to_host h) fs
  needs_are = needs_by_is h fs board.lawful m.root is.root m.bridges is.bridges_are

  pub ends_past_bases : PastBases (laid_host_of h) m.root
  ends_past_bases =
      past_bases h fs board.lawful m.root is.root (λ q. base_small (to_host h) q (open_ends_low board.edges q))

  -- where a pool runs out, the bus numbers did not
  pub walkable : {n : ℕ} → n ≡ refusal_by h m → 30 < n → Walkable b h counts memo
  walkable {n} number past =
      record {
        accepted = accepted;
        host_read = host_is;
        prepared =
            prepared_of_accepted b h.first_bus counts memo accepted
            (omega (arith, buses_kept, board.edges.last_bus_is_byte))
            is.counts_room (λ k l. (is.counted k l).taken_is) (λ k l. (is.counted k l).over_is) is.memo_room is.stored;
      }
    where
      not_30 : refusal_of (to_host h) fs ≡ 30 → ⊥
      not_30 e = omega (arith, number ∙ number_is ∙ e, past)

      buses_kept : (to_host h).first_bus + bridges fs ≤ (to_host h).last_bus
      buses_kept = ⊎_elim (λ l. l) (λ l. absurd (not_30 ((refusal_law (to_host h) fs).buses_iff.1 l)))
          (le_or_lt ((to_host h).first_bus + bridges fs) (to_host h).last_bus)

-- ## In the words of the code

module _ {h laid : Host} {counts memo : List ℕ} {m : Measured} (b : List ℕ) (bytes : Bytes b) (accepted : board_number b ≡ 0)
    (host_is : h ≡ host_of b) (laid_is : laid ≡ laid_host_of h) (measured : IsMeasured b laid counts memo m) where
  is : IsMeasured b (laid_host_of h) counts memo m
  is = subst (λ (x : Host). IsMeasured b x counts memo m) laid_is measured

  pub call_walkable : {n : ℕ} → n ≡ refusal_by h m → 30 < n → Walkable b h counts memo
  call_walkable = walkable b bytes accepted host_is is

  pub call_past_bases : PastBases laid m.root
  call_past_bases = subst (λ (x : Host). PastBases x m.root) (sym laid_is) (ends_past_bases b bytes accepted host_is is)

  pub call_found : {n : ℕ} {p : Parties} {needs : Needs} → n ≡ refusal_by h m → p ≡ parties_under n (to_host h) (to_placing (functions_of b))
      → needs ≡ needs_by laid m.bridges m.root
      → ◌≡◌ {A = PlanFinding} (record { number = n; party = p.party; other = p.other; needs = needs })
      (lawful_finding (to_host (host_of b)) (to_placing (functions_of b)))
  unfolding lawful_finding
  call_found {n} {p} {needs} number parties need =
      let fs = to_placing (functions_of b) in
      let number_of : n ≡ refusal_of (to_host h) fs = number ∙ number_is b bytes accepted host_is is in
      let parties_of : p ≡ parties_under (refusal_of (to_host h) fs) (to_host h) fs =
      parties ∙ ap (λ (k : ℕ). parties_under k (to_host h) fs) number_of in
      let needs_of_lem : needs ≡ needs_of (to_host h) fs =
      need ∙ ap (λ (x : Host). needs_by x m.bridges m.root) laid_is ∙ needs_are b bytes accepted host_is is in
      (λ i. record { number = number_of i; party = (parties_of i).party; other = (parties_of i).other; needs = needs_of_lem i })
      ∙ ap (λ (x : Host). lawful_finding (to_host x) fs) host_is
