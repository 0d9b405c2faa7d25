-- What fits of a board, proved: the planner on its bytes with another host record, from the laws of the finding, of room and of host
-- records. Assumes nothing.
use Rattle.std.specs.Prelude.{◌≡◌, ◌⊎◌, ◌↔◌, Bool, cond, ◌&&◌, List, ℕ, suc, ◌+◌, ◌-◌, ◌%◌, ◌≤◌, ◌<◌, ◌^◌, ltb, length}
use Rattle.std.proofs.Math.Path.{refl, subst}
use Rattle.std.proofs.Common.{sym, ap, ap₂, ◌∙◌, inl, inr, ⊎_elim, true≢false}
use Rattle.std.proofs.Math.Bool.{true, false}
use native.Mathlib.Omega.{arith}
use Rattle.std.proofs.Math.Nat.{zero-mod}
use Rattle.std.proofs.Math.Dec.{eqb}
use borrow.Author.Tests.{eqb-true, eqb-false, ne_eqb, ltb-true, ltb-false, le-ltb, lt-leb}
use Rattle.arith.specs.Align.{Multiple}
use Rattle.arith.specs.Powers.{PowerOfTwo}
use Rattle.arith.specs.PowersLaws.{multiple_of_le, power_max}
use Rattle.arith.specs.Order.{le_or_lt, eq_or_ne}
use Rattle.arith.specs.BoolLaws.{true_or_false}
use Rattle.lists.specs.ListLaws.{all_imp}
use Rattle.lists.specs.KeepLaws.{all_keep}
use Rattle.endian.specs.Endian.{Bytes}
use Rattle.plan_rule.specs.Pools.{Pool, low, high, io, granule, refusal, same_pool}
use Rattle.plan_rule.proofs.PoolLaws.{granule_power}
use Rattle.plan_rule.specs.Records.{Host, Function, Lawful}
use Rattle.plan_rule.specs.Layout.{is_on, select, layout_end, largest_align}
use Rattle.plan_rule.proofs.LayoutLaws.{largest_align_power}
use Rattle.plan_rule.specs.Pieces.{pieces}
use Rattle.plan_rule.proofs.PieceLaws.{Shaped, pieces_shaped}
use Rattle.plan_rule.specs.Numbering.{bridges}
use Rattle.plan_rule.specs.Cap.{limit}
use Rattle.plan_rule.specs.Refusals.{out_of_pool, refusal_of}
use Rattle.plan_rule.proofs.RefusalLaws.{out_of_pool_iff, kept_iff, out_of_pool_end, BusesKept, refusal_law}
use Rattle.board_record.specs.declared.Host as boards
use Rattle.board_record.specs.declared.Span.{Span}
use Rattle.board_record.specs.Host.{outside, pool_wrong}
use Rattle.board.specs.Board.{board_number, host_of, functions_of}
use Rattle.board.proofs.BoardLaws.{accepted_of_zero}
use Rattle.board.specs.ToPlacing.{pool_span, to_host, to_placing}
use Rattle.board.proofs.ToPlacingLaws.{lawful_of_accepted}
use Rattle.sheet.specs.Sheet.{sheet_length}
use Rattle.plan_answer.specs.declared.Planning.{Planning}
use Rattle.plan_answer.specs.declared.Planning.TheVariants.{Planned as PlannedAt, Refused}
use Rattle.plan_answer.specs.Plan.{on_room, on_board, planning, number_of}
use Rattle.plan_sheet.proofs.Accepted.{board_of_accepted}
use Rattle.plan_needs.specs.declared.Needs.{Needs}
use Rattle.plan_needs.specs.Bases.{is_closed, layout_base}
use Rattle.plan_needs.specs.Needs.{align_needed}
use Rattle.plan_needs.proofs.NeedsLaws.{StartsAlike}
use Rattle.plan_where.specs.Finding.{plan_finding_of}
use Rattle.request_findings.specs.WhatFits.{host_in, functions_in, needed, aligned, SameBoard, room_of, Suits, IsEnough, OnlyPool}
use Rattle.request_findings.specs.WhatFits.{SpanFits, host_bytes, span_from, with_pool, first_base, base_for, kind_end, resized, WhatFits}
use Rattle.request_findings.proofs.PlanFindingLaws.{number_is, header_wrong_of, misplaced_of, read_back_wrong_of, runs_out_of}
use Rattle.request_findings.proofs.PlanFindingLaws.{loses_most_of, nobody_of, buses_needed_of, out_of_refused, refusal_small}
use Rattle.request_findings.proofs.PlanFindingLaws.{refusal_past_30, refusal_large, lawful_number, of_host, aligned_is}
use Rattle.request_findings.proofs.RoomLaws.{Has, ends_low, own_edges, base_low, bytes_needed_of, needed_multiple, has_less_of}
use Rattle.request_findings.proofs.HostRecordLaws.{right_edges, host_record_of, own_fits, span_with, buses_with, others_with}
use Rattle.request_findings.proofs.HostRecordLaws.{width, fits_with, right_with, on_host_of}

-- ## Which number is the planner's

-- the numbers from 30 on before a pool's are 30 and those of the pools before it
none_before : (q : Pool) (P : ℕ → Type 0) → (P 30 → ⊥) → ((p : Pool) → refusal p < refusal q → P (refusal p) → ⊥)
    → (m : ℕ) → 30 ≤ m → m < refusal q → P m → ⊥
none_before q P buses pools m l k e =
    ⊎_elim (λ i. buses (subst P i e))
    (λ d. ⊎_elim (λ i. pools low (omega (arith, i, k)) (subst P i e))
    (λ d'. ⊎_elim (λ i. pools high (omega (arith, i, k)) (subst P i e))
    (λ d''. absurd (omega (arith, l, k, d, d', d'', refusal_small q)))
    (eq_or_ne m 32))
    (eq_or_ne m 31))
    (eq_or_ne m 30)

-- where a pool runs out and nothing before it does
first_out_lem : (g : Host) (ps : List Function) (q : Pool) → ((m : ℕ) → 30 ≤ m → m < refusal q → refusal_of g ps ≡ m → ⊥)
    → out_of_pool g ps q ≡ true → refusal_of g ps ≡ refusal q
first_out_lem g ps q none e = go q none e
  where
    buses : (refusal_of g ps ≡ 30 → ⊥) → BusesKept g ps
    buses n = ⊎_elim (λ l. l) (λ l. absurd (n ((refusal_law g ps).buses_iff.1 l))) (le_or_lt (g.first_bus + bridges ps) g.last_bus)

    kept : (p : Pool) → (out_of_pool g ps p ≡ true → ⊥) → out_of_pool g ps p ≡ false
    kept p n = ⊎_elim (λ o. absurd (n o)) (λ o. o) (true_or_false (out_of_pool g ps p))

    go : (p : Pool) → ((m : ℕ) → 30 ≤ m → m < refusal p → refusal_of g ps ≡ m → ⊥) → out_of_pool g ps p ≡ true → refusal_of g ps ≡ refusal p
    go low n o = (refusal_law g ps).low_iff.1 (buses (n 30 (omega arith) (omega arith)), (out_of_pool_iff g ps low).0 o)
    go high n o =
        let b = buses (n 30 (omega arith) (omega arith)) in
        let lows = kept low (λ k. n 31 (omega arith) (omega arith) ((refusal_law g ps).low_iff.1 (b, (out_of_pool_iff g ps low).0 k))) in
        (refusal_law g ps).high_iff.1 (b, (kept_iff g ps low).0 lows, (out_of_pool_iff g ps high).0 o)
    go io n o =
        let b = buses (n 30 (omega arith) (omega arith)) in
        let lows = kept low (λ k. n 31 (omega arith) (omega arith) ((refusal_law g ps).low_iff.1 (b, (out_of_pool_iff g ps low).0 k))) in
        let l = (kept_iff g ps low).0 lows in
        let highs =
        kept high (λ k. n 32 (omega arith) (omega arith) ((refusal_law g ps).high_iff.1 (b, l, (out_of_pool_iff g ps high).0 k))) in
        (refusal_law g ps).io_iff.1 (b, l, (kept_iff g ps high).0 highs, (out_of_pool_iff g ps io).0 o)

-- a lawful board's number from 30 on is what its host's room gives
module _ (c : List ℕ) (z : board_number c ≡ 0) (room : ℕ) where
  abbrev on_number : ℕ → Planning
  on_number n = cond (eqb n 0) (on_room (sheet_length (length (functions_of c))) room) (Refused n)

  planning_is : planning c room ≡ on_number (refusal_of (host_in c) (functions_in c))
  unfolding planning on_board
  planning_is = rw z

  room_small : (size : ℕ) → number_of (on_room size room) ≤ 11
  unfolding on_room
  room_small size = go (ltb room size)
    where
      go : (t : Bool) → number_of (cond t (Refused 11) (PlannedAt size)) ≤ 11
      go true = omega arith
      go false = omega arith

  refusal_of_number : (m : ℕ) → 30 ≤ m → number_of (planning c room) ≡ m → refusal_of (host_in c) (functions_in c) ≡ m
  refusal_of_number m large e = go (eqb n 0) (sym (ap number_of planning_is) ∙ e)
    where
      n : ℕ
      n = refusal_of (host_in c) (functions_in c)

      size : ℕ
      size = sheet_length (length (functions_of c))

      go : (t : Bool) → number_of (cond t (on_room size room) (Refused n)) ≡ m → n ≡ m
      go true k = absurd (omega (arith, k, large, room_small size))
      go false k = k

  number_of_refusal : (m : ℕ) → 30 ≤ m → refusal_of (host_in c) (functions_in c) ≡ m → planning c room ≡ Refused m
  number_of_refusal m large e =
      let some : (m ≡ 0 → ⊥) = λ k. omega (arith, k, large) in
      planning_is ∙ ap on_number e ∙ rw (ne_eqb m 0 some)

functions_are : (b c : List ℕ) → SameBoard b c → functions_in c ≡ functions_in b
functions_are b c same = ap to_placing same.functions

buses_needed_there : (b c : List ℕ) → board_number b ≡ 0 → SameBoard b c → (room : ℕ)
    → (planning c room ≡ Refused 30) ↔ (suc (host_in c).last_bus < (host_in c).first_bus + (plan_finding_of b).needs.buses)
buses_needed_there b c z same room =
    let there = host_in c in
    let is = ap (λ (fs : List Function). refusal_of there fs) (functions_are b c same) in
    let exact = buses_needed_of b z there in (
      λ e. exact.0 (sym is ∙ refusal_of_number c same.lawful room 30 (omega arith) (ap number_of e)),
      λ l. number_of_refusal c same.lawful room 30 (omega arith) (is ∙ exact.1 l),
    )

-- ## A pool that suits

module _ (b c : List ℕ) (bytes : Bytes b) (z : board_number b ≡ 0) (same : SameBoard b c) where
  abbrev there : Host
  there = host_in c

  abbrev told : Needs
  told = (plan_finding_of b).needs

  alike : (q : Pool) → (((host_in b).last q < (host_in b).base q) ⊎ Multiple (aligned told q) ((host_in b).base q))
      → Multiple (aligned told q) (layout_base (host_in b) q)
  alike q s = go (is_closed (host_in b) q) refl s
    where
      go : (t : Bool) → is_closed (host_in b) q ≡ t
          → (((host_in b).last q < (host_in b).base q) ⊎ Multiple (aligned told q) ((host_in b).base q))
          → Multiple (aligned told q) (cond t 0 ((host_in b).base q))
      go true e s = zero-mod (aligned told q)
      go false e (inl l) = absurd (omega (arith, l, ltb-false ((host_in b).last q) ((host_in b).base q) e))
      go false e (inr m) = m

  has_room : (q : Pool) → Suits b there q → Has (host_in b) there (functions_in b) q (room_of there q)
  has_room q s = ⊎_elim (λ l. opened l s) (λ l. inl (l, omega (arith, l))) (le_or_lt (there.base q) (there.last q))
    where
      starts : there.base q ≤ there.last q → Suits b there q → StartsAlike (host_in b) there (functions_in b) q
      starts l (inl k) = absurd (omega (arith, l, k))
      starts l (inr (inl (o, e))) =
          inl (e ∙ sym (ap (λ (t : Bool). cond t 0 ((host_in b).base q)) (le-ltb ((host_in b).last q) ((host_in b).base q) o)))
      starts l (inr (inr (a, m))) =
          let is = aligned_is b z q in
          inr (ap (λ (n : ℕ). layout_base (host_in b) q % n) (sym is) ∙ alike q a, ap (λ (n : ℕ). there.base q % n) (sym is) ∙ m)

      opened : there.base q ≤ there.last q → Suits b there q → Has (host_in b) there (functions_in b) q (room_of there q)
      opened l s =
          let all : there.base q + room_of there q ≡ suc (there.last q) = omega (arith, l) in
          let ends = ends_low c same.bytes same.lawful q l in
          inr
          (record {
            starts = starts l s;
            ends = sym all;
            on_edge = ap (λ (n : ℕ). n % granule q) all ∙ (own_edges c same.bytes same.lawful q l).1;
            below = omega (arith, all, ends);
            told = omega (arith, all, ends, base_low b bytes z q);
          })

  exact_there : (q : Pool) → Suits b there q → (out_of_pool there (functions_in c) q ≡ false) ↔ (needed told q ≤ room_of there q)
  exact_there q s =
      let e = bytes_needed_of b bytes z there q (room_of there q) (has_room q s) in
      let is = ap (λ (fs : List Function). out_of_pool there fs q) (functions_are b c same) in
      (λ o. e.0 (sym is ∙ o), λ l. is ∙ e.1 l)

  enough_of : (q : Pool) → IsEnough b there q → (room : ℕ) → planning c room ≡ Refused (refusal q) → ⊥
  enough_of q o room e =
      let refused = refusal_of_number c same.lawful room (refusal q) (refusal_large q) (ap number_of e) in
      true≢false (sym (out_of_refused there (functions_in c) q refused) ∙ (exact_there q o.0).1 o.1)

  too_few_of : (q : Pool) → Suits b there q → room_of there q < needed told q → (room : ℕ)
      → ((m : ℕ) → 30 ≤ m → m < refusal q → planning c room ≡ Refused m → ⊥) → planning c room ≡ Refused (refusal q)
  too_few_of q s less room none =
      number_of_refusal c same.lawful room (refusal q) (refusal_large q)
      (first_out_lem there (functions_in c) q
      (λ m l k e. none m l k (number_of_refusal c same.lawful room m l e))
      (⊎_elim (λ o. o) (λ o. absurd (omega (arith, (exact_there q s).0 o, less))) (true_or_false (out_of_pool there (functions_in c) q))))

  refused_iff_of : there.first_bus + told.buses ≤ suc there.last_bus → (q : Pool)
      → ((p : Pool) → refusal p < refusal q → IsEnough b there p) → Suits b there q → (room : ℕ)
      → (planning c room ≡ Refused (refusal q)) ↔ (room_of there q < needed told q)
  refused_iff_of buses q before s room = (
    λ e. ⊎_elim (λ l. absurd (enough_of q (s, l) room e)) (λ l. l) (le_or_lt (needed told q) (room_of there q)),
    λ less. too_few_of q s less room none,
  )
    where
      none : (m : ℕ) → 30 ≤ m → m < refusal q → planning c room ≡ Refused m → ⊥
      none =
          none_before q (λ m. planning c room ≡ Refused m) (λ e. omega (arith, (buses_needed_there b c z same room).0 e, buses))
          (λ p l. enough_of p (before p l) room)

-- ## One pool changed

kept_before : (g : Host) (ps : List Function) (q p : Pool) → refusal_of g ps ≡ refusal q → refusal p < refusal q → out_of_pool g ps p ≡ false
kept_before g ps low p e l = absurd (omega (arith, l, refusal_past_30 p))
kept_before g ps high low e l = (kept_iff g ps low).1 ((refusal_law g ps).high_iff.0 e).1
kept_before g ps high high e l = absurd (omega (arith, l))
kept_before g ps high io e l = absurd (omega (arith, l))
kept_before g ps io low e l = (kept_iff g ps low).1 ((refusal_law g ps).io_iff.0 e).1
kept_before g ps io high e l = (kept_iff g ps high).1 ((refusal_law g ps).io_iff.0 e).2
kept_before g ps io io e l = absurd (omega (arith, l))

other_before : (q p : Pool) → refusal p < refusal q → same_pool p q ≡ false
other_before low low l = absurd (omega (arith, l))
other_before low high l = refl
other_before low io l = refl
other_before high low l = refl
other_before high high l = absurd (omega (arith, l))
other_before high io l = refl
other_before io low l = refl
other_before io high l = refl
other_before io io l = absurd (omega (arith, l))

buses_before : (g : Host) (ps : List Function) (q : Pool) → refusal_of g ps ≡ refusal q → BusesKept g ps
buses_before g ps low e = ((refusal_law g ps).low_iff.0 e).0
buses_before g ps high e = ((refusal_law g ps).high_iff.0 e).0
buses_before g ps io e = ((refusal_law g ps).io_iff.0 e).0

out_alike : (g k : Host) (ps : List Function) → Lawful ps → (p : Pool) → g.base p ≡ k.base p → g.last p ≡ k.last p
    → out_of_pool g ps p ≡ out_of_pool k ps p
out_alike g k ps lawful p d e =
    let content = select 0 p (pieces 1 ps) in
    out_of_pool_end g ps lawful p
    ∙ ap₂ (λ (x y : ℕ). ltb 0 (largest_align content) && ltb (suc x) (layout_end y content)) e d
    ∙ sym (out_of_pool_end k ps lawful p)

changed_iff_of : (b c : List ℕ) → Bytes b → SameBoard b c → (q : Pool) → (plan_finding_of b).number ≡ refusal q
    → OnlyPool (host_in b) (host_in c) q → Suits b (host_in c) q → (room : ℕ)
    → (planning c room ≡ Refused (refusal q)) ↔ (room_of (host_in c) q < needed (plan_finding_of b).needs q)
changed_iff_of b c bytes same q e only s room = (
  λ r.
      ⊎_elim (λ l. absurd (enough_of b c bytes z same q (s, l) room r)) (λ l. l)
      (le_or_lt (needed (plan_finding_of b).needs q) (room_of (host_in c) q)),
  λ less. too_few_of b c bytes z same q s less room none,
)
  where
    z : board_number b ≡ 0
    z = of_host b e (refusal_large q)

    own : refusal_of (host_in b) (functions_in b) ≡ refusal q
    own = sym (lawful_number b z) ∙ e

    before : (p : Pool) → refusal p < refusal q → refusal_of (host_in c) (functions_in b) ≡ refusal p → ⊥
    before p l k =
        let o = only.others p (other_before q p l) in
        true≢false
        (sym (out_of_refused (host_in c) (functions_in b) p k)
        ∙ out_alike (host_in c) (host_in b) (functions_in b) (lawful_of_accepted b z) p o.0 o.1
        ∙ kept_before (host_in b) (functions_in b) q p own l)

    not_30 : refusal_of (host_in c) (functions_in b) ≡ 30 → ⊥
    not_30 k =
        omega (
          arith,
          (refusal_law (host_in c) (functions_in b)).buses_iff.0 k,
          buses_before (host_in b) (functions_in b) q own,
          only.first_bus_lem,
          only.last_bus_lem,
        )

    none : (m : ℕ) → 30 ≤ m → m < refusal q → planning c room ≡ Refused m → ⊥
    none m l k n =
        let is = ap (λ (fs : List Function). refusal_of (host_in c) fs) (sym (functions_are b c same)) in
        none_before q (λ m. refusal_of (host_in c) (functions_in b) ≡ m) not_30 before m l k
        (is ∙ refusal_of_number c same.lawful room m l (ap number_of n))

-- ## A pool of another size

module _ (b : List ℕ) (bytes : Bytes b) (z : board_number b ≡ 0) (q : Pool) where
  abbrev align : ℕ
  align = aligned (plan_finding_of b).needs q

  align_power : PowerOfTwo align
  unfolding align_needed
  align_power =
      let content = select 0 q (pieces 1 (functions_in b)) in
      let shaped = all_keep (is_on 0 q) Shaped (pieces 1 (functions_in b)) (pieces_shaped 1 (functions_in b) (lawful_of_accepted b z).sized) in
      subst PowerOfTwo (sym (aligned_is b z q))
      (largest_align_power (granule q) content (granule_power q) (all_imp _ _ content shaped (λ p k. k.align_power)))

-- where a pool of a kind may start
abbrev kind_start : Pool → ℕ
kind_start low = 0
kind_start high = 4294967296
kind_start io = 0

four_Gi_b : PowerOfTwo 4294967296
four_Gi_b = (32, refl)

first_multiple : (p : Pool) (a : ℕ) → PowerOfTwo a → Multiple a (first_base a p)
first_multiple low a w = zero-mod a
first_multiple high a w = multiple_of_le w (power_max w four_Gi_b) (omega arith)
first_multiple io a w = zero-mod a

first_edge : (p : Pool) (a : ℕ) → PowerOfTwo a → Multiple (granule p) (first_base a p)
first_edge low a w = refl
first_edge high a w = multiple_of_le (granule_power high) (power_max w four_Gi_b) (omega arith)
first_edge io a w = refl

first_start : (p : Pool) (a : ℕ) → kind_start p ≤ first_base a p
first_start low a = omega arith
first_start high a = omega arith
first_start io a = omega arith

inside_kind : (p : Pool) (base n : ℕ) → 0 < n → kind_start p ≤ base → base + n ≤ kind_end p
    → outside p (record { base = base; last = base + n - 1 }) ≡ false
inside_kind low base n some start end = refl
inside_kind high base n some start end =
    rw (le-ltb base 4294967296 start, lt-leb 4503599627370496 (base + n - 1) (omega (arith, some, end)))
inside_kind io base n some start end = refl

fits_kind : (p : Pool) (x : ℕ) → x < kind_end p → x < 256 ^ width p
fits_kind low x l = omega (arith, l)
fits_kind high x l = omega (arith, l)
fits_kind io x l = omega (arith, l)

one_fits : (p : Pool) → 1 < kind_end p
one_fits low = omega arith
one_fits high = omega arith
one_fits io = omega arith

module _ (b : List ℕ) (bytes : Bytes b) (z : board_number b ≡ 0) (q : Pool) where
  abbrev base : ℕ
  base = base_for b q

  -- where the pool is closed, and where it is open
  base_closed : is_closed (host_in b) q ≡ true → base ≡ first_base (align b bytes z q) q
  base_closed e = ap (λ (t : Bool). cond t (first_base (align b bytes z q) q) ((host_in b).base q)) e

  base_open : is_closed (host_in b) q ≡ false → base ≡ (host_in b).base q
  base_open e = ap (λ (t : Bool). cond t (first_base (align b bytes z q) q) ((host_in b).base q)) e

  opens : is_closed (host_in b) q ≡ false → (host_in b).base q ≤ (host_in b).last q
  opens e = ltb-false ((host_in b).last q) ((host_in b).base q) e

  base_edge : Multiple (granule q) base
  base_edge =
      ⊎_elim
      (λ e. ap (λ (n : ℕ). n % granule q) (base_closed e) ∙ first_edge q (align b bytes z q) (align_power b bytes z q))
      (λ e. ap (λ (n : ℕ). n % granule q) (base_open e) ∙ (own_edges b bytes z q (opens e)).0)
      (true_or_false (is_closed (host_in b) q))

  own_start : (p : Pool) → (host_in b).base p ≤ (host_in b).last p → kind_start p ≤ (host_in b).base p
  own_start low o = omega arith
  own_start high o = (board_of_accepted b bytes z).edges.high_starts_at_4_Gi_b o
  own_start io o = omega arith

  base_start : kind_start q ≤ base
  base_start =
      ⊎_elim (λ e. omega (arith, base_closed e, first_start q (align b bytes z q))) (λ e. omega (arith, base_open e, own_start q (opens e)))
      (true_or_false (is_closed (host_in b) q))

  needed_edge_of : base + needed (plan_finding_of b).needs q ≤ kind_end q → Multiple (granule q) (needed (plan_finding_of b).needs q)
  needed_edge_of fits = needed_multiple b bytes z q (omega (arith, fits, kind_small q, below))
    where
      kind_small : (p : Pool) → kind_end p < limit
      kind_small low = omega arith
      kind_small high = omega arith
      kind_small io = omega arith

      below : layout_base (host_in b) q ≤ base
      below =
          ⊎_elim (λ e. omega (arith, ap (λ (t : Bool). cond t 0 ((host_in b).base q)) e))
          (λ e. omega (arith, base_open e, ap (λ (t : Bool). cond t 0 ((host_in b).base q)) e))
          (true_or_false (is_closed (host_in b) q))

  module _ (n : ℕ) (edge : Multiple (granule q) n) (fits : base + n ≤ kind_end q) where
    abbrev span : Span
    span = span_from base n

    abbrev host : boards.Host
    host = with_pool (host_of b) q span

    span_right : pool_wrong q span ≡ false
    unfolding pool_wrong
    span_right = go (eqb n 0) refl
      where
        go : (t : Bool) → eqb n 0 ≡ t → pool_wrong q (cond t (record { base = 1; last = 0 }) (record { base = base; last = base + n - 1 })) ≡ false
        go true e = refl
        go false e =
            let some : 0 < n = omega (arith, eqb-false n 0 e) in
            right_edges q base n some base_edge edge (inside_kind q base n some base_start fits)

    span_fits : SpanFits (width q) span
    span_fits = go (eqb n 0) refl
      where
        go : (t : Bool) → eqb n 0 ≡ t → SpanFits (width q) (cond t (record { base = 1; last = 0 }) (record { base = base; last = base + n - 1 }))
        go true e = (fits_kind q 1 (one_fits q), fits_kind q 0 (omega (arith, one_fits q)))
        go false e =
            let some = eqb-false n 0 e in
            (fits_kind q base (omega (arith, some, fits)), fits_kind q (base + n - 1) (omega (arith, some, fits)))

    put_in : SameBoard b (resized b q n) × (host_of (resized b q n) ≡ host)
    put_in =
        let written = host_record_of host (fits_with (host_of b) q span (own_fits b bytes z) span_fits)
        (right_with (host_of b) q span (accepted_of_zero b z).edges span_right) in
        let on = on_host_of b (host_bytes host) bytes z written.0 in
        (on.0, on.1 ∙ written.1)

    only_that : OnlyPool (host_in b) (to_host host) q
    only_that =
        record {
          first_bus_lem = (buses_with (host_of b) q span).0;
          last_bus_lem = (buses_with (host_of b) q span).1;
          others =
              λ p d.
              let is = others_with (host_of b) q span p d in
              (ap (λ (s : Span). s.base) is, ap (λ (s : Span). s.last) is);
        }

    suits_and_fits : Suits b (to_host host) q × (room_of (to_host host) q ≡ n)
    suits_and_fits = go (eqb n 0) refl
      where
        is : (t : Bool) → eqb n 0 ≡ t
            → pool_span host q ≡ cond t (record { base = 1; last = 0 }) (record { base = base; last = base + n - 1 })
        is t e =
            span_with (host_of b) q span
            ∙ ap (λ (t : Bool). cond t (record { base = 1; last = 0 }) (record { base = base; last = base + n - 1 })) e

        starts : (to_host host).base q ≡ base → Suits b (to_host host) q
        starts at =
            ⊎_elim
            (λ e. inr (inr (
              inl (ltb-true ((host_in b).last q) ((host_in b).base q) e),
              ap (λ (k : ℕ). k % align b bytes z q) (at ∙ base_closed e) ∙ first_multiple q (align b bytes z q) (align_power b bytes z q),
            )))
            (λ e. inr (inl (opens e, at ∙ base_open e)))
            (true_or_false (is_closed (host_in b) q))

        go : (t : Bool) → eqb n 0 ≡ t → Suits b (to_host host) q × (room_of (to_host host) q ≡ n)
        go true e =
            let from : (to_host host).base q ≡ 1 = ap (λ (s : Span). s.base) (is true e) in
            let to : (to_host host).last q ≡ 0 = ap (λ (s : Span). s.last) (is true e) in
            (inl (omega (arith, from, to)), omega (arith, from, to, eqb-true n 0 e))
        go false e =
            let from : (to_host host).base q ≡ base = ap (λ (s : Span). s.base) (is false e) in
            let to : (to_host host).last q ≡ base + n - 1 = ap (λ (s : Span). s.last) (is false e) in
            (starts from, omega (arith, from, to, eqb-false n 0 e))

    resized_of : SameBoard b (resized b q n) × OnlyPool (host_in b) (host_in (resized b q n)) q × Suits b (host_in (resized b q n)) q
        × (room_of (host_in (resized b q n)) q ≡ n)
    resized_of =
        let is = sym put_in.1 in (
          put_in.0,
          subst (λ (x : boards.Host). OnlyPool (host_in b) (to_host x) q) is only_that,
          subst (λ (x : boards.Host). Suits b (to_host x) q) is suits_and_fits.0,
          subst (λ (x : boards.Host). room_of (to_host x) q ≡ n) is suits_and_fits.1,
        )

pub what_fits : WhatFits
what_fits =
    record {
      number = number_is;
      header_wrong_lem = header_wrong_of;
      misplaced = misplaced_of;
      read_back_wrong = read_back_wrong_of;
      runs_out_lem = runs_out_of;
      loses_most = loses_most_of;
      nobody_else = nobody_of;
      buses_needed_lem = buses_needed_there;
      has_less = has_less_of;
      enough = enough_of;
      too_few = too_few_of;
      refused_iff = refused_iff_of;
      changed_iff = changed_iff_of;
      host_record_lem = host_record_of;
      on_host_lem = on_host_of;
      resized_is = resized_of;
      needed_edge = needed_edge_of;
    }
