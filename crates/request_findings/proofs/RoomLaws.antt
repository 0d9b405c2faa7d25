-- What a pool needs is exact, of any host whose pool starts as the board's does or on a multiple of the alignment: what is laid out there
-- ends within so many bytes just where no more are needed. Assumes nothing.
use Rattle.std.specs.Prelude.{◌≡◌, refl, ◌⊎◌, ◌↔◌, Bool, true, false, cond, ℕ, suc, ◌+◌, ◌%◌, ◌≤◌, ◌<◌, ltb}
use Rattle.std.proofs.Common.{sym, ap, ◌∙◌, inl, inr, ⊎_elim, true≢false}
use mathlib.Core.List.{List, [], ◌∷◌}
use native.Mathlib.Omega.{arith}
use Rattle.std.proofs.Math.Nat.{zero-mod}
use borrow.Author.Tests.{ltb-true, ltb-false, lt-ltb}
use Rattle.arith.specs.Align.{align_up, Multiple}
use Rattle.arith.specs.AlignLaws.{le_align_up, align_up_multiple}
use Rattle.arith.specs.Order.{le_or_lt}
use Rattle.lists.specs.Lists.{All}
use Rattle.lists.specs.ListLaws.{all_imp}
use Rattle.lists.specs.KeepLaws.{all_keep}
use Rattle.endian.specs.Endian.{Bytes}
use Rattle.pools.specs.PoolsLaws.{granule_pos}
use Rattle.plan_rule.specs.Pools.{Pool, low, high, io, granule, refusal}
use Rattle.plan_rule.specs.Records.{Host, Function, Lawful}
use Rattle.plan_rule.specs.Layout.{Piece, is_on, select, end_at, layout_end, largest_align}
use Rattle.plan_rule.proofs.LayoutLaws.{HasAlign, le_end_at, le_layout_end}
use Rattle.plan_rule.specs.Pieces.{pieces}
use Rattle.plan_rule.proofs.PieceLaws.{Shaped, has_align, pieces_shaped}
use Rattle.plan_rule.specs.Cap.{limit}
use Rattle.plan_rule.specs.Refusals.{out_of_pool}
use Rattle.plan_rule.proofs.RefusalLaws.{out_of_pool_end}
use Rattle.board_record.specs.Host.{span_of, pool_wrong}
use Rattle.board.specs.Board.{board_number, host_of}
use Rattle.board.proofs.BoardLaws.{accepted_of_zero}
use Rattle.board.proofs.ToPlacingLaws.{lawful_of_accepted}
use Rattle.plan_sheet.proofs.Accepted.{board_of_accepted}
use Rattle.plan_good.proofs.Boards.{open_ends_low}
use Rattle.planner.specs.MeasureLaws.{past_base}
use Rattle.plan_needs.specs.Bases.{is_closed, layout_base}
use Rattle.plan_needs.specs.Needs.{length_from, bytes_needed}
use Rattle.plan_needs.proofs.NeedsLaws.{HasBytes, bytes_exact}
use Rattle.plan_where.specs.Finding.{plan_finding_of}
use Rattle.request_findings.specs.WhatFits.{host_in, functions_in, needed, room_of}
use Rattle.request_findings.proofs.PlanFindingLaws.{of_host, own_out, refusal_large, needed_is}
use Rattle.request_findings.proofs.HostRecordLaws.{edges_of_open, parts_right}

-- pool q of g has n bytes from where that of h is laid out from, or both start on a multiple of the alignment; a closed pool has none
abbrev pub Has : Host → Host → List Function → Pool → ℕ → Type 0
Has h g fs q n = ((g.last q < g.base q) × (n ≡ 0)) ⊎ HasBytes h g fs q n

-- whatever is laid out ends past where it starts
ends_past_lem : (base : ℕ) (p : Piece) (ps : List Piece) → All Shaped (p ∷ ps) → base < layout_end base (p ∷ ps)
unfolding layout_end
ends_past_lem base p ps shaped =
    let some = has_align p shaped.0 in
    let rest = le_layout_end (end_at base p) ps (all_imp Shaped HasAlign ps shaped.1 has_align) in
    omega (arith, (le_end_at base p some).0, shaped.0.align_fits, some, rest)

module _ (h : Host) (fs : List Function) (lawful : Lawful fs) (q : Pool) (small : layout_base h q < limit) where
  abbrev content : List Piece
  content = select 0 q (pieces 1 fs)

  abbrev base : ℕ
  base = layout_base h q

  shaped : All Shaped content
  shaped = all_keep (is_on 0 q) Shaped (pieces 1 fs) (pieces_shaped 1 fs lawful.sized)

  -- nothing is needed exactly where there is nothing
  nothing_iff : (ps : List Piece) → All Shaped ps → (ltb 0 (largest_align ps) ≡ false) ↔ (length_from base q ps ≤ 0)
  unfolding largest_align
  nothing_iff [] all = (λ _. omega arith, λ _. refl)
  nothing_iff (p ∷ ps) all =
      let some = lt-ltb 0 (largest_align (p ∷ ps)) (omega (arith, has_align p all.0)) in
      let end = layout_end base (p ∷ ps) in (
        λ e. absurd (true≢false (sym some ∙ e)),
        λ l. absurd (omega (arith, l, small, ends_past_lem base p ps all, le_align_up (granule q) (granule_pos q) end)),
      )

  exact : (g : Host) (n : ℕ) → Has h g fs q n → (out_of_pool g fs q ≡ false) ↔ (bytes_needed h fs q ≤ n)
  unfolding bytes_needed
  exact g n (inl (closed, z)) =
      let is = out_of_pool_end g fs lawful q ∙ past_base (suc (g.last q)) (g.base q) closed content shaped in
      let nothing = nothing_iff content shaped in
      (λ e. omega (arith, nothing.0 (sym is ∙ e)), λ l. is ∙ nothing.1 (omega (arith, l, z)))
  exact g n (inr has) = bytes_exact h g fs lawful q n has

  -- what is needed ends on an edge
  length_edge : (ps : List Piece) → All Shaped ps → Multiple (granule q) base → base + length_from base q ps < limit
      → Multiple (granule q) (base + length_from base q ps)
  length_edge [] all edge below = let none : base + 0 ≡ base = omega arith in ap (λ (x : ℕ). x % granule q) none ∙ edge
  length_edge (p ∷ ps) all edge below =
      let end = layout_end base (p ∷ ps) in
      let up = align_up (granule q) end in
      let whole : base + length_from base q (p ∷ ps) ≡ up =
      omega (arith, below, ends_past_lem base p ps all, le_align_up (granule q) (granule_pos q) end) in
      ap (λ (x : ℕ). x % granule q) whole ∙ align_up_multiple (granule q) (granule_pos q) end

  needed_edge : Multiple (granule q) base → base + bytes_needed h fs q < limit → Multiple (granule q) (base + bytes_needed h fs q)
  unfolding bytes_needed
  needed_edge = length_edge content shaped

module _ (b : List ℕ) (bytes : Bytes b) (z : board_number b ≡ 0) where
  abbrev host : Host
  host = host_in b

  abbrev needs : Pool → ℕ
  needs = needed (plan_finding_of b).needs

  lawful : Lawful (functions_in b)
  lawful = lawful_of_accepted b z

  pub ends_low : (q : Pool) → (host_in b).base q ≤ (host_in b).last q → (host_in b).last q < 4503599627370496
  ends_low q = open_ends_low (board_of_accepted b bytes z).edges q

  pools_right : (q : Pool) → pool_wrong q (span_of (host_of b) q) ≡ false
  pools_right low = (parts_right (host_of b) (accepted_of_zero b z).edges).1
  pools_right high = (parts_right (host_of b) (accepted_of_zero b z).edges).2
  pools_right io = (parts_right (host_of b) (accepted_of_zero b z).edges).3

  pub own_edges : (q : Pool) → (host_in b).base q ≤ (host_in b).last q
      → Multiple (granule q) ((host_in b).base q) × Multiple (granule q) (suc ((host_in b).last q))
  own_edges low = edges_of_open low (host_of b).low (pools_right low)
  own_edges high = edges_of_open high (host_of b).high (pools_right high)
  own_edges io = edges_of_open io (host_of b).io (pools_right io)

  pub base_low : (q : Pool) → layout_base (host_in b) q < 4503599627370496
  base_low q = go (is_closed host q) refl
    where
      go : (t : Bool) → is_closed host q ≡ t → cond t 0 (host.base q) < 4503599627370496
      go true e = omega arith
      go false e = let opens = ltb-false (host.last q) (host.base q) e in omega (arith, opens, ends_low q opens)

  base_small : (q : Pool) → layout_base host q < limit
  base_small q = omega (arith, base_low q)

  base_edge : (q : Pool) → Multiple (granule q) (layout_base host q)
  base_edge q = go (is_closed host q) refl
    where
      go : (t : Bool) → is_closed host q ≡ t → Multiple (granule q) (cond t 0 (host.base q))
      go true e = zero-mod (granule q)
      go false e = (own_edges q (ltb-false (host.last q) (host.base q) e)).0

  pub bytes_needed_of : (g : Host) (q : Pool) (n : ℕ) → Has (host_in b) g (functions_in b) q n
      → (out_of_pool g (functions_in b) q ≡ false) ↔ (needed (plan_finding_of b).needs q ≤ n)
  bytes_needed_of g q n has =
      let e = exact host (functions_in b) lawful q (base_small q) g n has in
      (λ o. omega (arith, e.0 o, needed_is b z q), λ l. e.1 (omega (arith, l, needed_is b z q)))

  -- what is told whole is a number of granules
  pub needed_multiple : (q : Pool) → layout_base (host_in b) q + needed (plan_finding_of b).needs q < limit
      → Multiple (granule q) (needed (plan_finding_of b).needs q)
  needed_multiple q told = go q (layout_base host q) (needs q) (base_edge q) both
    where
      both : Multiple (granule q) (layout_base host q + needs q)
      both =
          let is = needed_is b z q in
          ap (λ (n : ℕ). (layout_base host q + n) % granule q) is
          ∙ needed_edge host (functions_in b) lawful q (base_small q) (base_edge q) (omega (arith, told, is))

      go : (p : Pool) (m n : ℕ) → Multiple (granule p) m → Multiple (granule p) (m + n) → Multiple (granule p) n
      go low m n d e = omega (arith, d, e)
      go high m n d e = omega (arith, d, e)
      go io m n d e = omega (arith, d, e)

  -- the board's own pools
  own_has : (q : Pool) → Has host host (functions_in b) q (room_of host q)
  own_has q = go (is_closed host q) refl
    where
      go : (t : Bool) → is_closed host q ≡ t → Has host host (functions_in b) q (room_of host q)
      go true e = let closed = ltb-true (host.last q) (host.base q) e in inl (closed, omega (arith, closed))
      go false e =
          let opens = ltb-false (host.last q) (host.base q) e in
          let all : host.base q + room_of host q ≡ suc (host.last q) = omega (arith, opens) in
          let from = sym (ap (λ (t : Bool). cond t 0 (host.base q)) e) in
          inr
          (record {
            starts = inl from;
            ends = sym all;
            on_edge = ap (λ (n : ℕ). n % granule q) all ∙ (own_edges q opens).1;
            below = omega (arith, all, ends_low q opens);
            told = omega (arith, from, all, ends_low q opens);
          })

  own_less : (q : Pool) → out_of_pool host (functions_in b) q ≡ true → room_of host q < needs q
  own_less q out =
      ⊎_elim (λ l. absurd (true≢false (sym out ∙ (bytes_needed_of host q (room_of host q) (own_has q)).1 l))) (λ l. l)
      (le_or_lt (needs q) (room_of host q))

pub has_less_of : (b : List ℕ) → Bytes b → (q : Pool) → (plan_finding_of b).number ≡ refusal q
    → room_of (host_in b) q < needed (plan_finding_of b).needs q
has_less_of b bytes q e = own_less b bytes (of_host b e (refusal_large q)) q (own_out b q e)
