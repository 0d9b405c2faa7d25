-- What the finding of a board has: its number, whom it names, and what it needs, each as the planner's own definitions say it. Assumes
-- nothing.
use Rattle.std.specs.Prelude.{◌≡◌, ◌⊎◌, ◌↔◌, Bool, true, false, cond, ◌||◌, List, [], map, ℕ, suc, ◌+◌, ◌≤◌, ◌<◌, eqb, ltb, length, get_or, drop}
use Rattle.std.proofs.Math.Path.{refl, ap}
use Rattle.std.proofs.Common.{sym, subst, ◌∙◌, inl, inr, ⊎_elim, arith}
use borrow.Author.Tests.{eqb-true, eqb-false, ne_eqb, ltb-true, le-ltb}
use Rattle.arith.specs.BoolLaws.{both_of_and, either_of_or}
use Rattle.lists.specs.Lists.{any}
use Rattle.refusals.specs.RefusalsLaws.{either}
use Rattle.records.specs.Limits.{most_functions}
use Rattle.records.specs.Records.{parts_of, any_part}
use Rattle.plan_rule.specs.Pools.{Pool, low, high, io, refusal}
use Rattle.plan_rule.proofs.PoolLaws.{on_of_is_on}
use Rattle.plan_rule.specs.Records.{Host, Function}
use Rattle.plan_rule.specs.Layout.{is_on}
use Rattle.plan_rule.specs.Numbering.{bridges}
use Rattle.plan_rule.specs.Refusals.{out_of_buses, out_of_pool, refusal_of}
use Rattle.plan_rule.proofs.RefusalLaws.{out_of_pool_iff, refusal_law}
use Rattle.board_record.specs.Host.{host_of_part, host_wrong}
use Rattle.board_record.specs.Function.{function_of_part, wrong_in, readbacks_wrong}
use Rattle.board_order.specs.Order.{any_misplaced}
use Rattle.board.specs.Board.{misframed, is_version, from_readbacks, from_order, from_edges, from_headers, from_count, from_frame}
use Rattle.board.specs.Board.{from_version, board_number, host_of, functions_of}
use Rattle.board.proofs.ToPlacingLaws.{lawful_of_accepted}
use Rattle.sheet.specs.Sheet.{sheet_length}
use Rattle.plan_answer.specs.declared.Planning.TheVariants.{Refused}
use Rattle.plan_answer.specs.Plan.{on_room, on_board, planning, number_of}
use Rattle.finding.specs.declared.Parties.{Parties}
use Rattle.finding.specs.Places.{nobody, nobodies}
use Rattle.board_where.specs.Where.{failing_of}
use Rattle.board_where.specs.WhereLaws.{header_named, misplaced_named, read_back_named, nobody_otherwise}
use Rattle.plan_needs.specs.declared.Needs.{Needs}
use Rattle.plan_needs.specs.Bases.{is_closed}
use Rattle.plan_needs.specs.Needs.{bytes_needed, align_needed, needs_of}
use Rattle.plan_items.specs.Items.{item_end, first_out, most_lost}
use Rattle.plan_where.specs.declared.PlanFinding.{PlanFinding}
use Rattle.plan_where.specs.Finding.{in_pool, parties_under, lawful_finding, unlawful_finding, plan_finding_of}
use Rattle.plan_where.specs.ItemLaws.{named_out, LosesMost, loses_most}
use Rattle.request_findings.specs.WhatFits.{host_in, functions_in, HeaderWrong, Misplaced, ReadBackWrong, RunsOut, needed, aligned}

-- ## The number

pub number_is : (b : List ℕ) (room : ℕ) → sheet_length (length (functions_of b)) ≤ room → (plan_finding_of b).number ≡ number_of (planning b room)
unfolding plan_finding_of lawful_finding unlawful_finding planning on_board on_room
number_is b room l = go (eqb (board_number b) 0)
  where
    n : ℕ
    n = refusal_of (host_in b) (functions_in b)

    size : ℕ
    size = sheet_length (length (functions_of b))

    placed : (t : Bool) → eqb n 0 ≡ t → n ≡ number_of (cond t (on_room size room) (Refused n))
    placed true e = eqb-true n 0 e ∙ rw (le-ltb room size l)
    placed false e = refl

    go : (t : Bool)
        → (cond t (lawful_finding (host_in b) (functions_in b)) (unlawful_finding (board_number b) (failing_of b))).number
        ≡ number_of (cond t (on_board (host_of b) (functions_of b) room) (Refused (board_number b)))
    go true = placed (eqb n 0) refl
    go false = refl

-- a board's own checks have the numbers up to 26, its host's room 30 to 33
board_number_small : (b : List ℕ) → board_number b ≤ 26
unfolding board_number from_version from_frame from_count from_headers from_edges from_order from_readbacks
board_number_small b =
    let v = get_or b 0 0 in
    let r = parts_of (drop 1 b) in
    let h = host_of_part (get_or r.parts 0 []) in
    let ps = drop 1 r.parts in
    let fs = map function_of_part ps in
    let Small : ℕ → Type 0 = λ n. n ≤ 26 in
    either Small (eqb (length b) 0) 20 (from_version b) (omega arith)
    (either Small (is_version v) (from_frame v r) 21
    (either Small (misframed r) 20 (from_count v h ps) (omega arith)
    (either Small (ltb most_functions (length ps)) 22 (from_headers v h ps) (omega arith)
    (either Small (any_part (wrong_in v) ps) 24 (from_edges h fs) (omega arith)
    (either Small (host_wrong h) 26 (from_order fs) (omega arith)
    (either Small (any_misplaced 0 [] fs) 23 (from_readbacks fs) (omega arith)
    (either Small (any readbacks_wrong fs) 25 0 (omega arith) (omega arith))))))) (omega arith))

abbrev FromThirty : ℕ → Type 0
FromThirty n = (n ≡ 0) ⊎ (30 ≤ n)

refusal_from_thirty : (h : Host) (fs : List Function) → FromThirty (refusal_of h fs)
unfolding refusal_of
refusal_from_thirty h fs =
    let third : ℕ = cond (out_of_pool h fs io) 33 0 in
    let second : ℕ = cond (out_of_pool h fs high) 32 third in
    either FromThirty (out_of_buses h fs) 30 (cond (out_of_pool h fs low) 31 second) (inr (omega arith))
    (either FromThirty (out_of_pool h fs low) 31 second (inr (omega arith))
    (either FromThirty (out_of_pool h fs high) 32 third (inr (omega arith))
    (either FromThirty (out_of_pool h fs io) 33 0 (inr (omega arith)) (inl refl))))

-- ## Which pool a number is about

pub out_of_refused : (g : Host) (ps : List Function) (q : Pool) → refusal_of g ps ≡ refusal q → out_of_pool g ps q ≡ true
out_of_refused g ps low e = (out_of_pool_iff g ps low).1 ((refusal_law g ps).low_iff.0 e).1
out_of_refused g ps high e = (out_of_pool_iff g ps high).1 ((refusal_law g ps).high_iff.0 e).2
out_of_refused g ps io e = (out_of_pool_iff g ps io).1 ((refusal_law g ps).io_iff.0 e).3

pub refusal_small : (q : Pool) → refusal q ≤ 33
refusal_small low = omega arith
refusal_small high = omega arith
refusal_small io = omega arith

pub refusal_past_30 : (q : Pool) → 31 ≤ refusal q
refusal_past_30 low = omega arith
refusal_past_30 high = omega arith
refusal_past_30 io = omega arith

pub refusal_large : (q : Pool) → 30 ≤ refusal q
refusal_large q = omega (arith, refusal_past_30 q)

-- ## The finding

module _ (b : List ℕ) where
  abbrev h : Host
  h = host_in b

  abbrev fs : List Function
  fs = functions_in b

  abbrev found : PlanFinding
  found = plan_finding_of b

  lawful_is : board_number b ≡ 0 → found ≡ lawful_finding h fs
  unfolding plan_finding_of
  lawful_is e = rw e

  unlawful_is : (board_number b ≡ 0 → ⊥) → found ≡ unlawful_finding (board_number b) (failing_of b)
  unfolding plan_finding_of
  unlawful_is e = rw (ne_eqb (board_number b) 0 e)

  pub lawful_number : board_number b ≡ 0 → (plan_finding_of b).number ≡ refusal_of (host_in b) (functions_in b)
  unfolding lawful_finding
  lawful_number e = ap (λ (f : PlanFinding). f.number) (lawful_is e)

  unlawful_number : (board_number b ≡ 0 → ⊥) → found.number ≡ board_number b
  unfolding unlawful_finding
  unlawful_number e = ap (λ (f : PlanFinding). f.number) (unlawful_is e)

  -- the board's own check, or its host's room
  of_board_lem : {n : ℕ} → found.number ≡ n → 0 < n → n < 30 → board_number b ≡ n
  of_board_lem {n} e some small = go (eqb (board_number b) 0) refl
    where
      go : (t : Bool) → eqb (board_number b) 0 ≡ t → board_number b ≡ n
      go true z =
          let is = lawful_number (eqb-true (board_number b) 0 z) in
          ⊎_elim (λ k. absurd (omega (arith, e, is, k, some))) (λ k. absurd (omega (arith, e, is, k, small))) (refusal_from_thirty h fs)
      go false z = sym (unlawful_number (eqb-false (board_number b) 0 z)) ∙ e

  pub of_host : {n : ℕ} → (plan_finding_of b).number ≡ n → 30 ≤ n → board_number b ≡ 0
  of_host {n} e large = go (eqb (board_number b) 0) refl
    where
      go : (t : Bool) → eqb (board_number b) 0 ≡ t → board_number b ≡ 0
      go true z = eqb-true (board_number b) 0 z
      go false z = absurd (omega (arith, e, unlawful_number (eqb-false (board_number b) 0 z), board_number_small b, large))

  -- ## Who fails a check of the board's own

  party_failing : {n : ℕ} → board_number b ≡ n → 0 < n → found.party ≡ failing_of b
  unfolding unlawful_finding
  party_failing e some = ap (λ (f : PlanFinding). f.party) (unlawful_is (λ z. omega (arith, e, z, some)))

  pub header_wrong_of : (plan_finding_of b).number ≡ 24 → HeaderWrong b (plan_finding_of b).party
  header_wrong_of e =
      let own = of_board_lem e (omega arith) (omega arith) in
      let n = header_named b own in
      record { first = n.first; party_is = party_failing own (omega arith) ∙ n.named }

  pub misplaced_of : (plan_finding_of b).number ≡ 23 → Misplaced b (plan_finding_of b).party
  misplaced_of e =
      let own = of_board_lem e (omega arith) (omega arith) in
      let n = misplaced_named b own in
      record { first = n.first; party_is = party_failing own (omega arith) ∙ n.named }

  pub read_back_wrong_of : (plan_finding_of b).number ≡ 25 → ReadBackWrong b (plan_finding_of b).party
  read_back_wrong_of e =
      let own = of_board_lem e (omega arith) (omega arith) in
      let n = read_back_named b own in
      record { first = n.first; slot = n.slot; party_is = party_failing own (omega arith) ∙ n.named }

  -- ## Who runs out of a pool

  parties_in : (q : Pool) → parties_under (refusal q) h fs ≡ in_pool h fs q
  unfolding parties_under
  parties_in low = refl
  parties_in high = refl
  parties_in io = refl

  parties_of : (q : Pool) → found.number ≡ refusal q
      → (found.party ≡ first_out h fs q) × (found.other ≡ (most_lost h fs q).party)
  unfolding lawful_finding in_pool
  parties_of q e =
      let z = of_host e (refusal_large q) in
      let under : parties_under (refusal_of h fs) h fs ≡ in_pool h fs q =
      ap (λ (n : ℕ). parties_under n h fs) (sym (lawful_number z) ∙ e) ∙ parties_in q in (
        ap (λ (f : PlanFinding). f.party) (lawful_is z) ∙ ap (λ (p : Parties). p.party) under,
        ap (λ (f : PlanFinding). f.other) (lawful_is z) ∙ ap (λ (p : Parties). p.other) under,
      )

  pub own_out : (q : Pool) → (plan_finding_of b).number ≡ refusal q → out_of_pool (host_in b) (functions_in b) q ≡ true
  own_out q e = out_of_refused h fs q (sym (lawful_number (of_host e (refusal_large q))) ∙ e)

  pub runs_out_of : (q : Pool) → (plan_finding_of b).number ≡ refusal q → RunsOut (host_in b) (functions_in b) q (plan_finding_of b).party
  runs_out_of q e =
      let n = named_out h fs (lawful_of_accepted b (of_host e (refusal_large q))) q (own_out q e) in
      let x = n.is_first_out.one in
      let past = ltb (suc (h.last q)) (item_end x) in
      let both = both_of_and (is_on 0 q x.piece) (is_closed h q || past) n.is_first_out.passes in
      record {
        first = n.is_first_out;
        party_is = (parties_of q e).0 ∙ n.party_is;
        on_root_lem = on_of_is_on 0 q x.piece both.0;
        past =
            ⊎_elim (λ c. inl (ltb-true (h.last q) (h.base q) c)) (λ l. inr (ltb-true (suc (h.last q)) (item_end x) l))
            (either_of_or (is_closed h q) past both.1);
      }

  pub loses_most_of : (q : Pool) → (plan_finding_of b).number ≡ refusal q → LosesMost (host_in b) (functions_in b) q (plan_finding_of b).other
  loses_most_of q e = subst (LosesMost h fs q) (sym (parties_of q e).1) (loses_most h fs q)

  -- ## Nobody else

  nobody_under : (n : ℕ) → (n ≡ 31 → ⊥) → (n ≡ 32 → ⊥) → (n ≡ 33 → ⊥) → parties_under n h fs ≡ nobodies
  unfolding parties_under
  nobody_under n d e f = rw (ne_eqb n 31 d, ne_eqb n 32 e, ne_eqb n 33 f)

  abbrev OfNobody : ℕ → Type 0
  OfNobody n = (n < 23) ⊎ (n ≡ 26) ⊎ (n ≡ 30)

  not_number : (n k : ℕ) → OfNobody n → 23 ≤ k → (k ≡ 26 → ⊥) → (k ≡ 30 → ⊥) → n ≡ k → ⊥
  not_number n k (inl l) large d e z = omega (arith, l, large, z)
  not_number n k (inr (inl l)) large d e z = d (sym z ∙ l)
  not_number n k (inr (inr l)) large d e z = e (sym z ∙ l)

  pub nobody_of : ((plan_finding_of b).number < 23) ⊎ ((plan_finding_of b).number ≡ 26) ⊎ ((plan_finding_of b).number ≡ 30) → ((plan_finding_of b).party ≡ nobody) × ((plan_finding_of b).other ≡ nobody)
  unfolding lawful_finding unlawful_finding
  nobody_of o = go (eqb (board_number b) 0) refl
    where
      not_k : (k : ℕ) → 23 ≤ k → (k ≡ 26 → ⊥) → (k ≡ 30 → ⊥) → found.number ≡ k → ⊥
      not_k k = not_number found.number k o

      go : (t : Bool) → eqb (board_number b) 0 ≡ t → (found.party ≡ nobody) × (found.other ≡ nobody)
      go true z =
          let e = eqb-true (board_number b) 0 z in
          let is = lawful_number e in
          let under =
          nobody_under (refusal_of h fs) (λ k. not_k 31 (omega arith) (λ x. omega arith) (λ x. omega arith) (is ∙ k))
          (λ k. not_k 32 (omega arith) (λ x. omega arith) (λ x. omega arith) (is ∙ k))
          (λ k. not_k 33 (omega arith) (λ x. omega arith) (λ x. omega arith) (is ∙ k)) in (
            ap (λ (f : PlanFinding). f.party) (lawful_is e) ∙ ap (λ (p : Parties). p.party) under,
            ap (λ (f : PlanFinding). f.other) (lawful_is e) ∙ ap (λ (p : Parties). p.other) under,
          )
      go false z =
          let e = eqb-false (board_number b) 0 z in
          let is = unlawful_number e in (
            ap (λ (f : PlanFinding). f.party) (unlawful_is e)
                ∙ nobody_otherwise b (λ k. not_k 24 (omega arith) (λ x. omega arith) (λ x. omega arith) (is ∙ k))
                (λ k. not_k 23 (omega arith) (λ x. omega arith) (λ x. omega arith) (is ∙ k))
                (λ k. not_k 25 (omega arith) (λ x. omega arith) (λ x. omega arith) (is ∙ k)),
            ap (λ (f : PlanFinding). f.other) (unlawful_is e),
          )

  -- ## What is needed

  needs_are : board_number b ≡ 0 → found.needs ≡ needs_of h fs
  unfolding lawful_finding
  needs_are z = ap (λ (f : PlanFinding). f.needs) (lawful_is z)

  pub needed_is : board_number b ≡ 0 → (q : Pool) → needed (plan_finding_of b).needs q ≡ bytes_needed (host_in b) (functions_in b) q
  unfolding needs_of
  needed_is z low = ap (λ (n : Needs). n.low) (needs_are z)
  needed_is z high = ap (λ (n : Needs). n.high) (needs_are z)
  needed_is z io = ap (λ (n : Needs). n.io) (needs_are z)

  pub aligned_is : board_number b ≡ 0 → (q : Pool) → aligned (plan_finding_of b).needs q ≡ align_needed (functions_in b) q
  unfolding needs_of
  aligned_is z low = ap (λ (n : Needs). n.low_align) (needs_are z)
  aligned_is z high = ap (λ (n : Needs). n.high_align) (needs_are z)
  aligned_is z io = ap (λ (n : Needs). n.io_align) (needs_are z)

  buses_are : board_number b ≡ 0 → found.needs.buses ≡ suc (bridges fs)
  unfolding needs_of
  buses_are z = ap (λ (n : Needs). n.buses) (needs_are z)

  pub buses_needed_of : board_number b ≡ 0 → (g : Host)
      → (refusal_of g (functions_in b) ≡ 30) ↔ (suc g.last_bus < g.first_bus + (plan_finding_of b).needs.buses)
  buses_needed_of z g = (
    λ e. omega (arith, (refusal_law g fs).buses_iff.0 e, buses_are z),
    λ l. (refusal_law g fs).buses_iff.1 (omega (arith, l, buses_are z)),
  )
