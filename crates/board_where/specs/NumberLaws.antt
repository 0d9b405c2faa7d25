-- What a board's number says of its checks: those before it are passed, and its own is not. Assumes nothing.
use Rattle.std.specs.Prelude.{◌≡◌, refl, Bool, true, false, cond, Option, length, get_or, drop, eqb, ltb}
use Rattle.std.proofs.Math.Path.{sym, ap}
use Rattle.std.proofs.Common.{◌∙◌, arith}
use mathlib.Core.List.{List, [], map}
use Prim.Native.Nat.{ℕ, zero, suc, ◌<◌}
use borrow.Author.Tests.{ne_eqb, eqb-false}
use Rattle.lists.specs.Lists.{any}
use Rattle.refusals.specs.RefusalsLaws.{either}
use Rattle.records.specs.Limits.{most_functions}
use Rattle.records.specs.Records.{Parts, parts_of, parts_from, any_part}
use Rattle.records.specs.RecordsLaws.{parts_record}
use Rattle.board_record.specs.declared.Host.{Host}
use Rattle.board_record.specs.declared.Function.{Function}
use Rattle.board_record.specs.declared.Rule.TheVariants.{Header, ReadBacks}
use Rattle.board_record.specs.Host.{host_wrong, host_at, host_length, functions_at}
use Rattle.board_record.specs.Function.{function_of_part, wrong_in, header_wrong, readbacks_wrong}
use Rattle.std.specs.Option.{unwrap_or}
use Rattle.board_order.specs.Order.{any_misplaced, first_misplaced, some_number}
use Rattle.board.specs.Board.{misframed, is_version, from_readbacks, from_order, from_edges, from_headers, from_count, from_frame}
use Rattle.board.specs.Board.{from_version, board_number, host_of, functions_of}
use Rattle.board.proofs.BoardLaws.{host_of_framed, right_parts}
use Rattle.finding.specs.declared.Party.{Party}
use Rattle.finding.specs.Places.{function_id, nobody}
use Rattle.board_where.specs.Where.{party_of, first_breaking, function_parts, failing_under, failing_of}

-- a test that gives another number was passed
past_other : (t : Bool) (k rest n : ℕ) → cond t k rest ≡ n → (k ≡ n → ⊥) → (t ≡ false) × (rest ≡ n)
past_other true k rest n e d = absurd (d e)
past_other false k rest n e d = (refl, e)

-- and one whose number nothing after it gives was not
at_own : (t : Bool) (k rest : ℕ) → cond t k rest ≡ k → (rest ≡ k → ⊥) → t ≡ true
at_own true k rest e d = refl
at_own false k rest e d = absurd (d e)

-- ## Past the frame and the count

-- a board with a number above 22: it has bytes, its functions stand behind a host of 30 bytes, and their checks give the number
pub record Framed (b : List ℕ) (n : ℕ) : Type 0 where
  pub some : 0 < length b
  pub parts : function_parts b ≡ parts_from b functions_at
  pub number : from_headers (get_or b 0 0) (host_of b) (function_parts b) ≡ n

pub framed_of_number : (b : List ℕ) (n : ℕ) → board_number b ≡ n → 22 < n → Framed b n
unfolding board_number from_version from_frame from_count host_of
framed_of_number b n e l =
    let v = get_or b 0 0 in
    let r = parts_of (drop 1 b) in
    let a = past_other (eqb (length b) 0) 20 (from_version b) n e (λ x. omega arith) in
    let f = past_other (misframed r) 20 (from_count v (host_of b) (function_parts b)) n (lawful (is_version v) a.1) (λ x. omega arith) in
    let many = ltb most_functions (length (function_parts b)) in
    let c = past_other many 22 (from_headers v (host_of b) (function_parts b)) n f.1 (λ x. omega arith) in
    record {
      some = omega (arith, eqb-false (length b) 0 a.0);
      parts = ap (λ (q : Parts). drop 1 q.parts) (parts_record b host_at host_length (host_of_framed b f.0));
      number = c.1;
    }
  where
    lawful : (t : Bool) → cond t (from_frame (get_or b 0 0) (parts_of (drop 1 b))) 21 ≡ n → from_frame (get_or b 0 0) (parts_of (drop 1 b)) ≡ n
    lawful true x = x
    lawful false x = absurd (omega arith)

-- ## The checks of functions

module _ (v : ℕ) (h : Host) (ps : List (List ℕ)) where
  pub header_of_24 : from_headers v h ps ≡ 24 → any_part (wrong_in v) ps ≡ true
  unfolding from_headers from_edges from_order from_readbacks
  header_of_24 e =
      let fs = map function_of_part ps in
      let Other : ℕ → Type 0 = λ k. k ≡ 24 → ⊥ in
      at_own (any_part (wrong_in v) ps) 24 (from_edges h fs) e
      (either Other (host_wrong h) 26 (from_order fs) (λ x. omega arith)
      (either Other (any_misplaced 0 [] fs) 23 (from_readbacks fs) (λ x. omega arith)
      (either Other (any readbacks_wrong fs) 25 0 (λ x. omega arith) (λ x. omega arith))))

  pub order_of_number : (n : ℕ) → from_headers v h ps ≡ n → (24 ≡ n → ⊥) → (26 ≡ n → ⊥)
      → (any_part (wrong_in v) ps ≡ false) × (from_order (map function_of_part ps) ≡ n)
  unfolding from_headers from_edges
  order_of_number n e d f =
      let fs = map function_of_part ps in
      let a = past_other (any_part (wrong_in v) ps) 24 (from_edges h fs) n e d in
      (a.0, (past_other (host_wrong h) 26 (from_order fs) n a.1 f).1)

module _ (fs : List Function) where
  pub misplaced_of_23 : from_order fs ≡ 23 → any_misplaced 0 [] fs ≡ true
  unfolding from_order from_readbacks
  misplaced_of_23 e =
      at_own (any_misplaced 0 [] fs) 23 (from_readbacks fs) e
      (either (λ (k : ℕ). k ≡ 23 → ⊥) (any readbacks_wrong fs) 25 0 (λ x. omega arith) (λ x. omega arith))

  pub readbacks_of_25 : from_order fs ≡ 25 → any readbacks_wrong fs ≡ true
  unfolding from_order from_readbacks
  readbacks_of_25 e =
      at_own (any readbacks_wrong fs) 25 0 (past_other (any_misplaced 0 [] fs) 23 (from_readbacks fs) 25 e (λ x. omega arith)).1
      (λ x. omega arith)

-- ## Who is named, by the number

module _ (b : List ℕ) where
  pub failing_24 : board_number b ≡ 24 → failing_of b ≡ first_breaking (Header (get_or b 0 0)) (function_parts b)
  unfolding failing_of failing_under
  failing_24 e = rw e

  pub failing_23 : board_number b ≡ 23 → failing_of b ≡ party_of (first_misplaced 0 [] (functions_of b)) function_id
  unfolding failing_of failing_under
  failing_23 e = rw e

  pub failing_25 : board_number b ≡ 25 → failing_of b ≡ first_breaking ReadBacks (function_parts b)
  unfolding failing_of failing_under
  failing_25 e = rw e

  pub failing_other : (board_number b ≡ 24 → ⊥) → (board_number b ≡ 23 → ⊥) → (board_number b ≡ 25 → ⊥) → failing_of b ≡ nobody
  unfolding failing_of failing_under
  failing_other d e f = rw (ne_eqb (board_number b) 24 d, ne_eqb (board_number b) 23 e, ne_eqb (board_number b) 25 f)

-- ## In the words of the code: n is the board's number, r what was found

module _ (b : List ℕ) (n : ℕ) (is : n ≡ board_number b) where
  framed_at : 22 < n → Framed b n
  framed_at l = framed_of_number b n (sym is) l

  pub some_bytes : n ≡ 24 → 0 < length b
  some_bytes e = (framed_at (omega arith)).some

  -- past 24 every record is one of some version
  right_past : (22 < n) → (24 ≡ n → ⊥) → (26 ≡ n → ⊥) → any_part header_wrong (parts_from b functions_at) ≡ false
  right_past l d f =
      let r = framed_at l in
      let a = order_of_number (get_or b 0 0) (host_of b) (function_parts b) n r.number d f in
      ap (any_part header_wrong) (sym r.parts) ∙ right_parts (get_or b 0 0) (function_parts b) a.0

  pub right_of_23 : n ≡ 23 → any_part header_wrong (parts_from b functions_at) ≡ false
  right_of_23 e = right_past (omega arith) (λ x. omega arith) (λ x. omega arith)

  pub right_of_25 : n ≡ 25 → any_part header_wrong (parts_from b functions_at) ≡ false
  right_of_25 e = right_past (omega arith) (λ x. omega arith) (λ x. omega arith)

  pub named_24 : n ≡ 24 → (r : Party) → r ≡ first_breaking (Header (get_or b 0 0)) (parts_from b functions_at) → r ≡ failing_of b
  named_24 e r f =
      f ∙ ap (first_breaking (Header (get_or b 0 0))) (sym (framed_at (omega arith)).parts) ∙ sym (failing_24 b (sym is ∙ e))

  pub named_23 : n ≡ 23 → (k : ℕ) → k ≡ first_misplaced 0 [] (map function_of_part (parts_from b functions_at)) → party_of k function_id
      ≡ failing_of b
  unfolding functions_of
  named_23 e k f =
      ap (λ (j : ℕ). party_of j function_id)
      (f ∙ ap (λ (ps : List (List ℕ)). first_misplaced 0 [] (map function_of_part ps)) (sym (framed_at (omega arith)).parts))
      ∙ sym (failing_23 b (sym is ∙ e))

  -- as an option
  pub named_misplaced : n ≡ 23 → (first : Option ℕ) → first ≡ some_number (first_misplaced 0 [] (map function_of_part (parts_from b functions_at)))
      → party_of (unwrap_or first 0) function_id ≡ failing_of b
  unfolding functions_of
  named_misplaced e first f =
      ap (λ (j : ℕ). party_of j function_id)
      (ap (λ (r : Option ℕ). unwrap_or r 0) f ∙ number_back (first_misplaced 0 [] (map function_of_part (parts_from b functions_at)))
      ∙ ap (λ (ps : List (List ℕ)). first_misplaced 0 [] (map function_of_part ps)) (sym (framed_at (omega arith)).parts))
      ∙ sym (failing_23 b (sym is ∙ e))
    where
      number_back : (k : ℕ) → unwrap_or (some_number k) 0 ≡ k
      number_back zero = refl
      number_back (suc k) = refl

  pub named_25 : n ≡ 25 → (r : Party) → r ≡ first_breaking ReadBacks (parts_from b functions_at) → r ≡ failing_of b
  named_25 e r f = f ∙ ap (first_breaking ReadBacks) (sym (framed_at (omega arith)).parts) ∙ sym (failing_25 b (sym is ∙ e))

  pub nobody_named : (n ≡ 24 → ⊥) → (n ≡ 23 → ⊥) → (n ≡ 25 → ⊥) → nobody ≡ failing_of b
  nobody_named d e f = sym (failing_other b (λ x. d (is ∙ x)) (λ x. e (is ∙ x)) (λ x. f (is ∙ x)))
