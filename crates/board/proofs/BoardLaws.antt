-- The passes over a board's records, one law for each thing that can stand at the cursor. Assumes nothing.
use Rattle.std.specs.Option.{is_some, option_map}
use Rattle.std.specs.List.{slice_get}
use Rattle.std.specs.Prelude.{Option, None, Some, zero, ◌≡◌, refl, Bool, true, false, cond, not, ◌||◌, List, [], ◌∷◌, map, ℕ, suc, ◌+◌, ◌≤◌, length, get_or, take, drop, eqb, ltb}
use Rattle.std.proofs.Common.{sym, ◌∙◌, true≢false, arith, eq-eqb, ne_eqb, eqb-true, ltb-true, ltb-false, lt-ltb, le-ltb}
use Rattle.std.proofs.Math.Path.{ap}
use Rattle.std.proofs.Math.Bool.{or-true}
use Rattle.std.proofs.lemmas.Bool.{not-false}
use Rattle.arith.specs.BoolLaws.{past_test, false_of_or}
use Rattle.lists.specs.Lists.{any}
use Rattle.records.specs.declared.Next.{Next}
use Rattle.records.specs.declared.Next.TheVariants.{End, Record, Broken}
use Rattle.records.specs.Records.{next_of, Parts, parts_of, parts_from, any_part}
use Rattle.records.specs.RecordsLaws.{length_part, parts_record, parts_end, parts_broken}
use Rattle.records.specs.Limits.{most_functions}
use Rattle.board_record.specs.declared.Host.{Host}
use Rattle.board_record.specs.declared.Function.{Function}
use Rattle.board_record.specs.Host.{host_of_part, host_wrong, host_length, host_at, functions_at}
use Rattle.board_record.specs.declared.Rule.{Rule}
use Rattle.board_record.specs.declared.Rule.TheVariants.{Length}
use Rattle.board_record.specs.Function.{is_short, function_of_part, wrong_in, header_wrong, readbacks_wrong}
use Rattle.board_record.specs.FunctionLaws.{right_of_version}
use Rattle.board_record.specs.Rules.{breaks}
use Rattle.board.specs.Pass.{any_breaks}
use Rattle.board_order.specs.Order.{any_misplaced, first_misplaced, some_number}
use Rattle.board_order.specs.OrderLaws.{any_misplaced_agree}
use Rattle.board.specs.Board.{misframed, from_readbacks, from_order, from_edges, from_headers, from_count, from_frame, from_version}
use Rattle.board.specs.Board.{is_version, board_number, host_of, functions_of}

pub any_map : {A : Type 0} (test : A → Bool) (f : List ℕ → A) (ps : List (List ℕ)) → any test (map f ps) ≡ any_part (λ p. test (f p)) ps
unfolding any any_part
any_map test f [] = refl
any_map test f (p ∷ ps) = ap (λ (t : Bool). test (f p) || t) (any_map test f ps)

-- ---- 20

module _ (s : List ℕ) where
  pub misframed_end : next_of (drop 1 s) ≡ End → misframed (parts_of (drop 1 s)) ≡ true
  unfolding misframed
  misframed_end e = ap misframed (parts_end s 1 e)

  pub misframed_broken : next_of (drop 1 s) ≡ Broken → misframed (parts_of (drop 1 s)) ≡ true
  unfolding misframed
  misframed_broken e = ap misframed (parts_broken s 1 e)

  -- the frame by the host's length and what follows it
  misframed_record : (n : ℕ) → next_of (drop 1 s) ≡ Record n
      → misframed (parts_of (drop 1 s))
      ≡ (not (parts_of (drop (1 + 2 + n) s)).whole || not (eqb n host_length) || any_part is_short (parts_from s (1 + 2 + n)))
  unfolding misframed
  misframed_record n e = ap misframed (parts_record s 1 n e) ∙ rw (length_part s 1 n e)

  pub misframed_host : (n : ℕ) → next_of (drop 1 s) ≡ Record n → (n ≡ host_length → ⊥) → misframed (parts_of (drop 1 s)) ≡ true
  misframed_host n e h =
      misframed_record n e
      ∙ rw (ne_eqb n host_length h)
      (ap (λ (t : Bool). t || any_part is_short (parts_from s (1 + 2 + n))) (or-true (not (parts_of (drop (1 + 2 + n) s)).whole)))

  pub misframed_tail : (n : ℕ) → next_of (drop 1 s) ≡ Record n → n ≡ host_length → misframed (parts_of (drop 1 s))
      ≡ any_breaks Length (parts_of (drop functions_at s))
  misframed_tail n e h =
      let sized_record : next_of (drop 1 s) ≡ Record host_length = e ∙ ap Record h in
      misframed_record host_length sized_record ∙ go (parts_of (drop functions_at s)).whole
    where
      go : (w : Bool) → (not w || false || any_part is_short (parts_from s functions_at)) ≡ (not w || any_part is_short (parts_from s functions_at))
      go true = refl
      go false = refl

  -- no record at all
  pub misframed_none : ((n : ℕ) → next_of (drop 1 s) ≡ Record n → ⊥) → misframed (parts_of (drop 1 s)) ≡ true
  misframed_none other = go (next_of (drop 1 s)) refl
    where
      go : (q : Next) → next_of (drop 1 s) ≡ q → misframed (parts_of (drop 1 s)) ≡ true
      go End e = misframed_end e
      go Broken e = misframed_broken e
      go (Record n) e = absurd (other n e)

  -- a board that is not misframed has a host of 30 bytes first, and its functions from byte 33 on
  pub host_of_framed : misframed (parts_of (drop 1 s)) ≡ false → next_of (drop 1 s) ≡ Record host_length
  host_of_framed h = go (next_of (drop 1 s)) refl
    where
      sized : (n : ℕ) (t : Bool) → eqb n host_length ≡ t → next_of (drop 1 s) ≡ Record n → next_of (drop 1 s) ≡ Record host_length
      sized n true b e = e ∙ ap Record (eqb-true n host_length b)
      sized n false b e = absurd (true≢false (sym (misframed_host n e (λ x. true≢false (sym (eq-eqb n host_length x) ∙ b))) ∙ h))

      go : (q : Next) → next_of (drop 1 s) ≡ q → next_of (drop 1 s) ≡ Record host_length
      go End e = absurd (true≢false (sym (misframed_end e) ∙ h))
      go Broken e = absurd (true≢false (sym (misframed_broken e) ∙ h))
      go (Record n) e = sized n (eqb n host_length) refl e

  -- and its lengths end at the end, so that a rule is broken where a function breaks it
  whole_of_framed : misframed (parts_of (drop 1 s)) ≡ false → (parts_of (drop functions_at s)).whole ≡ true
  whole_of_framed h =
      let tail = sym (misframed_tail host_length (host_of_framed h) refl) ∙ h in
      let whole = (parts_of (drop functions_at s)).whole in
      not-false whole (false_of_or (not whole) (any_part is_short (parts_from s functions_at)) tail).0

  pub breaks_of_framed : (rule : Rule) → misframed (parts_of (drop 1 s)) ≡ false
      → any_breaks rule (parts_of (drop functions_at s)) ≡ any_part (breaks rule) (parts_from s functions_at)
  breaks_of_framed rule h = ap (λ (w : Bool). not w || any_part (breaks rule) (parts_from s functions_at)) (whole_of_framed h)

  pub framed : (v : ℕ) → misframed (parts_of (drop 1 s)) ≡ false → from_frame v (parts_of (drop 1 s))
      ≡ from_count v (host_of_part (take host_length (drop 3 s))) (parts_from s functions_at)
  unfolding from_frame
  framed v h =
      let p = parts_record s host_at host_length (host_of_framed h) in
      rw h (ap (λ (r : Parts). from_count v (host_of_part (get_or r.parts 0 [])) (drop 1 r.parts)) p)

-- ---- 22

module _ {A B : Type 0} (view : A → B) where
  -- there is an item at n where there are more than n
  pub more_by_nth : (r : Option A) (xs : List B) (n : ℕ) → option_map view r ≡ slice_get xs n → is_some r ≡ ltb n (length xs)
  more_by_nth r xs n e = some_mapped r ∙ ap is_some e ∙ go xs n
    where
      some_mapped : (r : Option A) → is_some r ≡ is_some (option_map view r)
      some_mapped None = refl
      some_mapped (Some x) = refl

      go : (xs : List B) (n : ℕ) → is_some (slice_get xs n) ≡ ltb n (length xs)
      go [] n = sym (le-ltb n 0 (omega arith))
      go (x ∷ xs) zero = sym (lt-ltb 0 (suc (length xs)) (omega arith))
      go (x ∷ xs) (suc n) = go xs n ∙ later (ltb n (length xs)) refl
        where
          later : (t : Bool) → ltb n (length xs) ≡ t → ltb n (length xs) ≡ ltb (suc n) (suc (length xs))
          later true e = e ∙ sym (lt-ltb (suc n) (suc (length xs)) (omega (arith, ltb-true n (length xs) e)))
          later false e = e ∙ sym (le-ltb (suc n) (suc (length xs)) (omega (arith, ltb-false n (length xs) e)))

-- ---- the checks in order: what is left once one is passed

pub past_version : (b : List ℕ) → (length b ≡ 0 → ⊥) → is_version (get_or b 0 0) ≡ true
    → board_number b ≡ from_frame (get_or b 0 0) (parts_of (drop 1 b))
unfolding board_number from_version
past_version b e v = rw (ne_eqb (length b) 0 e, v)

pub other_version : (b : List ℕ) → (length b ≡ 0 → ⊥) → is_version (get_or b 0 0) ≡ false → board_number b ≡ 21
unfolding board_number from_version
other_version b e v = rw (ne_eqb (length b) 0 e, v)

module _ (v : ℕ) (h : Host) (ps : List (List ℕ)) where
  pub past_count : ltb most_functions (length ps) ≡ false → from_count v h ps ≡ from_headers v h ps
  unfolding from_count
  past_count e = rw e

  pub past_headers : any_part (wrong_in v) ps ≡ false → from_headers v h ps ≡ from_edges h (map function_of_part ps)
  unfolding from_headers
  past_headers e = rw e

-- a board's records of its own version are records of some version
pub right_parts : (v : ℕ) (ps : List (List ℕ)) → any_part (wrong_in v) ps ≡ false → any_part header_wrong ps ≡ false
unfolding any_part
right_parts v [] e = refl
right_parts v (p ∷ ps) e =
    let both = false_of_or (wrong_in v p) (any_part (wrong_in v) ps) e in
    rw (right_of_version v p both.0) (right_parts v ps both.1)

module _ (fs : List Function) where
  pub past_edges : (h : Host) → host_wrong h ≡ false → from_edges h fs ≡ from_order fs
  unfolding from_edges
  past_edges h e = rw e

  pub past_order : any_misplaced 0 [] fs ≡ false → from_order fs ≡ from_readbacks fs
  unfolding from_order
  past_order e = rw e

-- 23 by the first that is misplaced
pub misplaced_by_first : (fs : List Function) (first : Option ℕ) → first ≡ some_number (first_misplaced 0 [] fs)
    → is_some first ≡ any_misplaced 0 [] fs
misplaced_by_first fs first e = ap is_some e ∙ go (first_misplaced 0 [] fs) ∙ sym (any_misplaced_agree 0 [] fs)
  where
    go : (k : ℕ) → is_some (some_number k) ≡ not (eqb k 0)
    go zero = refl
    go (suc k) = sym (ap not (ne_eqb (suc k) 0 (λ e. omega arith)))

-- ---- what a board that is accepted keeps

pub record Accepted (b : List ℕ) : Type 0 where
  pub version : is_version (get_or b 0 0) ≡ true
  pub host_record_lem : next_of (drop 1 b) ≡ Record host_length
  pub host_read : host_of b ≡ host_of_part (take host_length (drop 3 b))
  pub functions_read : functions_of b ≡ map function_of_part (parts_from b functions_at)
  pub whole : (parts_of (drop functions_at b)).whole ≡ true
  pub few : length (parts_from b functions_at) ≤ most_functions
  pub of_version : any_part (wrong_in (get_or b 0 0)) (parts_from b functions_at) ≡ false
  pub headers : any_part header_wrong (parts_from b functions_at) ≡ false
  pub edges : host_wrong (host_of b) ≡ false
  pub order : any_misplaced 0 [] (functions_of b) ≡ false
  pub readbacks : any readbacks_wrong (functions_of b) ≡ false

version_of_zero : (b : List ℕ) → board_number b ≡ 0 → (is_version (get_or b 0 0) ≡ true) × (from_frame (get_or b 0 0) (parts_of (drop 1 b)) ≡ 0)
unfolding board_number from_version
version_of_zero b e =
    let rest = (past_test (eqb (length b) 0) 19 (cond (is_version (get_or b 0 0)) (from_frame (get_or b 0 0) (parts_of (drop 1 b))) 21) e).1 in
    go (is_version (get_or b 0 0)) refl rest
  where
    go : (t : Bool) → is_version (get_or b 0 0) ≡ t → cond t (from_frame (get_or b 0 0) (parts_of (drop 1 b))) 21 ≡ 0
        → (is_version (get_or b 0 0) ≡ true) × (from_frame (get_or b 0 0) (parts_of (drop 1 b)) ≡ 0)
    go true h e = (h, e)
    go false h e = absurd (omega arith)

framed_of_zero : (v : ℕ) (r : Parts) → from_frame v r ≡ 0 → misframed r ≡ false
unfolding from_frame
framed_of_zero v r e = (past_test (misframed r) 19 (from_count v (host_of_part (get_or r.parts 0 [])) (drop 1 r.parts)) e).0

count_of_zero : (v : ℕ) (h : Host) (ps : List (List ℕ)) → from_count v h ps ≡ 0
    → (ltb most_functions (length ps) ≡ false)
    × (any_part (wrong_in v) ps ≡ false)
    × (host_wrong h ≡ false)
    × (any_misplaced 0 [] (map function_of_part ps) ≡ false)
    × (any readbacks_wrong (map function_of_part ps) ≡ false)
unfolding from_count from_headers from_edges from_order from_readbacks
count_of_zero v h ps e =
    let fs = map function_of_part ps in
    let a = past_test (ltb most_functions (length ps)) 21 (from_headers v h ps) e in
    let b = past_test (any_part (wrong_in v) ps) 23 (from_edges h fs) a.1 in
    let c = past_test (host_wrong h) 25 (from_order fs) b.1 in
    let d = past_test (any_misplaced 0 [] fs) 22 (from_readbacks fs) c.1 in
    (a.0, b.0, c.0, d.0, (past_test (any readbacks_wrong fs) 24 0 d.1).0)

pub accepted_of_zero : (b : List ℕ) → board_number b ≡ 0 → Accepted b
unfolding host_of functions_of
accepted_of_zero b e =
    let v = version_of_zero b e in
    let f = framed_of_zero (get_or b 0 0) (parts_of (drop 1 b)) v.1 in
    let h = host_of_framed b f in
    let p = parts_record b host_at host_length h in
    let c =
    count_of_zero (get_or b 0 0) (host_of_part (take host_length (drop 3 b))) (parts_from b functions_at) (sym (framed b (get_or b 0 0) f) ∙ v.1) in
    let host = ap (λ (r : Parts). host_of_part (get_or r.parts 0 [])) p in
    let functions = ap (λ (r : Parts). map function_of_part (drop 1 r.parts)) p in
    record {
      version = v.0;
      host_record_lem = h;
      host_read = host;
      functions_read = functions;
      whole = whole_of_framed b f;
      few = ltb-false most_functions (length (parts_from b functions_at)) c.0;
      of_version = c.1;
      headers = right_parts (get_or b 0 0) (parts_from b functions_at) c.1;
      edges = ap host_wrong host ∙ c.2;
      order = ap (any_misplaced 0 []) functions ∙ c.3;
      readbacks = ap (any readbacks_wrong) functions ∙ c.4;
    }
