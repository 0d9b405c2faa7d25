-- The count that is told by the board is the number of the plan's writes. Assumes nothing.
use Rattle.std.specs.Prelude.{◌≡◌, Bool, true, false, cond, not, eqb, length, take, drop, count_by}
use Rattle.std.proofs.Math.Path.{refl, sym, ap, ap₂}
use Rattle.std.proofs.Common.{◌∙◌, add-zero, add-one, drop-cons}
use mathlib.Core.List.{List, [], ◌∷◌, ◌++◌, map}
use Prim.Native.Nat.{ℕ, zero, suc, ◌+◌, ◌-◌, ◌*◌, ◌≤◌, ◌<◌}
use native.Mathlib.Omega.{arith}
use Rattle.std.proofs.Math.ListN.{get_or, length-append}
use Rattle.std.proofs.lemmas.List.{length-map}
use Rattle.std.proofs.lemmas.List.Sums.{sum_by-cons}
use Rattle.endian.specs.Endian.{Bytes, be}
use Rattle.lists.specs.Lists.{All}
use Rattle.records.specs.Limits.{most_functions}
use Rattle.records.specs.declared.Next.TheVariants.{End, Record, Broken}
use Rattle.records.specs.Records.{next_of, parts_from, any_part}
use Rattle.records.specs.RecordsLaws.{none_first, none_here, none_later, pass_record, pass_end, pass_broken}
use Rattle.plan_rule.specs.Records as placing
use Rattle.plan_rule.specs.Layout.{Placed}
use Rattle.plan_rule.specs.Refusals.{refusal_of}
use Rattle.board_record.specs.declared.Function.{Function}
use Rattle.board_record.specs.Function.{is_bridge, slot_count, function_of_part, header_wrong}
use Rattle.board_record.specs.Host.{functions_at}
use Rattle.board.specs.Board.{board_number, host_of, functions_of}
use Rattle.board.proofs.BoardLaws.{accepted_of_zero}
use Rattle.board.specs.ToPlacing.{to_host, to_placing}
use Rattle.sheet_record.specs.Places.{readbacks_at}
use Rattle.sheet_record.specs.Entry.{Entry, dwords, entry_of, header_of}
use Rattle.sheet_record.specs.Entry as entry
use Rattle.sheet_bytes.specs.Layout.{Planned, Shaped, WellShaped, part_bytes}
use Rattle.sheet_bytes.proofs.ReadBack.{header_of_part_bytes, entry_of_part_bytes, parts_in_sheet_bytes}
use Rattle.plan_answer.specs.Plan.{entry_for, planned_from, plan_of}
use Rattle.plan_sheet.proofs.Shaped.{shaped}
use Rattle.plan_sheet.proofs.Accepted.{fits_of_accepted}
use Rattle.script_writes.specs.declared.Pass.{Pass}
use Rattle.script_writes.specs.declared.Pass.TheVariants.{Buses, Registers, Commands}
use Rattle.script_writes.specs.Writes.{write_of, three_bytes, four_bytes, slot_writes, bar_writes, bus_writes, window_writes}
use Rattle.script_writes.specs.Writes.{register_writes, writes_in, pass_writes, writes_of}
use Rattle.scripter.specs.Scripting.{board_writes}
use Rattle.scripter.specs.Counting.{used_in, own_writes, write_count, count_in}

-- ## Bounds, and a turn of the loops

pub used_le : (n : ℕ) (rs : List ℕ) (j : ℕ) → used_in n rs j ≤ n
unfolding used_in
used_le zero rs j = omega arith
used_le (suc n) rs j = go (eqb (get_or rs j 0) 0) (used_le n rs (j + 1))
  where
    go : (t : Bool) → used_in n rs (j + 1) ≤ n → cond t 0 1 + used_in n rs (j + 1) ≤ suc n
    go true h = omega arith
    go false h = omega arith

pub used_more : (n : ℕ) (rs : List ℕ) (j : ℕ) → j < n → used_in (n - j) rs j
    ≡ cond (eqb (get_or rs j 0) 0) 0 1 + used_in (n - (j + 1)) rs (j + 1)
unfolding used_in
used_more n rs j h =
    let s : n - j ≡ suc (n - (j + 1)) = omega arith in
    ap (λ (m : ℕ). used_in m rs j) s

pub used_none : (n : ℕ) (rs : List ℕ) → used_in (n - n) rs n ≡ 0
unfolding used_in
used_none n rs = let z : n - n ≡ 0 = omega arith in ap (λ (m : ℕ). used_in m rs n) z

used_from : (n : ℕ) (rs : List ℕ) (j : ℕ) → j + n ≤ length rs → count_by (λ x. not (eqb x 0)) (take n (drop j rs)) ≡ used_in n rs j
unfolding used_in
used_from zero rs j h = refl
used_from (suc n) rs j h =
    let more : drop j rs ≡ get_or rs j 0 ∷ drop (suc j) rs = drop-cons rs j 0 (omega arith) in
    let later = used_from n rs (suc j) (omega arith) ∙ ap (used_in n rs) (sym (add-one j)) in
    ap (λ (xs : List ℕ). count_by (λ x. not (eqb x 0)) (take (suc n) xs)) more
    ∙ sum_by-cons (λ x. cond (not (eqb x 0)) 1 0) (get_or rs j 0) (take n (drop (suc j) rs)) ∙ go (eqb (get_or rs j 0) 0) _ _ later
  where
    go : (t : Bool) (a b : ℕ) → a ≡ b → cond (not t) 1 0 + a ≡ cond t 0 1 + b
    go true a b e = ap (λ (k : ℕ). 0 + k) e
    go false a b e = ap (λ (k : ℕ). 1 + k) e

-- as counted in the code
pub used_counted : (n : ℕ) (rs : List ℕ) → n ≤ length rs → count_by (λ x. not (eqb x 0)) (take n rs) ≡ used_in n rs 0
used_counted n rs h = used_from n rs 0 (omega arith)

own_le : (f : Function) → (slot_count f + own_writes f ≤ 13)
own_le f = go (is_bridge f)
  where
    go : (t : Bool) → cond t 2 6 + cond t 7 1 ≤ 13
    go true = omega arith
    go false = omega arith

write_count_le : (f : Function) → write_count f ≤ 13
unfolding write_count
write_count_le f = omega (arith, used_le (slot_count f) f.readbacks 0, own_le f)

count_le : (fs : List Function) → count_in fs ≤ 13 * length fs
unfolding count_in
count_le [] = omega arith
count_le (f ∷ fs) = omega (arith, write_count_le f, count_le fs)

-- ## A record's writes

pub get_d_dwords : (read : List ℕ → ℕ → ℕ) (n : ℕ) (p : List ℕ) (at j : ℕ) → j < n → get_or (dwords read n p at) j 0 ≡ read p (at + 4 * j)
unfolding dwords
get_d_dwords read zero p at j h = absurd (omega arith)
get_d_dwords read (suc n) p at zero h = ap (read p) (sym (add-zero at))
get_d_dwords read (suc n) p at (suc j) h =
    let s : at + 4 + 4 * j ≡ at + 4 * suc j = omega arith in
    get_d_dwords read n p (at + 4) j (omega arith) ∙ ap (read p) s

module _ (q : Planned) (shape : Shaped q.entry) where
  abbrev p : List ℕ
  p = part_bytes q

  abbrev rs : List ℕ
  rs = q.entry.readbacks

  readback_at : (j : ℕ) → j < 6 → be 4 p (readbacks_at + 4 * j) ≡ get_or rs j 0
  unfolding entry_of
  readback_at j h =
      sym (get_d_dwords (be 4) 6 p readbacks_at j h)
      ∙ ap (λ (e : Entry). get_or e.readbacks j 0) (entry_of_part_bytes q shape)

  slot_count_lem : (k j : ℕ) → j < 6 → length (slot_writes k p j) ≡ cond (eqb (get_or rs j 0) 0) 0 1
  slot_count_lem k j h = rw (readback_at j h) (go (eqb (get_or rs j 0) 0))
    where
      go : (t : Bool) → length (cond (not t) (write_of k p (0x10 + 4 * j) four_bytes ∷ []) []) ≡ cond t 0 1
      go true = refl
      go false = refl

  bar_count : (k n j : ℕ) → j + n ≤ 6 → length (bar_writes k p n j) ≡ used_in n rs j
  unfolding bar_writes used_in
  bar_count k zero j h = refl
  bar_count k (suc n) j h =
      length-append (slot_writes k p j) (bar_writes k p n (j + 1))
      ∙ ap₂ ◌+◌ (slot_count_lem k j (omega arith)) (bar_count k n (j + 1) (omega arith))

  abbrev of_record : ℕ → ℕ
  of_record k = length (bus_writes k p) + (length (register_writes k p) + length (writes_in Commands k p))

  record_count : (k : ℕ) (header : ℕ) → q.entry.header ≡ header
      → of_record k ≡ used_in (entry.slot_count header) rs 0 + cond (entry.is_bridge header) 7 1
  record_count k header e =
      let h : header_of p ≡ header = header_of_part_bytes q ∙ e in
      rw h (go (entry.is_bridge header))
    where
      go : (t : Bool)
          → length (cond t (write_of k p 0x18 three_bytes ∷ []) [])
          + (length (bar_writes k p (cond t 2 6) 0 ++ cond t (window_writes k p) []) + 1) ≡ used_in (cond t 2 6) rs 0 + cond t 7 1
      go true = omega (arith, length-append (bar_writes k p 2 0) (window_writes k p), bar_count k 2 0 (omega arith))
      go false = omega (arith, length-append (bar_writes k p 6 0) [], bar_count k 6 0 (omega arith))

-- ## All records

pass_cons : (pass : Pass) (k : ℕ) (p : List ℕ) (ps : List (List ℕ))
    → length (pass_writes pass k (p ∷ ps)) ≡ length (writes_in pass k p) + length (pass_writes pass (suc k) ps)
unfolding pass_writes
pass_cons pass k p ps = length-append (writes_in pass k p) (pass_writes pass (suc k) ps)

module _ (first : ℕ) (all : List placing.Function) (xs : List Placed) where
  abbrev parts : ℕ → List Function → List (List ℕ)
  parts k fs = map part_bytes (planned_from first all xs k fs)

  count_from_lem : (k : ℕ) (fs : List Function) → All WellShaped (planned_from first all xs k fs)
      → length (pass_writes Buses k (parts k fs)) + (length (pass_writes Registers k (parts k fs)) + length
      (pass_writes Commands k (parts k fs)))
      ≡ count_in fs
  unfolding planned_from count_in write_count pass_writes
  count_from_lem k [] w = refl
  count_from_lem k (f ∷ fs) w =
      let q : Planned = record { entry = entry_for first all xs k f; command = f.command } in
      let here = record_count q w.0.entry k f.header refl in
      let later = count_from_lem (suc k) fs w.1 in
      let rest = parts (suc k) fs in
      omega (
        arith,
        pass_cons Buses k (part_bytes q) rest,
        pass_cons Registers k (part_bytes q) rest,
        pass_cons Commands k (part_bytes q) rest,
        here,
        later,
      )

pub count_is : (b : List ℕ) → Bytes b → board_number b ≡ 0 → refusal_of (to_host (host_of b)) (to_placing (functions_of b)) ≡ 0
    → length (board_writes b) ≡ count_in (functions_of b)
unfolding board_writes writes_of plan_of
count_is b bytes accepted planned =
    let h = host_of b in
    let fs = functions_of b in
    let w = shaped h fs (fits_of_accepted b bytes accepted) planned in
    let ps = map part_bytes (plan_of h fs) in
    ap (λ (ls : List (List ℕ)). length (pass_writes Buses 1 ls ++ pass_writes Registers 1 ls ++ pass_writes Commands 1 ls))
    (parts_in_sheet_bytes (plan_of h fs))
    ∙ length-append (pass_writes Buses 1 ps ++ pass_writes Registers 1 ps) (pass_writes Commands 1 ps)
    ∙ omega (arith, length-append (pass_writes Buses 1 ps) (pass_writes Registers 1 ps), count_from_lem _ _ _ 1 fs w)

-- ## In the words of the code

pub count_of_bridge : (f : Function) (n used : ℕ) → n ≡ slot_count f → used ≡ used_in n f.readbacks 0 → is_bridge f ≡ true
    → used + 7 ≡ write_count f
unfolding write_count
count_of_bridge f n used n_is used_is t =
    ap (◌+ 7) (used_is ∙ ap (λ (m : ℕ). used_in m f.readbacks 0) n_is)
    ∙ ap (λ (x : Bool). used_in (slot_count f) f.readbacks 0 + cond x 7 1) (sym t)

pub count_of_end : (f : Function) (n used : ℕ) → n ≡ slot_count f → used ≡ used_in n f.readbacks 0 → is_bridge f ≡ false
    → used + 1 ≡ write_count f
unfolding write_count
count_of_end f n used n_is used_is t =
    ap (◌+ 1) (used_is ∙ ap (λ (m : ℕ). used_in m f.readbacks 0) n_is)
    ∙ ap (λ (x : Bool). used_in (slot_count f) f.readbacks 0 + cond x 7 1) (sym t)

-- the records from a place on
pub record Counted (b : List ℕ) (at count : ℕ) : Type 0 where
  pub rest : count + count_in (map function_of_part (parts_from b at)) ≡ count_in (functions_of b)
  pub headers : any_part header_wrong (parts_from b at) ≡ false

-- the records that are left
pub record CountedParts (b : List ℕ) (left : List (List ℕ)) (count : ℕ) : Type 0 where
  pub rest : count + count_in (map function_of_part left) ≡ count_in (functions_of b)
  pub headers : any_part header_wrong left ≡ false

pub counted_start : (b : List ℕ) → board_number b ≡ 0 → Counted b functions_at 0
counted_start b e =
    let a = accepted_of_zero b e in
    record {
      rest =
          let z : 0 + count_in (map function_of_part (parts_from b functions_at)) ≡ count_in (map function_of_part (parts_from b functions_at)) =
          omega arith in
          z ∙ ap count_in (sym a.functions_read);
      headers = a.headers;
    }

pub counted_parts_start : (b : List ℕ) → board_number b ≡ 0 → CountedParts b (parts_from b functions_at) 0
counted_parts_start b e =
    let a = accepted_of_zero b e in
    record {
      rest =
          let z : 0 + count_in (map function_of_part (parts_from b functions_at)) ≡ count_in (map function_of_part (parts_from b functions_at)) =
          omega arith in
          z ∙ ap count_in (sym a.functions_read);
      headers = a.headers;
    }

few : (b : List ℕ) → board_number b ≡ 0 → count_in (functions_of b) ≤ 13 * most_functions
few b e =
    let a = accepted_of_zero b e in
    omega (
      arith,
      count_le (functions_of b),
      ap length a.functions_read,
      length-map (parts_from b functions_at) function_of_part,
      a.few,
    )

module _ {b : List ℕ} {left : List (List ℕ)} {count : ℕ} (accepted : board_number b ≡ 0) (s : CountedParts b left count) where
  module _ (part : List ℕ) (later : List (List ℕ)) (e : left ≡ part ∷ later) where
    headers : (header_wrong part ≡ false) × (any_part header_wrong later ≡ false)
    headers = none_first header_wrong part later (sym (ap (any_part header_wrong) e) ∙ s.headers)

    pub counted_parts_header : header_wrong part ≡ false
    counted_parts_header = headers.0

    module _ {f : Function} {more : ℕ} (f_is : f ≡ function_of_part part) (m : more ≡ write_count f) where
      parts_turn : count + more + count_in (map function_of_part later) ≡ count_in (functions_of b)
      unfolding count_in
      parts_turn =
          let split = ap (λ ps. count_in (map function_of_part ps)) e in
          let here = m ∙ ap write_count f_is in
          omega (arith, s.rest, split, here)

      pub counted_parts_turn : CountedParts b later (count + more)
      counted_parts_turn = record { rest = parts_turn; headers = headers.1 }

      pub counted_parts_fits : count + more ≤ 13 * most_functions
      counted_parts_fits = omega (arith, parts_turn, few b accepted)

  pub counted_parts_end : left ≡ [] → (count ≡ count_in (functions_of b)) × (count ≤ 13 * most_functions)
  unfolding count_in
  counted_parts_end e =
      let none : count_in (map function_of_part left) ≡ 0 = ap (λ ps. count_in (map function_of_part ps)) e in
      (omega (arith, s.rest, none), omega (arith, s.rest, few b accepted))

module _ {b : List ℕ} {at count : ℕ} (accepted : board_number b ≡ 0) (s : Counted b at count) where
  module _ (n : ℕ) (e : next_of (drop at b) ≡ Record n) where
    pub counted_header : header_wrong (take n (drop (at + 2) b)) ≡ false
    counted_header = none_here header_wrong b at n e s.headers

    module _ {f : Function} {more : ℕ} (f_is : f ≡ function_of_part (take n (drop (at + 2) b))) (m : more ≡ write_count f) where
      turn : count + more + count_in (map function_of_part (parts_from b (at + 2 + n))) ≡ count_in (functions_of b)
      unfolding count_in
      turn =
          let split = pass_record (λ ps. count_in (map function_of_part ps)) b at n e in
          let here = m ∙ ap write_count f_is in
          omega (arith, s.rest, split, here)

      pub counted_turn : Counted b (at + 2 + n) (count + more)
      counted_turn = record { rest = turn; headers = none_later header_wrong b at n e s.headers }

      pub counted_fits : count + more ≤ 13 * most_functions
      counted_fits = omega (arith, turn, few b accepted)

  finished : count_in (map function_of_part (parts_from b at)) ≡ 0 → (count ≡ count_in (functions_of b)) × (count ≤ 13 * most_functions)
  finished z = (omega (arith, s.rest), omega (arith, s.rest, few b accepted))

  pub counted_end : next_of (drop at b) ≡ End → (count ≡ count_in (functions_of b)) × (count ≤ 13 * most_functions)
  unfolding count_in
  counted_end e = finished (pass_end (λ ps. count_in (map function_of_part ps)) b at e)

  pub counted_broken : next_of (drop at b) ≡ Broken → (count ≡ count_in (functions_of b)) × (count ≤ 13 * most_functions)
  unfolding count_in
  counted_broken e = finished (pass_broken (λ ps. count_in (map function_of_part ps)) b at e)
