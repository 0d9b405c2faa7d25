-- The pass that fills the arrays, one law for each step. Assumes nothing.
use Rattle.std.specs.Prelude.{◌≡◌, false, get_or, take, drop, set}
use Rattle.std.proofs.Math.Path.{sym, ap}
use Rattle.std.proofs.Common.{◌∙◌, add-zero, zero-add, arith, length-set, drop_of_length-le, drop-cons}
use mathlib.Core.List.{List, [], ◌∷◌, map, flat_map}
use Prim.Native.Nat.{ℕ, suc, ◌+◌, ◌*◌, ◌≤◌, ◌<◌}
use Rattle.std.proofs.Math.Numerals.{add-one}
use Rattle.std.proofs.Math.ListN.{length}
use Rattle.std.proofs.lemmas.List.{length-map}
use Rattle.std.proofs.lemmas.List.Edits.{sets}
use Rattle.std.proofs.Math.Seq.{length-sets}
use Rattle.endian.specs.SetsLaws.{sets_sets}
use Rattle.records.specs.declared.Next.TheVariants.{End, Record, Broken}
use Rattle.records.specs.Records.{next_of, parts_from, any_part}
use Rattle.records.specs.RecordsLaws.{none_first, none_later, pass_record, pass_end, pass_broken}
use Rattle.records.specs.Limits.{most_functions}
use Rattle.board_record.specs.declared.Function.{Function}
use Rattle.board_record.specs.Function.{function_of_part, header_wrong}
use Rattle.board_record.specs.FunctionLaws.{length_readbacks}
use Rattle.board_record.specs.Host.{functions_at}
use Rattle.board.specs.Board.{board_number, functions_of}
use Rattle.board.proofs.BoardLaws.{accepted_of_zero}
use Rattle.plan_tables.specs.Tables.{parents_of, head_of, heads_of, readbacks_of, Room, Put, Filled, FillingParts, functions_from, Filling}

-- ---- stores one by one: a run `vs` from `at` on, of which those before j are stored

module _ {r : List ℕ} (o vs : List ℕ) (at j : ℕ) (e : sets o (at + j) (drop j vs) ≡ r) where
  pub run_turn : {v : ℕ} → v ≡ get_or vs j 0 → j < length vs → sets (set o (at + j) v) (at + (j + 1)) (drop (j + 1) vs) ≡ r
  run_turn q h =
      let more : drop j vs ≡ get_or vs j 0 ∷ drop (suc j) vs = drop-cons vs j 0 h in
      let next : at + (j + 1) ≡ suc (at + j) = omega arith in
      rw (q, next, add-one j) (rw more at e)

  pub run_end : length vs ≤ j → o ≡ r
  run_end h = rw (drop_of_length-le vs {i = j} h) at e

-- ---- a head, in the words of the code

pub head_is : (p : List ℕ) (h s : ℕ) → h ≡ (function_of_part p).header → s ≡ (function_of_part p).spares → h < 256
    → h + 256 * s ≡ head_of (function_of_part p)
head_is p h s e g l = omega (arith, e, g)

-- ---- one function stored

module _ {f : Function} {i : ℕ} {ps hs ss ps' hs' ss' : List ℕ} (p : Put f i ps hs ss ps' hs' ss') where
  put_parents : length ps' ≡ length ps
  put_parents = ap length p.parents ∙ length-set ps i f.parent

  put_heads : length hs' ≡ length hs
  put_heads = ap length p.heads ∙ length-set hs i (head_of f)

  put_readbacks : length ss' ≡ length ss
  put_readbacks = ap length p.readbacks ∙ length-sets ss (6 * i) f.readbacks

  put_room : (n : ℕ) → Room n ps hs ss → Room n ps' hs' ss'
  put_room n r =
      record {
        parents = omega (arith, put_parents, r.parents);
        heads = omega (arith, put_heads, r.heads);
        readbacks = omega (arith, put_readbacks, r.readbacks);
      }

-- ---- the pass, by the parts that it has left

pub filling_parts_start : (b ps hs ss : List ℕ) → board_number b ≡ 0 → Room most_functions ps hs ss
    → FillingParts b ps hs ss (parts_from b functions_at) 0 ps hs ss
filling_parts_start b ps hs ss e r =
    let a = accepted_of_zero b e in
    let fs = a.functions_read in
    record {
      lawful = a.headers;
      few = omega (arith, a.few, length-map (parts_from b functions_at) function_of_part);
      room = r;
      count = zero-add (length (map function_of_part (parts_from b functions_at))) ∙ sym (ap length fs);
      parents = sym (ap (λ (l : List Function). sets ps 0 (parents_of l)) fs);
      heads = sym (ap (λ (l : List Function). sets hs 0 (heads_of l)) fs);
      readbacks = sym (ap (λ (l : List Function). sets ss 0 (readbacks_of l)) fs);
    }

module _ {b ps hs ss ps' hs' ss' : List ℕ} {left : List (List ℕ)} {i : ℕ} (s : FillingParts b ps hs ss left i ps' hs' ss') where
  -- the end of the pass: no part is left
  pub filled_parts_end : left ≡ [] → Filled (functions_of b) ps hs ss ps' hs' ss' i
  unfolding flat_map
  filled_parts_end e =
      record {
        count = sym (add-zero i) ∙ (rw e at s.count);
        parents = rw e at s.parents;
        heads = rw e at s.heads;
        readbacks = rw e at s.readbacks;
      }

  -- the first part that is left, and those after it
  module _ (part : List ℕ) (later : List (List ℕ)) (e : left ≡ part ∷ later) where
    here : map function_of_part left ≡ function_of_part part ∷ map function_of_part later
    here = ap (map function_of_part) e

    pub filling_parts_lawful : (header_wrong part ≡ false) × (any_part header_wrong later ≡ false)
    filling_parts_lawful = none_first header_wrong part later (sym (ap (any_part header_wrong) e) ∙ s.lawful)

    pub filling_parts_lt : i < most_functions
    filling_parts_lt = omega (arith, s.few, ap length here)

    pub filling_parts_room : Room (i + 1) ps' hs' ss'
    filling_parts_room =
        record {
          parents = omega (arith, filling_parts_lt, s.room.parents);
          heads = omega (arith, filling_parts_lt, s.room.heads);
          readbacks = omega (arith, filling_parts_lt, s.room.readbacks);
        }

    pub filling_parts_record : {ps'' hs'' ss'' : List ℕ} → Put (function_of_part part) i ps' hs' ss' ps'' hs'' ss''
        → FillingParts b ps hs ss later (i + 1) ps'' hs'' ss''
    unfolding flat_map
    filling_parts_record {ps''} {hs''} {ss''} p =
        let f = function_of_part part in
        let rest = map function_of_part later in
        let one : i + 1 ≡ suc i = add-one i in
        let six : 6 * (i + 1) ≡ 6 * i + length f.readbacks = omega (arith, length_readbacks part) in
        record {
          lawful = filling_parts_lawful.1;
          few = omega (arith, s.few, ap length here);
          room = put_room p most_functions s.room;
          count = omega (arith, s.count, ap length here);
          parents = rw (p.parents, one) (rw here at s.parents);
          heads = rw (p.heads, one) (rw here at s.heads);
          readbacks = rw (p.readbacks, six) (sets_sets ss' (6 * i) f.readbacks (readbacks_of rest) ∙ (rw here at s.readbacks));
        }

-- ---- the pass, by its cursor: one law for each thing that can stand there

pub filling_start : (b ps hs ss : List ℕ) → board_number b ≡ 0 → Room most_functions ps hs ss → Filling b ps hs ss functions_at 0 ps hs ss
filling_start b ps hs ss e r =
    let a = accepted_of_zero b e in
    let fs = a.functions_read in
    record {
      lawful = a.headers;
      few = omega (arith, a.few, length-map (parts_from b functions_at) function_of_part);
      room = r;
      count = zero-add (length (functions_from b functions_at)) ∙ sym (ap length fs);
      parents = sym (ap (λ (l : List Function). sets ps 0 (parents_of l)) fs);
      heads = sym (ap (λ (l : List Function). sets hs 0 (heads_of l)) fs);
      readbacks = sym (ap (λ (l : List Function). sets ss 0 (readbacks_of l)) fs);
    }

module _ {b ps hs ss ps' hs' ss' : List ℕ} {at i : ℕ} (s : Filling b ps hs ss at i ps' hs' ss') where
  -- the arrays keep their lengths through the pass
  pub filling_parents : length ps' ≡ length ps
  filling_parents =
      sym (length-sets ps' i (parents_of (functions_from b at))) ∙ ap length s.parents ∙ length-sets ps 0 (parents_of (functions_of b))

  pub filling_heads : length hs' ≡ length hs
  filling_heads =
      sym (length-sets hs' i (heads_of (functions_from b at))) ∙ ap length s.heads ∙ length-sets hs 0 (heads_of (functions_of b))

  pub filling_readbacks : length ss' ≡ length ss
  filling_readbacks =
      sym (length-sets ss' (6 * i) (readbacks_of (functions_from b at))) ∙ ap length s.readbacks
      ∙ length-sets ss 0 (readbacks_of (functions_of b))

  -- the end of the pass, by what is left
  filled_of_none : functions_from b at ≡ [] → Filled (functions_of b) ps hs ss ps' hs' ss' i
  unfolding flat_map
  filled_of_none e =
      record {
        count = sym (add-zero i) ∙ (rw e at s.count);
        parents = rw e at s.parents;
        heads = rw e at s.heads;
        readbacks = rw e at s.readbacks;
      }

  pub filled_end : next_of (drop at b) ≡ End → Filled (functions_of b) ps hs ss ps' hs' ss' i
  filled_end e = filled_of_none (pass_end (map function_of_part) b at e)

  pub filled_broken : next_of (drop at b) ≡ Broken → Filled (functions_of b) ps hs ss ps' hs' ss' i
  filled_broken e = filled_of_none (pass_broken (map function_of_part) b at e)

  module _ (n : ℕ) (e : next_of (drop at b) ≡ Record n) where
    functions_record : functions_from b at ≡ function_of_part (take n (drop (at + 2) b)) ∷ functions_from b (at + 2 + n)
    functions_record = pass_record (map function_of_part) b at n e

    pub filling_lt : i < most_functions
    filling_lt = omega (arith, s.few, ap length functions_record)

    pub filling_room : Room (i + 1) ps' hs' ss'
    filling_room =
        record {
          parents = omega (arith, filling_lt, s.room.parents);
          heads = omega (arith, filling_lt, s.room.heads);
          readbacks = omega (arith, filling_lt, s.room.readbacks);
        }

    pub filling_record : {f : Function} {ps'' hs'' ss'' : List ℕ} → f ≡ function_of_part (take n (drop (at + 2) b))
        → Put f i ps' hs' ss' ps'' hs'' ss'' → Filling b ps hs ss (at + 2 + n) (i + 1) ps'' hs'' ss''
    unfolding flat_map
    filling_record {f} {ps''} {hs''} {ss''} q p =
        let rest = functions_from b (at + 2 + n) in
        let left : functions_from b at ≡ f ∷ rest = functions_record ∙ ap (λ (x : Function). x ∷ rest) (sym q) in
        let one : i + 1 ≡ suc i = add-one i in
        let six : 6 * (i + 1) ≡ 6 * i + length f.readbacks
        = omega (arith, ap (λ (x : Function). length x.readbacks) q, length_readbacks (take n (drop (at + 2) b))) in
        record {
          lawful = none_later header_wrong b at n e s.lawful;
          few = omega (arith, s.few, ap length left);
          room = put_room p most_functions s.room;
          count = omega (arith, s.count, ap length left);
          parents = rw (p.parents, one) (rw left at s.parents);
          heads = rw (p.heads, one) (rw left at s.heads);
          readbacks = rw (p.readbacks, six) (sets_sets ss' (6 * i) f.readbacks (readbacks_of rest) ∙ (rw left at s.readbacks));
        }
