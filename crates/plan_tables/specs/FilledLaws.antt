-- What the filled arrays say is the board's functions, and sizing may take them. Assumes nothing.
use Rattle.std.specs.Prelude.{◌≡◌, refl, Bool, false, cond, ℕ, zero, suc, ◌+◌, ◌*◌, ◌/◌, ◌%◌, ◌≤◌, ◌<◌, eqb, length, get_or, take, drop}
use Rattle.std.proofs.Common.{sym, ap, ap₂, ◌∙◌, subst, arith, length-append, length-take-le, take_at, drop_at}
use mathlib.Core.List.{List, [], ◌∷◌, ◌++◌, map, flat_map}
use Rattle.std.proofs.lemmas.List.{length-map}
use Rattle.std.proofs.lemmas.List.Edits.{sets, sets-eq}
use Rattle.std.proofs.Math.Seq.{length-sets, drop-append-add}
use Rattle.arith.specs.BoolLaws.{false_of_or}
use Rattle.records.specs.Records.{parts_of, parts_from}
use Rattle.records.specs.Limits.{most_functions}
use Rattle.bar.specs.Bar.{slots, any_bad}
use Rattle.plan_bars.specs.Bars.{bars_from}
use Rattle.bar.specs.Header.{is_bridge as is_bridge_header}
use Rattle.lists.specs.Lists.{All, any}
use Rattle.plan_rule.specs.Records as placing
use Rattle.plan_rule.specs.Records.{DepthFirst, only_host}
use Rattle.plan_rule.proofs.RecordLaws.{ordered_from}
use Rattle.board_record.specs.declared.Function.{Function}
use Rattle.board_record.specs.Function.{function_of_part, is_bridge, readbacks_wrong}
use Rattle.board_record.specs.FunctionLaws.{length_readbacks}
use Rattle.board_record.specs.Host.{functions_at}
use Rattle.board.specs.Board.{board_number, functions_of}
use Rattle.board.proofs.BoardLaws.{accepted_of_zero}
use Rattle.board.specs.ToPlacing.{to_function, to_placing}
use Rattle.board.proofs.ToPlacingLaws.{lawful_of_accepted}
use Rattle.board.proofs.Depth.{few_above_of_accepted}
use Rattle.plan_sizing.specs.Functions.{slots_in, header_in, spares_in, function_in, functions_in, set_at}
use Rattle.plan_sizing.specs.FunctionsLaws.{functions_at_lem}
use Rattle.plan_sizing.specs.BusLaws.{lawful_of_board}
use Rattle.plan_sizing.specs.Board.{Board}
use Rattle.plan_tables.specs.Tables.{parents_of, head_of, heads_of, readbacks_of, Room, Filled}
use Rattle.plan_tables.specs.Counts.{Countable, AllCounted}

-- ---- six read-backs each

abbrev pub SixEach : List Function → Type 0
SixEach = All (λ f. length f.readbacks ≡ 6)

six_of_parts : (ps : List (List ℕ)) → SixEach (map function_of_part ps)
six_of_parts [] = tt
six_of_parts (p ∷ ps) = (length_readbacks p, six_of_parts ps)

six_of_board : (b : List ℕ) → SixEach (functions_of b)
unfolding functions_of
six_of_board b = six_of_parts (drop 1 (parts_of (drop 1 b)).parts)

length_readbacks_of : (fs : List Function) → SixEach fs → length (readbacks_of fs) ≡ 6 * length fs
unfolding flat_map
length_readbacks_of [] s = refl
length_readbacks_of (f ∷ fs) s =
    let rest = length_readbacks_of fs s.1 in
    length-append f.readbacks (readbacks_of fs) ∙ omega (arith, s.0, rest)

-- ---- the lists that the arrays start with

-- a head is read back
header_of_head : (f : Function) → header_in (head_of f) ≡ f.header % 256
header_of_head f = omega arith

pub spares_of_head : (f : Function) → spares_in (head_of f) ≡ f.spares
spares_of_head f = omega arith

type_of_byte : (header : ℕ) → is_bridge_header (header % 256) ≡ is_bridge_header header
type_of_byte header = let e : header % 256 % 128 ≡ header % 128 = omega arith in ap (λ (n : ℕ). eqb n 1) e

pub bridge_of_head : (f : Function) → is_bridge_header (header_in (head_of f)) ≡ is_bridge f
bridge_of_head f = ap is_bridge_header (header_of_head f) ∙ type_of_byte f.header

slots_of_head : (f : Function) → slots_in (header_in (head_of f)) f.readbacks ≡ slots_in f.header f.readbacks
slots_of_head f = ap (λ (t : Bool). slots (take (cond t 2 6) f.readbacks)) (bridge_of_head f)

function_of_head : (f : Function) → function_in f.parent (head_of f) f.readbacks ≡ to_function f
function_of_head f =
    let b = bridge_of_head f in
    let x = spares_of_head f in
    let z = slots_of_head f in
    λ j. record {
      parent = f.parent;
      bridge = b j;
      bars = bars_from 0 (z j);
      spare_low = x j % 65536;
      spare_buses = x j / 65536;
    }

functions_of_lists : (fs : List Function) → SixEach fs → functions_in (parents_of fs) (heads_of fs) (readbacks_of fs) ≡ to_placing fs
unfolding functions_in flat_map
functions_of_lists [] s = refl
functions_of_lists (f ∷ fs) s =
    ap₂ (λ (x y : List ℕ). function_in f.parent (head_of f) x ∷ functions_in (parents_of fs) (heads_of fs) y)
    (take_at f.readbacks (readbacks_of fs) 6 s.0)
    (drop_at f.readbacks (readbacks_of fs) 6 s.0)
    ∙ ap₂ (λ (g : placing.Function) (l : List placing.Function). g ∷ l) (function_of_head f) (functions_of_lists fs s.1)

readable_of : (fs : List Function) → SixEach fs → any readbacks_wrong fs ≡ false → (i : ℕ) → i < length (parents_of fs)
    → any_bad (slots_in (header_in (get_or (heads_of fs) i 0)) (set_at (readbacks_of fs) i)) ≡ false
unfolding any flat_map readbacks_wrong
readable_of [] s e i h = absurd (omega arith)
readable_of (f ∷ fs) s e zero h =
    ap (λ (l : List ℕ). any_bad (slots_in (header_in (head_of f)) l)) (take_at f.readbacks (readbacks_of fs) 6 s.0)
    ∙ ap any_bad (slots_of_head f)
    ∙ (false_of_or (readbacks_wrong f) (any readbacks_wrong fs) e).0
readable_of (f ∷ fs) s e (suc i) h =
    let past : 6 * suc i ≡ length f.readbacks + 6 * i = omega (arith, s.0) in
    ap (λ (k : ℕ). any_bad (slots_in (header_in (get_or (heads_of fs) i 0)) (take 6 (drop k (f.readbacks ++ readbacks_of fs))))) past
    ∙ ap (λ (l : List ℕ). any_bad (slots_in (header_in (get_or (heads_of fs) i 0)) (take 6 l)))
    (drop-append-add f.readbacks (readbacks_of fs) (6 * i))
    ∙ readable_of fs s.1 (false_of_or (readbacks_wrong f) (any readbacks_wrong fs) e).1 i (omega arith)

board_of_lists : (b : List ℕ) → board_number b ≡ 0
    → Board (parents_of (functions_of b)) (heads_of (functions_of b)) (readbacks_of (functions_of b))
board_of_lists b e =
    let fs = functions_of b in
    let six = six_of_board b in
    let ps = length-map fs (λ f. f.parent) in
    let hs = length-map fs head_of in
    record {
      heads = omega (arith, ps, hs);
      readbacks = omega (arith, ps, length_readbacks_of fs six);
      ordered = subst (λ (l : List placing.Function). DepthFirst only_host 1 l) (sym (functions_of_lists fs six))
          (lawful_of_accepted b e).ordered;
      shallow = rw (functions_of_lists fs six) (few_above_of_accepted b e);
      readable = readable_of fs six (accepted_of_zero b e).readbacks;
    }

-- ---- the arrays, as far as they were filled

take_stored : {o' : List ℕ} (o vs : List ℕ) (n : ℕ) → o' ≡ sets o 0 vs → length vs ≡ n → n ≤ length o → take n o' ≡ vs
take_stored o vs n e l h = ap (take n) (e ∙ sets-eq vs o 0 (omega arith)) ∙ take_at vs (drop (0 + length vs) o) n l

module _ {ps hs ss ps' hs' ss' : List ℕ} {n : ℕ} (b : List ℕ) (e : board_number b ≡ 0) (r : Room most_functions ps hs ss)
    (f : Filled (functions_of b) ps hs ss ps' hs' ss' n) where
  pub filled_few : n ≤ most_functions
  filled_few =
      let a = accepted_of_zero b e in
      omega (arith, f.count, a.few, ap length a.functions_read, length-map (parts_from b functions_at) function_of_part)

  -- the parts of them that sizing takes lie inside
  pub room_filled : Room n ps' hs' ss'
  room_filled =
      let fs = functions_of b in
      record {
        parents = omega (arith, filled_few, r.parents, ap length f.parents, length-sets ps 0 (parents_of fs));
        heads = omega (arith, filled_few, r.heads, ap length f.heads, length-sets hs 0 (heads_of fs));
        readbacks = omega (arith, filled_few, r.readbacks, ap length f.readbacks, length-sets ss 0 (readbacks_of fs));
      }

  pub length_take_parents : length (take n ps') ≡ n
  length_take_parents = length-take-le n ps' room_filled.parents

  length_take_heads : length (take n hs') ≡ n
  length_take_heads = length-take-le n hs' room_filled.heads

  take_parents : take n ps' ≡ parents_of (functions_of b)
  take_parents =
      take_stored ps (parents_of (functions_of b)) n f.parents (length-map (functions_of b) (λ g. g.parent) ∙ sym f.count)
      (omega (arith, filled_few, r.parents))

  pub take_heads : take n hs' ≡ heads_of (functions_of b)
  take_heads =
      take_stored hs (heads_of (functions_of b)) n f.heads (length-map (functions_of b) head_of ∙ sym f.count)
      (omega (arith, filled_few, r.heads))

  take_readbacks : take (6 * n) ss' ≡ readbacks_of (functions_of b)
  take_readbacks =
      take_stored ss (readbacks_of (functions_of b)) (6 * n) f.readbacks
      (length_readbacks_of (functions_of b) (six_of_board b) ∙ ap (λ (k : ℕ). 6 * k) (sym f.count))
      (omega (arith, filled_few, r.readbacks))

  -- they say the board's functions
  pub functions_filled : functions_in (take n ps') (take n hs') (take (6 * n) ss') ≡ to_placing (functions_of b)
  functions_filled = rw (take_parents, take_heads, take_readbacks) (functions_of_lists (functions_of b) (six_of_board b))

  -- and are what sizing requires
  pub board_filled : Board (take n ps') (take n hs') (take (6 * n) ss')
  board_filled = rw (take_parents, take_heads, take_readbacks) (board_of_lists b e)

  -- a parent is an earlier record
  parents_earlier : (i : ℕ) → i < n → get_or (take n ps') i 0 ≤ i
  parents_earlier i l =
      let fs = functions_in (take n ps') (take n hs') (take (6 * n) ss') in
      let lawful = lawful_of_board board_filled in
      let inside : i < length (take n ps') = omega (arith, length_take_parents) in
      let at = functions_at_lem (take n ps') (take n hs') (take (6 * n) ss') i inside in
      let o = ordered_from fs lawful.ordered i in
      let d = subst (DepthFirst o.allowed (suc i)) at o.ordered in
      omega (arith, o.bounded (get_or (take n ps') i 0) d.0)

  -- and what the pass that counts asks
  pub countable_filled : (counts : List ℕ) → 2 * most_functions + 2 ≤ length counts → Countable (take n ps') (take n hs') counts
  countable_filled counts room =
      record {
        few = omega (arith, length_take_parents, filled_few);
        heads = omega (arith, length_take_parents, length_take_heads);
        earlier = λ i l. parents_earlier i (omega (arith, length_take_parents));
        room = omega (arith, length_take_parents, filled_few);
      }

  -- the numbers that the board's functions take, and their spares
  pub counted_filled : {cs' : List ℕ} {r : ℕ}
      → ((ss : List ℕ) → AllCounted (functions_in (take n ps') (take n hs') ss) cs' (length (take n ps')) r)
      → AllCounted (to_placing (functions_of b)) cs' (length (functions_of b)) r
  counted_filled {cs'} {r} h =
      subst (λ (l : List placing.Function). AllCounted l cs' (length (functions_of b)) r) functions_filled
      (subst (λ (m : ℕ). AllCounted (functions_in (take n ps') (take n hs') (take (6 * n) ss')) cs' m r)
      (length_take_parents ∙ f.count) (h (take (6 * n) ss')))
