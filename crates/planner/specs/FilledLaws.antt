-- The arrays that the planner fills measure the board. Assumes nothing.
use Rattle.std.specs.Prelude.{◌≡◌, refl, true, ℕ, zero, suc, ◌+◌, ◌*◌, ◌%◌, ◌≤◌, ◌<◌, length, get_or, take}
use Rattle.std.proofs.Common.{sym, ap, ap₂, ◌∙◌, arith}
use mathlib.Core.List.{List, [], ◌∷◌, cons≢nil, head-eq_of_cons-eq}
use Rattle.std.proofs.Math.Seq.{length-sets}
use Rattle.pools.specs.declared.Pool.{Pool}
use Rattle.pools.specs.declared.Pool.TheVariants.{Low, High, Io}
use Rattle.bar.specs.Header.{is_bridge as is_bridge_header}
use Rattle.records.specs.Limits.{most_functions}
use Rattle.plan_rule.specs.Records as placing
use Rattle.plan_rule.specs.Sizing as laid
use Rattle.plan_rule.specs.Sizing.{bus_laid, root_laid}
use Rattle.plan_rule.proofs.SizingLaws.{laid_ext}
use Rattle.board_record.specs.declared.Host.{Host}
use Rattle.board_record.specs.declared.Function.{Function}
use Rattle.board_record.specs.Function.{is_bridge, spare_low}
use Rattle.board.specs.Board.{board_number, functions_of}
use Rattle.board.specs.ToPlacing.{to_host, to_placing}
use Rattle.plan_sizing.specs.declared.Laid.{Laid}
use Rattle.plan_sizing.specs.Cut.{cut}
use Rattle.plan_sizing.specs.Functions.{header_in, spares_in, functions_in}
use Rattle.plan_sizing.specs.Memo.{laid_at, below, memo_from}
use Rattle.plan_sizing.specs.Board.{bases_of, root_from}
use Rattle.plan_sizing.specs.BoardLaws.{stored_below}
use Rattle.plan_tables.specs.Tables.{head_of, heads_of, Room, Filled}
use Rattle.plan_tables.specs.Counts.{AllCounted}
use Rattle.plan_tables.specs.FilledLaws.{filled_few, room_filled, length_take_parents, take_heads, functions_filled, board_filled}
use Rattle.plan_tables.specs.FilledLaws.{bridge_of_head, spares_of_head, countable_filled, counted_filled}
use Rattle.plan_pass.specs.StepLaws.{RecordAt}
use Rattle.planner.specs.declared.Measured.{Measured}
use Rattle.planner.specs.Measure.{Measurable, CountedAndSized, IsMeasured}

-- ---- a record and its head

head_at : (fs : List Function) (i : ℕ) (f : Function) → RecordAt fs i f → (i < length fs) × (get_or (heads_of fs) i 0 ≡ head_of f)
head_at [] zero f e = absurd (cons≢nil (sym e))
head_at [] (suc i) f e = absurd (cons≢nil (sym e))
head_at (g ∷ fs) zero f e = (omega arith, ap head_of (head-eq_of_cons-eq e))
head_at (g ∷ fs) (suc i) f e = let rest = head_at fs i f e in (omega (arith, rest.0), rest.1)

-- ---- the root bus starts at the pools' bases

root_from_bases : (h : Host) → root_from (bases_of h.low.base h.high.base h.io.base) ≡ root_laid (to_host h)
root_from_bases h = laid_ext _ _ refl each
  where
    each : (q : Pool) → (root_from (bases_of h.low.base h.high.base h.io.base)).extent q ≡ (root_laid (to_host h)).extent q
    each Low = refl
    each High = refl
    each Io = refl

module _ {ps hs ss ps' hs' ss' : List ℕ} {n : ℕ} (b : List ℕ) (e : board_number b ≡ 0) (room : Room most_functions ps hs ss)
    (filled : Filled (functions_of b) ps hs ss ps' hs' ss' n) (counts memo : List ℕ) (counts_room : 2 * most_functions + 2 ≤ length counts)
    (memo_room : 7 * most_functions ≤ length memo) where
  pub measurable : Measurable ps' hs' ss' n counts memo
  measurable =
      let few = filled_few b e room filled in
      record {
        arrays = room_filled b e room filled;
        few = few;
        board = board_filled b e room filled;
        countable = countable_filled b e room filled counts counts_room;
        memo_room = omega (arith, few, memo_room);
      }

  module _ {h : Host} {counts' memo' : List ℕ} {m : Measured}
      (s : CountedAndSized ps' hs' ss' n h counts memo counts' memo' m) where
    few : length (functions_of b) ≤ most_functions
    few = omega (arith, filled_few b e room filled, filled.count)

    counted : AllCounted (to_placing (functions_of b)) counts' (length (functions_of b)) m.bridges
    counted = counted_filled b e room filled s.counted

    root_is : m.root ≡ cut (bus_laid (to_placing (functions_of b)) 0 (root_laid (to_host h)))
    root_is =
        s.sized.laid
        ∙ ap (λ (fs : List placing.Function). cut (bus_laid fs 0 (root_from (bases_of h.low.base h.high.base h.io.base))))
        (functions_filled b e room filled)
        ∙ ap (λ (l : laid.Laid). cut (bus_laid (to_placing (functions_of b)) 0 l)) (root_from_bases h)

    stored : (i : ℕ) (f : Function) → RecordAt (functions_of b) i f → is_bridge f ≡ true → laid_at memo' i
        ≡ below (to_placing (functions_of b)) i (spare_low f)
    stored i f at is =
        let there = head_at (functions_of b) i f at in
        let head : get_or (take n hs') i 0 ≡ head_of f = ap (λ (l : List ℕ). get_or l i 0) (take_heads b e room filled) ∙ there.1 in
        let lp = length_take_parents b e room filled in
        stored_below (take n ps') (take n hs') (take (6 * n) ss') memo memo'
        (bases_of h.low.base h.high.base h.io.base) m.root
        (omega (arith, lp, few, filled.count, memo_room)) s.sized i (omega (arith, lp, there.0, filled.count))
        (ap (λ (x : ℕ). is_bridge_header (header_in x)) head ∙ bridge_of_head f ∙ is)
        ∙ ap₂ (λ (fs : List placing.Function) (x : ℕ). below fs i (spares_in x % 65536)) (functions_filled b e room filled) head
        ∙ ap (λ (x : ℕ). below (to_placing (functions_of b)) i (x % 65536)) (spares_of_head f)

    pub measured : IsMeasured b h counts' memo' m
    measured =
        let sized_functions = functions_in (take n ps') (take n hs') (take (6 * n) ss') in
        record {
          functions = s.functions ∙ filled.count;
          bridges_are = counted.all;
          root = root_is;
          few_buses = s.few_buses;
          counts_room = omega (arith, few, counts_room, s.counts_kept);
          counted = counted.counted;
          memo_room = omega (
            arith,
            few,
            memo_room,
            ap length s.sized.stored,
            length-sets memo 0
                (memo_from sized_functions 0 sized_functions),
          );
          stored = stored;
        }
