-- Where nothing runs out, every BAR register of the plan has 32 bits: a 32-bit BAR is of the low or the I/O pool, whose addresses do.
-- Assumes nothing.
use Rattle.std.specs.Prelude.{◌≡◌, refl, Bool, true, false, cond, ℕ, suc, ◌%◌, ◌≤◌, ◌<◌, get_or, drop}
use Rattle.std.proofs.Common.{ap₂, subst, ◌∙◌, eq-eqb, ne_eqb}
use mathlib.Core.List.{List, [], ◌∷◌, ◌++◌, map}
use native.Mathlib.Omega.{arith}
use Rattle.arith.specs.Align.{align_up}
use Rattle.arith.specs.Powers.{PowerOfTwo}
use Rattle.arith.specs.PowersLaws.{pos_of_power}
use Rattle.pools.specs.declared.Pool.{Pool}
use Rattle.pools.specs.declared.Pool.TheVariants.{Low, High, Io}
use Rattle.bar.specs.declared.Slot.{Slot}
use Rattle.bar.specs.declared.Slot.TheVariants.{Unused, Bar, Upper, Bad}
use Rattle.bar.specs.Bar.{is_wide, slot_here, slots}
use Rattle.bar.specs.Values.{value_of, registers_of}
use Rattle.bar.specs.ValuesLaws.{typed_lt_64}
use Rattle.window.specs.Window.{bound}
use Rattle.lists.specs.Lists.{All}
use Rattle.lists.specs.ListLaws.{all_append, all_left, all_right, all_drop}
use Rattle.plan_rule.specs.Records as placing
use Rattle.plan_rule.specs.Records.{Host, Function, Sized, Lawful}
use Rattle.plan_rule.proofs.RecordLaws.{IsAt}
use Rattle.plan_rule.specs.Layout.{Piece, Placed, end_of}
use Rattle.plan_rule.specs.Pieces.{bar_piece, bar_pieces, window_pieces, own_pieces, pieces}
use Rattle.plan_rule.proofs.PieceLaws.{BarsSized}
use Rattle.plan_rule.specs.Placing.{Cursors, place, placed}
use Rattle.plan_rule.proofs.PlacingLaws.{after}
use Rattle.plan_function.specs.Registers.{bars_from, bar_start, values_from}
use Rattle.plan_function.specs.Pass.{cursors_at}
use Rattle.plan_function.proofs.PassLaws.{Split, bar_start_split, record_split, own_at}
use Rattle.plan_function.proofs.FunctionLaws.{Left}
use Rattle.plan_function.proofs.JoinLaws.{Room, all_in_pool}
use Rattle.plan_function.specs.Kept.{word}
use Rattle.plan_function.proofs.KeptLaws.{Starts, starts_here}

-- no 32-bit BAR is of the high pool
abbrev pub Fitting : Slot → Type 0
Fitting Unused = Unit {0}
Fitting (Bar Low wide z) = Unit {0}
Fitting (Bar High true z) = Unit {0}
Fitting (Bar High false z) = ⊥
Fitting (Bar Io wide z) = Unit {0}
Fitting Upper = Unit {0}
Fitting Bad = Unit {0}

fitting_of_starts : (x : Slot) → Starts x → Fitting x
fitting_of_starts Unused h = tt
fitting_of_starts (Bar Low wide z) h = tt
fitting_of_starts (Bar High true z) h = tt
fitting_of_starts (Bar High false z) h = h
fitting_of_starts (Bar Io wide z) h = tt
fitting_of_starts Upper h = absurd h
fitting_of_starts Bad h = tt

pub all_fitting : (s : List ℕ) → All Fitting (slots s)
unfolding slots
all_fitting [] = tt
all_fitting (r ∷ []) = (fitting_of_starts (slot_here (r ∷ [])) (starts_here (r ∷ [])), tt)
all_fitting (r ∷ u ∷ us) =
    (fitting_of_starts (slot_here (r ∷ u ∷ us)) (starts_here (r ∷ u ∷ us)), go (is_wide r) (all_fitting us) (all_fitting (u ∷ us)))
  where
    go : (b : Bool) → All Fitting (slots us) → All Fitting (slots (u ∷ us)) → All Fitting (cond b (Upper ∷ slots us) (slots (u ∷ us)))
    go true p q = (tt, p)
    go false p q = q

abbrev pub IsWord : ℕ → Type 0
IsWord v = v < 4294967296

word_registers : (q : Pool) (wide : Bool) (z r start : ℕ) → Fitting (Bar q wide z) → start < bound q
    → All IsWord (registers_of (Bar q wide z) (value_of (Bar q wide z) r start))
word_registers Low true z r start h l = let v = typed_lt_64 Low start r (omega arith) in (omega arith, (omega arith, tt))
word_registers High true z r start h l = let v = typed_lt_64 High start r (omega arith) in (omega arith, (omega arith, tt))
word_registers Io true z r start h l = let v = typed_lt_64 Io start r (omega arith) in (omega arith, (omega arith, tt))
word_registers Low false z r start h l = (omega arith, tt)
word_registers High false z r start h l = absurd h
word_registers Io false z r start h l = (omega arith, tt)

pub map_word : (vs : List ℕ) → All IsWord vs → map word vs ≡ vs
map_word [] h = refl
map_word (v ∷ vs) h = let e : v % 4294967296 ≡ v = omega arith in ap₂ (λ (n : ℕ) (l : List ℕ). n ∷ l) e (map_word vs h.1)

-- the pieces still to be placed end within their pools
module _ (last : Pool → ℕ) (fits : (q : Pool) → last q < bound q) (k b : ℕ) (xs : List Placed) (w : List Piece) where
  words_left : (s : ℕ) (ss : List Slot) (rs : List ℕ) (c : Cursors) → Left k b xs w s ss c → All Fitting ss
      → All (λ x. end_of x ≤ suc (last x.piece.pool)) (place c (bar_pieces k b (bars_from s ss) ++ w))
      → All (λ x. 0 < x.size) (bar_pieces k b (bars_from s ss))
      → All IsWord (values_from k s xs ss rs)
  unfolding values_from bars_from bar_start bar_pieces place
  words_left s [] rs c h f e z = tt
  words_left s (Unused ∷ ss) rs c h f e z = (omega arith, words_left (suc s) ss (drop 1 rs) c (λ j l. h j (omega arith)) f.1 e z)
  words_left s (Upper ∷ ss) rs c h f e z = words_left (suc s) ss (drop 1 rs) c (λ j l. h j (omega arith)) f.1 e z
  words_left s (Bad ∷ ss) rs c h f e z = (omega arith, words_left (suc s) ss (drop 1 rs) c (λ j l. h j (omega arith)) f.1 e z)
  words_left s (Bar q wide n ∷ ss) rs c h f e z =
      all_append _ (registers_of (Bar q wide n) (value_of (Bar q wide n) (get_or rs 0 0) (bar_start k s xs))) _
      (word_registers q wide n (get_or rs 0 0) (bar_start k s xs) f.0 small)
      (words_left (suc s) ss (drop 1 rs) (after c p) next f.1 e.1 z.1)
    where
      p : Piece
      p = bar_piece k b (record { slot = s; pool = q; size = n })

      here : bar_start k s xs ≡ align_up n (c b q)
      here = h s (omega arith) ∙ rw (eq-eqb k k refl, eq-eqb s s refl)

      small : bar_start k s xs < bound q
      small = omega (arith, here, e.0, z.0, fits q)

      next : Left k b xs w (suc s) ss (after c p)
      next j m = h j (omega arith) ∙ rw (eq-eqb k k refl, ne_eqb s j (λ g. omega arith))

bar_sizes_pos : (k b : ℕ) (bs : List placing.Bar) → All (λ x. PowerOfTwo x.size) bs → All (λ x. 0 < x.size) (bar_pieces k b bs)
unfolding bar_pieces
bar_sizes_pos k b [] h = tt
bar_sizes_pos k b (x ∷ xs) h = (pos_of_power h.0, bar_sizes_pos k b xs h.1)

module _ (h : Host) (fs : List Function) (lawful : Lawful fs) (room : Room h fs) (i : ℕ) (f : Function) (at : IsAt fs i f) (ss : List Slot)
    (bars : f.bars ≡ bars_from 0 ss) (fitting : All Fitting ss) where
  pub words_join : (rs : List ℕ) → All IsWord (values_from (suc i) 0 (placed h fs) ss rs)
  unfolding own_pieces
  words_join rs =
      words_left h.last room.fits (suc i) f.parent (placed h fs)
      (cond f.bridge (window_pieces (suc i) f.parent f.spare_low (pieces (suc (suc i)) (drop (suc i) fs))) [])
      0
      ss
      rs
      (cursors_at h fs i)
      (λ j l. rw (← bars) (bar_start_split split j))
      fitting
      (rw (← bars) own_ending)
      (rw (← bars) (bar_sizes_pos (suc i) f.parent f.bars sized.0))
    where
      split : Split (suc i) (place (cursors_at h fs i) (own_at fs i f)) (placed h fs)
      split = record_split h fs lawful i f at

      sized : Sized (f ∷ drop (suc i) fs)
      sized = subst Sized at (all_drop BarsSized i fs lawful.sized)

      Ending : Placed → Type 0
      Ending x = end_of x ≤ suc (h.last x.piece.pool)

      own_ending : All Ending (place (cursors_at h fs i) (own_at fs i f))
      own_ending =
          all_left Ending (place (cursors_at h fs i) (own_at fs i f)) split.after
          (all_right Ending split.before _ (subst (All Ending) split.parts (all_in_pool h fs lawful room)))
