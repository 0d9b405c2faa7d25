-- The laws of a board's frame taken byte by byte: a loop's turn, and pieces in a row. Assumes nothing.
use Rattle.std.specs.Prelude.{◌≡◌, refl, Bool, true, false, cond, ◌||◌, List, [], ◌∷◌, ◌++◌, ℕ, suc, ◌+◌, ◌≤◌, ◌<◌, length, get_or, drop, eqb}
use Rattle.std.proofs.Common.{sym, ◌∙◌, add-one, drop_of_length-le, drop-cons}
use Rattle.std.proofs.Math.Path.{ap}
use Rattle.std.proofs.Math.Bool.{or-true, or-false}
use Rattle.records.specs.declared.frame.Stage.{Stage}
use Rattle.records.specs.declared.frame.Stage.TheVariants.{Start, Between, Inside}
use Rattle.records.specs.declared.frame.Event.{Event}
use Rattle.records.specs.declared.frame.Event.TheVariants.{Version, Foreign, Passed, Half, Begins, Byte}
use Rattle.records.specs.Frame.{event_of, inside_of, stage_after, stage_of, heard_of}
use Rattle.records.specs.FrameLaws.{stage_append, heard_append}
use Rattle.board.specs.Board.{is_version}
use Rattle.board_feed.specs.declared.Tally.{Tally}
use Rattle.board_feed.specs.Tally.{heard_by}
use Rattle.board_feed.specs.Shown.{shown_at, shown, board_stage, board_heard}

-- ## After the first byte

shown_inside : (left : ℕ) (s : List ℕ) → shown (inside_of left) s ≡ s
unfolding inside_of
shown_inside left [] = refl
shown_inside left (b ∷ s) = go (eqb left 0)
  where
    go : (t : Bool) → shown_at (cond t Between (Inside left)) b ∷ s ≡ b ∷ s
    go true = refl
    go false = refl

shown_later : (e : Event) (s : List ℕ) → shown (stage_after e) s ≡ s
shown_later Version [] = refl
shown_later Version (b ∷ s) = refl
shown_later Foreign [] = refl
shown_later Foreign (b ∷ s) = refl
shown_later Passed [] = refl
shown_later Passed (b ∷ s) = refl
shown_later (Half high) [] = refl
shown_later (Half high) (b ∷ s) = refl
shown_later (Begins size) s = shown_inside size s
shown_later (Byte byte left) s = shown_inside left s

-- ## A loop over a piece

module _ (g : Stage) (p : List ℕ) (i : ℕ) where
  abbrev next : Event
  next = event_of g (shown_at g (get_or p i 0))

  opened : i < length p → shown g (drop i p) ≡ shown_at g (get_or p i 0) ∷ shown (stage_after next) (drop (i + 1) p)
  opened h =
      rw (drop-cons p i 0 h, add-one i)
      (ap (λ (s : List ℕ). shown_at g (get_or p i 0) ∷ s) (sym (shown_later next (drop (suc i) p))))

  pub board_stage_at : i < length p → board_stage g (drop i p) ≡ board_stage (stage_after next) (drop (i + 1) p)
  unfolding stage_of
  board_stage_at h = ap (stage_of g) (opened h)

  pub board_stage_past : length p ≤ i → board_stage g (drop i p) ≡ g
  unfolding stage_of
  board_stage_past h = rw (drop_of_length-le p h)

  module _ (t : Tally) where
    pub board_heard_at : i < length p → board_heard g t (drop i p) ≡ board_heard (stage_after next) (heard_by t next) (drop (i + 1) p)
    unfolding heard_of
    board_heard_at h = ap (heard_of heard_by g t) (opened h)

    pub board_heard_past : length p ≤ i → board_heard g t (drop i p) ≡ t
    unfolding heard_of
    board_heard_past h = rw (drop_of_length-le p h)

-- ## Pieces in a row

shown_past : (g : Stage) (x : ℕ) (a b : List ℕ) → shown (stage_of g (x ∷ a)) b ≡ b
unfolding stage_of
shown_past g x [] b = shown_later (event_of g x) b
shown_past g x (y ∷ a) b = shown_past (stage_after (event_of g x)) y a b

pub board_stage_append : (g : Stage) (a b : List ℕ) → board_stage g (a ++ b) ≡ board_stage (board_stage g a) b
unfolding stage_of
board_stage_append g [] b = refl
board_stage_append g (v ∷ a) b =
    let x = shown_at g v in
    stage_append g (x ∷ a) b ∙ ap (stage_of (stage_of g (x ∷ a))) (sym (shown_past g x a b))

pub board_heard_append : (g : Stage) (t : Tally) (a b : List ℕ)
    → board_heard g t (a ++ b) ≡ board_heard (board_stage g a) (board_heard g t a) b
unfolding stage_of heard_of
board_heard_append g t [] b = refl
board_heard_append g t (v ∷ a) b =
    let x = shown_at g v in
    heard_append heard_by g t (x ∷ a) b
    ∙ ap (heard_of heard_by (stage_of g (x ∷ a)) (heard_of heard_by g t (x ∷ a))) (sym (shown_past g x a b))

-- ## The version

pub shown_version : (v : ℕ) → eqb (shown_at Start v) 1 ≡ is_version v
shown_version v = go (eqb v 2)
  where
    go : (t : Bool) → eqb (cond t 1 v) 1 ≡ eqb v 1 || t
    go true = sym (or-true (eqb v 1))
    go false = sym (or-false (eqb v 1))
