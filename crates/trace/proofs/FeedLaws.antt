-- Calls in a row: a piece that was refused was not taken, so it changes neither the lines nor the end state. Assumes nothing.
use Rattle.std.specs.Prelude.{◌≡◌, ℕ, suc, ◌+◌, ◌-◌, ◌*◌, ◌<◌, ◌≤◌, Bool, true, false, cond, List, [], ◌∷◌, ◌++◌, length, take, drop, ◌==◌, nat_le}
use Rattle.std.proofs.Math.Path.{refl, ap}
use Rattle.std.proofs.Common.{ap₂, ◌∙◌, zero-add, mul-suc, add-one, length-append, drop_of_length-le, drop-drop, le-leb}
use mathlib.Core.List.{flatten}
use native.Mathlib.Omega.{arith}
use Rattle.std.proofs.lemmas.List.Edits.{sets, sets-eq}
use Rattle.std.proofs.Math.Seq.{take-length}
use Rattle.std.proofs.lemmas.Bool.{lt-leb}
use Rattle.records.specs.declared.Next.TheVariants.{Record}
use Rattle.records.specs.declared.frame.Stage.{Stage}
use Rattle.records.specs.declared.frame.Stage.TheVariants.{Start, Other, Between, Length, Inside}
use Rattle.records.specs.declared.frame.Event.{Event}
use Rattle.records.specs.declared.frame.Event.TheVariants.{Version, Foreign, Byte}
use Rattle.records.specs.Frame.{version_of, event_of, inside_of, stage_after, heard_of, heard_bytes, heard_part}
use Rattle.records.specs.FrameLaws.{heard_record}
use Rattle.trace.specs.declared.Trace.{Trace}
use Rattle.text.specs.Text.{ascii}
use Rattle.trace.specs.declared.Emits.{Emits}
use Rattle.trace.specs.declared.Emits.TheVariants.{Nothing, Refusal, Line}
use Rattle.trace.specs.Annotated.{front_length, number_after, version_line, annotated}
use Rattle.trace.specs.Trace.{no_bytes, fresh, Account, account_of}
use Rattle.trace.specs.Trace.{emitted_by, number_by, heard_by, state_of, header_by, Told, text_of, told_by}
use Rattle.trace.specs.Trace.{line_at, lines_of, next_in, count_on, count_by, line_count, end_line}
use Rattle.trace.proofs.TraceLaws.{line_suc, heard_related, state_all, lines_all, pieces_told, between_elim}
use Rattle.trace.specs.Feed.{text_put, taken_fed, refused_fed, fed_of}

-- ## A text at the front of a room

module _ (text out : List ℕ) where
  pub put_front : length text ≤ length out → sets out 0 text ≡ text_put text out
  unfolding text_put
  put_front h =
      rw (le-leb (length text) (length out) h)
      (sets-eq text out 0 (omega arith) ∙ ap (λ (n : ℕ). text ++ drop n out) (zero-add (length text)))

  pub short_front : length out < length text → out ≡ text_put text out
  unfolding text_put
  short_front h = rw (lt-leb (length text) (length out) h)

-- zeros over all that was kept
pub let_go : (h h' : List ℕ) → length h ≡ front_length → h' ≡ sets h 0 no_bytes → h' ≡ no_bytes
let_go h h' l e =
    let past : length h ≤ 16 = omega arith in
    e ∙ sets-eq no_bytes h 0 (omega arith) ∙ ap (λ (r : List ℕ). no_bytes ++ r) (drop_of_length-le h past)

-- ## Lines of at most so many bytes

-- what the number's type says
abbrev pub Sound : ℕ → Type 0
Sound number = number < 18446744073709551616

number_sound : (n : ℕ) → Sound (number_after n)
unfolding number_after
number_sound n = omega arith

sound_by : (m : Emits) (k : ℕ) → Sound k → Sound (number_by m k)
sound_by Nothing k s = s
sound_by Refusal k s = s
sound_by Line k s = number_sound k

one_more : (most n : ℕ) → most * (n + 1) ≡ most * n + most
one_more most n = ap (λ (k : ℕ). most * k) (add-one n) ∙ mul-suc most n

-- which is no less than another version's refusal has
module _ (line : ℕ → List ℕ → List ℕ) (most : ℕ) (some : 11 ≤ most)
    (short : (n : ℕ) (header : List ℕ) → Sound n → length (line n header) ≤ most) where
  pub text_le : (m : Emits) (n : ℕ) (header : List ℕ) → Sound n → length (text_of line m n header) ≤ most
  unfolding ascii
  text_le Nothing n header s = omega arith
  text_le Refusal n header s = omega arith
  text_le Line n header s = short n header s

  -- each that was counted is at most so long
  abbrev Within : Told → ℕ → Type 0
  Within t n = (length t.lines ≤ most * n) × Sound t.account.number

  on_within : (x : List ℕ) (n k : ℕ) (header : List ℕ) (m : Emits) → length x ≤ most * n → Sound (number_by m k)
      → length (x ++ text_of line m (number_by m k) header) ≤ most * count_on m n
  on_within x n k header Nothing l s = omega (arith, length-append x [])
  on_within x n k header Refusal l s =
      omega (arith, length-append x version_line, text_le Refusal k header s, one_more most n)
  on_within x n k header Line l s =
      omega (arith, length-append x (line (number_after k) header), text_le Line (number_after k) header s, one_more most n)

  -- counting tells that the lines fit
  pub lines_le : (t : Trace) (piece : List ℕ) → Sound t.number → length (lines_of line t piece) ≤ most * line_count t.stage piece
  unfolding lines_of line_count
  lines_le t piece s =
      (heard_related (told_by line) count_by Within
      (λ x n e w.
      let sound = sound_by (emitted_by e) x.account.number w.1 in
      (on_within x.lines n x.account.number (header_by e x.account) (emitted_by e) w.0 sound, sound))
      t.stage (record { account = account_of t; lines = [] }) 0 piece (omega arith, s)
      ).0

pub count_le : (m : Emits) (n : ℕ) → count_on m n ≤ n + 1
count_le Nothing n = omega arith
count_le Refusal n = omega arith
count_le Line n = omega arith

-- there are no more lines than bytes
count_from_lem : (g : Stage) (n : ℕ) (piece : List ℕ) → heard_of count_by g n piece ≤ n + length piece
unfolding heard_of
count_from_lem g n [] = omega arith
count_from_lem g n (b ∷ piece) =
    let e = event_of g b in omega (arith, count_from_lem (stage_after e) (count_by n e) piece, count_le (emitted_by e) n)

pub count_le_length : (g : Stage) (piece : List ℕ) → line_count g piece ≤ length piece
unfolding line_count
count_le_length g piece = omega (arith, count_from_lem g 0 piece)

-- a record takes two bytes at least: where the bytes so far are owed a line, one byte may bring it
abbrev owed : Stage → ℕ
owed Start = 1
owed Other = 0
owed Between = 0
owed (Length high) = 1
owed (Inside left) = 1

record_owed : (left n : ℕ) → 2 * count_on (line_at left) n + owed (inside_of left) ≤ 2 * n + 2
unfolding line_at inside_of
record_owed left n = go (left == 0)
  where
    go : (b : Bool) → 2 * count_on (cond b Line Nothing) n + owed (cond b Between (Inside left)) ≤ 2 * n + 2
    go true = omega arith
    go false = omega arith

byte_owed : (g : Stage) (b n : ℕ) → 2 * count_by n (event_of g b) + owed (stage_after (event_of g b)) ≤ 2 * n + 1 + owed g
unfolding version_of
byte_owed Start b n = go (b == 1)
  where
    go : (t : Bool) → 2 * count_by n (cond t Version Foreign) + owed (stage_after (cond t Version Foreign)) ≤ 2 * n + 1 + 1
    go true = omega arith
    go false = omega arith
byte_owed Other b n = omega arith
byte_owed Between b n = omega arith
byte_owed (Length high) b n = omega (arith, record_owed (high * 256 + b) n)
byte_owed (Inside left) b n = omega (arith, record_owed (left - 1) n)

half_from : (g : Stage) (n : ℕ) (piece : List ℕ) → 2 * heard_of count_by g n piece ≤ 2 * n + length piece + owed g
unfolding heard_of
half_from g n [] = omega arith
half_from g n (b ∷ piece) =
    let e = event_of g b in omega (arith, half_from (stage_after e) (count_by n e) piece, byte_owed g b n)

owed_le : (g : Stage) → owed g ≤ 1
owed_le Start = omega arith
owed_le Other = omega arith
owed_le Between = omega arith
owed_le (Length high) = omega arith
owed_le (Inside left) = omega arith

-- nor more than half of them, and one for a record that began before
pub count_le_half : (g : Stage) (piece : List ℕ) → 2 * line_count g piece ≤ length piece + 1
unfolding line_count
count_le_half g piece = omega (arith, half_from g 0 piece, owed_le g)

-- a record that is whole is one line
bytes_counted : (b n : ℕ) (q : List ℕ) → heard_bytes count_by (suc (length q)) n (b ∷ q) ≡ n + 1
unfolding heard_bytes line_at
bytes_counted b n [] = refl
bytes_counted b n (c ∷ q) =
    let e : suc (suc (length q)) - 1 ≡ suc (length q) = omega arith in
    ap (λ (m : ℕ). heard_bytes count_by m (count_by n (Byte b m)) (c ∷ q)) e
    ∙ ap (λ (m : Emits). heard_bytes count_by (suc (length q)) (count_on m n) (c ∷ q)) (line_suc (length q))
    ∙ bytes_counted c n q

part_counted : (n : ℕ) (p : List ℕ) → heard_part count_by n p ≡ n + 1
unfolding heard_part heard_bytes line_at
part_counted n [] = refl
part_counted n (b ∷ q) =
    ap (λ (m : Emits). heard_bytes count_by (suc (length q)) (count_on m n) (b ∷ q)) (line_suc (length q)) ∙ bytes_counted b n q

pub count_whole : (g : Stage) (n : ℕ) (p : List ℕ) (i size : ℕ) → next_in g (drop i p) ≡ Record size
    → heard_of count_by g n (drop i p) ≡ heard_of count_by g (n + 1) (drop (i + 2 + size) p)
count_whole g n p i size is =
    between_elim (λ (g : Stage). heard_of count_by g n (drop i p) ≡ heard_of count_by g (n + 1) (drop (i + 2 + size) p)) g (drop i p) size is
    (λ whole.
    let e : i + (2 + size) ≡ i + 2 + size = omega arith in
    heard_record count_by (λ a b. refl) (drop i p) size whole n
    ∙ ap₂ (heard_of count_by Between) (part_counted n (take size (drop 2 (drop i p))))
    (drop-drop (2 + size) i p ∙ ap (λ (j : ℕ). drop j p) e))

-- a state's number stays one of 64 bits
pub state_sound : (t : Trace) (piece : List ℕ) → Sound t.number → Sound (state_of t piece).number
unfolding state_of
state_sound t piece s =
    heard_related heard_by (λ (n : ℕ) (e : Event). n) (λ (a : Account) (n : ℕ). Sound a.number)
    (λ a n e. sound_by (emitted_by e) a.number)
    t.stage (account_of t) 0 piece s

-- ## Calls

-- a piece with the room that it was given
pub record Call : Type 0 where
  pub piece : List ℕ
  pub room : ℕ

module _ (line : ℕ → List ℕ → List ℕ) where
  abbrev pub fitting : Trace → Call → Bool
  fitting t c = nat_le (length (lines_of line t c.piece)) c.room

  -- the pieces that were taken
  unfoldable pub taken : Trace → List Call → List (List ℕ)
  taken t [] = []
  taken t (c ∷ cs) = cond (fitting t c) (c.piece ∷ taken (state_of t c.piece) cs) (taken t cs)

  -- the state after the calls, each by its own answer
  unfoldable pub state_called : Trace → List Call → Trace
  state_called t [] = t
  state_called t (c ∷ cs) = state_called (fed_of line t c.piece c.room).state cs

  -- the lines that the calls put, each by its own answer
  unfoldable pub lines_called : Trace → List Call → List ℕ
  lines_called t [] = []
  lines_called t (c ∷ cs) =
      take (fed_of line t c.piece c.room).written (lines_of line t c.piece)
      ++ lines_called (fed_of line t c.piece c.room).state cs

  -- the end state is that of the pieces that were taken
  pub called_state : (t : Trace) (cs : List Call) → state_called t cs ≡ state_all t (taken t cs)
  unfolding state_called state_all taken fed_of
  called_state t [] = refl
  called_state t (c ∷ cs) = go (fitting t c) (λ u. called_state u cs)
    where
      go : (b : Bool) → ((u : Trace) → state_called u cs ≡ state_all u (taken u cs))
          → state_called (cond b (taken_fed line t c.piece) (refused_fed line t)).state cs
          ≡ state_all t (cond b (c.piece ∷ taken (state_of t c.piece) cs) (taken t cs))
      go true on = on (state_of t c.piece)
      go false on = on t

  -- and the lines are theirs
  pub called_lines : (t : Trace) (cs : List Call) → lines_called t cs ≡ lines_all line t (taken t cs)
  unfolding lines_called lines_all taken fed_of
  called_lines t [] = refl
  called_lines t (c ∷ cs) = go (fitting t c) (λ u. called_lines u cs)
    where
      p : List ℕ
      p = lines_of line t c.piece

      go : (b : Bool) → ((u : Trace) → lines_called u cs ≡ lines_all line u (taken u cs))
          → take (cond b (taken_fed line t c.piece) (refused_fed line t)).written p
          ++ lines_called (cond b (taken_fed line t c.piece) (refused_fed line t)).state cs
          ≡ lines_all line t (cond b (c.piece ∷ taken (state_of t c.piece) cs) (taken t cs))
      go true on = ap₂ ◌++◌ (take-length p) (on (state_of t c.piece))
      go false on = on t

  -- from a fresh state, the calls' lines and the end's are those of the pieces that were taken, put together
  pub calls_told : (cs : List Call)
      → lines_called fresh cs ++ end_line (state_called fresh cs) ≡ annotated line (flatten (taken fresh cs))
  calls_told cs =
      ap₂ (λ (x : List ℕ) (t : Trace). x ++ end_line t) (called_lines fresh cs) (called_state fresh cs)
      ∙ pieces_told line (taken fresh cs)
