-- Wherever the cuts fall, an input of any length comes to the audit's answer on all its bytes. Assumes nothing.
use Rattle.std.specs.Prelude.{◌≡◌, Bool, cond, ℕ, ◌+◌, ◌-◌, ◌≤◌, ◌<◌, min, length, take, drop}
use Rattle.std.proofs.Math.Path.{refl, ap₂}
use Rattle.std.proofs.Common.{sym, ap, ◌∙◌, arith, length-drop, length-take-le}
use Rattle.std.proofs.Math.Bool.{true, false}
use mathlib.Core.List.{List, [], ◌++◌, flatten}
use Rattle.std.proofs.Math.Dec.{ltb}
use borrow.Author.Tests.{lt-ltb, le-ltb, ltb-true, ltb-false}
use Rattle.text.specs.Kept.{Kept}
use Rattle.text.specs.KeptLaws.{kept_start, kept_more, count_of_kept, front_kept, all_kept, rest_append}
use Rattle.records.specs.declared.frame.Stage.{Stage}
use Rattle.records.specs.declared.frame.Stage.TheVariants.{Start}
use Rattle.records.specs.Frame.{stage_of, heard_of, ending_of}
use Rattle.records.specs.FrameLaws.{stage_append, heard_append}
use Rattle.records.specs.Pieces.{State, fed_all}
use Rattle.records.specs.PiecesLaws.{fed_all_lem}
use Rattle.board_record.specs.declared.Host.{Host}
use Rattle.board_record.specs.Host.{host_length, host_of_part, host_wrong}
use Rattle.sheet.specs.Sheet.{full_sheet, sheet_number}
use Rattle.audit_rule.specs.declared.Nesting.TheVariants.{OfKind}
use Rattle.audit_rule.specs.Audit.{audit_number}
use Rattle.auditor.specs.AuditorLaws.{off_edges_lem, sheet_refused}
use Rattle.audit_feed.specs.declared.Feed.{Feed}
use Rattle.audit_feed.specs.Program.{input_number, number_text, program_of}
use Rattle.audit_feed.specs.Feed.{most_bytes, kept, started, sheet_in, heard_by, fed_of, kept_after, number_at, frame_number, long_number}
use Rattle.audit_feed.specs.Feed.{is_long, number_of, answer_of}
use Rattle.audit_feed.specs.LongSheets.{long_sheet_number, frame_nonzero}

-- ## In the words of the code

pub fed_is : (f : Feed) (room piece : List ℕ) (n : ℕ) (g : Stage) (m : Bool) → length room ≡ kept
    → n ≡ min (f.count + length piece) (length room)
    → g ≡ stage_of f.stage (sheet_in f piece) → m ≡ heard_of heard_by f.stage f.misframed (sheet_in f piece)
    → ◌≡◌ {A = Feed} (record { count = n; stage = g; misframed = m }) (fed_of f piece)
fed_is f room piece n g m l e staged noted = rw (staged, noted, e, l)

-- ## What was fed

-- the sheet's bytes of an input
abbrev pub sheet_of : List ℕ → List ℕ
sheet_of s = drop host_length s

-- s was fed, from a start with some room
pub record Fed (s : List ℕ) (f : Feed) (room : List ℕ) : Type 0 where
  pub in_room : Kept kept s f.count room
  pub staged : f.stage ≡ stage_of Start (sheet_of s)
  pub noted : f.misframed ≡ heard_of heard_by Start false (sheet_of s)

fed_start : (room : List ℕ) → length room ≡ kept → Fed [] started room
unfolding stage_of heard_of
fed_start room l = record { in_room = kept_start kept room l; staged = refl; noted = refl }

-- a piece adds to the sheet what the host record does not take
sheet_append : (f : Feed) (s piece : List ℕ) → f.count ≡ min (length s) kept → sheet_of (s ++ piece) ≡ sheet_of s ++ sheet_in f piece
sheet_append f s piece e =
    let left : host_length - length s ≡ host_length - f.count = omega (arith, e) in
    rest_append host_length s piece ∙ ap (λ (m : ℕ). sheet_of s ++ drop m piece) left

fed_more : {s : List ℕ} {f : Feed} {room : List ℕ} → Fed s f room → (piece : List ℕ)
    → Fed (s ++ piece) (fed_of f piece) (kept_after f room piece)
fed_more {s} {f} {room} before piece =
    let more = sheet_append f s piece (count_of_kept before.in_room) in
    record {
      in_room = kept_more before.in_room piece;
      staged =
          ap (λ (g : Stage). stage_of g (sheet_in f piece)) before.staged
          ∙ sym (ap (stage_of Start) more ∙ stage_append Start (sheet_of s) (sheet_in f piece));
      noted =
          ap₂ (λ (g : Stage) (m : Bool). heard_of heard_by g m (sheet_in f piece)) before.staged before.noted
          ∙ sym (ap (heard_of heard_by Start false) more ∙ heard_append heard_by Start false (sheet_of s) (sheet_in f piece));
    }

-- ## Any input is audited

-- with a sheet longer than a full one
module _ (s : List ℕ) (long : most_bytes < length s) where
  long_sheet : full_sheet < length (sheet_of s)
  long_sheet = omega (arith, length-drop host_length s)

  long_input : (n : ℕ) → n ≡ sheet_number (sheet_of s) → (n ≡ 0 → ⊥)
      → cond (host_wrong (host_of_part (take host_length s))) 26 n ≡ input_number s
  unfolding input_number audit_number
  long_input n e d = go (host_wrong h) refl
    where
      h : Host
      h = host_of_part (take host_length s)

      size : length (take host_length s) ≡ host_length
      size = length-take-le host_length s (omega arith)

      go : (b : Bool) → host_wrong h ≡ b → cond b 26 n ≡ audit_number (take host_length s) (sheet_of s)
      go true w = sym (off_edges_lem OfKind (take host_length s) (sheet_of s) size h refl (host_wrong h) refl w)
      go false w = sym (sheet_refused OfKind (take host_length s) (sheet_of s) size h refl (host_wrong h) refl w n e d)

module _ {s : List ℕ} {f : Feed} {room : List ℕ} (fed : Fed s f room) where
  count_is : f.count ≡ min (length s) kept
  count_is = count_of_kept fed.in_room

  number_is : most_bytes < length s → frame_number f ≡ sheet_number (sheet_of s)
  unfolding frame_number
  number_is h =
      ap₂ (λ (g : Stage) (m : Bool). number_at (ending_of g) m) fed.staged fed.noted
      ∙ long_sheet_number (sheet_of s) (long_sheet s h)

  number_nonzero : frame_number f ≡ 0 → ⊥
  unfolding frame_number
  number_nonzero = frame_nonzero (ending_of f.stage) f.misframed

  is_long_lem : most_bytes < length s → is_long f ≡ true
  unfolding is_long
  is_long_lem h = lt-ltb most_bytes f.count (omega (arith, count_is))

  is_short_lem : length s ≤ most_bytes → is_long f ≡ false
  unfolding is_long
  is_short_lem h = le-ltb most_bytes f.count (omega (arith, count_is))

  pub any_number : number_of f room ≡ input_number s
  unfolding number_of long_number
  any_number = go (ltb most_bytes (length s)) refl
    where
      go : (b : Bool) → ltb most_bytes (length s) ≡ b → number_of f room ≡ input_number s
      go true e =
          let h = ltb-true most_bytes (length s) e in
          rw (is_long_lem h, front_kept fed.in_room host_length (omega arith) (omega arith))
          (long_input s h (frame_number f) (number_is h) number_nonzero)
      go false e = let h = ltb-false most_bytes (length s) e in rw (is_short_lem h, all_kept fed.in_room (omega arith))

-- ## Pieces

abbrev pub next : State Feed → List ℕ → State Feed
next t piece = record { feed = fed_of t.feed piece; room = kept_after t.feed t.room piece }

abbrev pub at_end : List (List ℕ) → List ℕ → State Feed
at_end pieces room = fed_all next (record { feed = started; room = room }) pieces

-- from a start, any pieces come to the audit of all their bytes, and to what the program prints for them
pub record AuditedWhole (pieces : List (List ℕ)) (room : List ℕ) : Type 0 where
  pub number_is : number_of (at_end pieces room).feed (at_end pieces room).room ≡ input_number (flatten pieces)
  pub answer_is : answer_of (at_end pieces room).feed (at_end pieces room).room ≡ program_of (flatten pieces)

pub pieces_audited : (pieces : List (List ℕ)) (room : List ℕ) → length room ≡ kept → AuditedWhole pieces room
unfolding answer_of
pieces_audited pieces room l =
    let f =
    fed_all_lem next (λ s t. Fed s t.feed t.room) (λ s t f piece. fed_more f piece) [] (record { feed = started; room = room }) pieces
    (fed_start room l) in
    let n = any_number f in
    record { number_is = n; answer_is = ap number_text n }
